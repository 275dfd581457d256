-- Each public function's contract allows one result, whatever the argument. Assumes nothing.
use mathlib.Core.Bool.{true}
use Rattle.base.proofs.Results.{OneResult, one_result}
use Rattle.clock.specs.declared.Time.{Time}
use Rattle.server_log.specs.declared.Entry.{Entry}
use Rattle.server_log.specs.declared.Log.{Log}
use Rattle.server_log.specs.declared.rows.Latest.{Latest}
use Rattle.server_log.specs.declared.rows.Rows.{Rows}
use Rattle.mail.specs.declared.Mail.{Mail}
use Rattle.mail.specs.declared.Queue.{Queue}
use Rattle.mail.specs.declared.Report.{Report}
use Rattle.mail.specs.declared.Note.{Note}
use Rattle.cluster.specs.declared.Head.{Head}
use Rattle.cluster.specs.declared.Server.{Server}
use Rattle.cluster.specs.declared.Cluster.{Cluster}
use Rattle.steps.specs.declared.Step.{Step}
use Rattle.steps.specs.Answers.{Telling}
use Rattle.fits.proofs.time_fits.Reads as time_fits_reads
use Rattle.fits.proofs.entry_fits.Reads as entry_fits_reads
use Rattle.fits.proofs.log_fits.Reads as log_fits_reads
use Rattle.fits.proofs.mail_fits.Reads as mail_fits_reads
use Rattle.fits.proofs.queue_fits.Reads as queue_fits_reads
use Rattle.fits.proofs.report_fits.Reads as report_fits_reads
use Rattle.fits.proofs.note_fits.Reads as note_fits_reads
use Rattle.fits.proofs.latest_fits.Reads as latest_fits_reads
use Rattle.fits.proofs.rows_fits.Reads as rows_fits_reads
use Rattle.fits.proofs.head_fits.Reads as head_fits_reads
use Rattle.fits.proofs.server_fits.Reads as server_fits_reads
use Rattle.fits.proofs.record_fits.Reads as record_fits_reads
use Rattle.fits.proofs.step_fits.Reads as step_fits_reads
use Rattle.fits.proofs.telling_fits.Reads as telling_fits_reads

pub time_fits_lem : (t : Time) → OneResult (λ x. time_fits_reads.Learnt tt (t, tt) x (t, tt))
time_fits_lem t x y p q = one_result true x y p.0 q.0

pub entry_fits_lem : (e : Entry) → OneResult (λ x. entry_fits_reads.Learnt tt (e, tt) x (e, tt))
entry_fits_lem e x y p q = one_result true x y p.0 q.0

pub log_fits_lem : (g : Log) → OneResult (λ x. log_fits_reads.Learnt tt (g, tt) x (g, tt))
log_fits_lem g x y p q = one_result true x y p.0 q.0

pub mail_fits_lem : (v : Mail) → OneResult (λ x. mail_fits_reads.Learnt tt (v, tt) x (v, tt))
mail_fits_lem v x y p q = one_result true x y p.0 q.0

pub queue_fits_lem : (v : Queue) → OneResult (λ x. queue_fits_reads.Learnt tt (v, tt) x (v, tt))
queue_fits_lem v x y p q = one_result true x y p.0 q.0

pub report_fits_lem : (v : Report) → OneResult (λ x. report_fits_reads.Learnt tt (v, tt) x (v, tt))
report_fits_lem v x y p q = one_result true x y p.0 q.0

pub note_fits_lem : (v : Note) → OneResult (λ x. note_fits_reads.Learnt tt (v, tt) x (v, tt))
note_fits_lem v x y p q = one_result true x y p.0 q.0

pub latest_fits_lem : (v : Latest) → OneResult (λ x. latest_fits_reads.Learnt tt (v, tt) x (v, tt))
latest_fits_lem v x y p q = one_result true x y p.0 q.0

pub rows_fits_lem : (r : Rows) → OneResult (λ x. rows_fits_reads.Learnt tt (r, tt) x (r, tt))
rows_fits_lem r x y p q = one_result true x y p.0 q.0

pub head_fits_lem : (h : Head) → OneResult (λ x. head_fits_reads.Learnt tt (h, tt) x (h, tt))
head_fits_lem h x y p q = one_result true x y p.0 q.0

pub server_fits_lem : (s : Server) → OneResult (λ x. server_fits_reads.Learnt tt (s, tt) x (s, tt))
server_fits_lem s x y p q = one_result true x y p.0 q.0

pub record_fits_lem : (c : Cluster) → OneResult (λ x. record_fits_reads.Learnt tt (c, tt) x (c, tt))
record_fits_lem c x y p q = one_result true x y p.0 q.0

pub step_fits_lem : (s : Step) → OneResult (λ x. step_fits_reads.Learnt tt (s, tt) x (s, tt))
step_fits_lem s x y p q = one_result true x y p.0 q.0

pub telling_fits_lem : (t : Telling) → OneResult (λ x. telling_fits_reads.Learnt tt (t, tt) x (t, tt))
telling_fits_lem t x y p q = one_result true x y p.0 q.0
