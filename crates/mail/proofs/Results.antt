-- Each public function's contract allows one result, whatever the arguments. Assumes nothing.
use Rattle.std.proofs.Common.{Option}
use mathlib.Core.Bool.{Bool}
use Prim.Native.Nat.{ℕ}
use Rattle.base.proofs.Results.{OneResult, one_result}
use Rattle.mail.specs.declared.Report.{Report}
use Rattle.mail.specs.declared.Note.{Note}
use Rattle.mail.specs.declared.Queue.{Queue}
use Rattle.mail.specs.declared.Mail.{Mail}
use Rattle.mail.specs.Reports.{gives_way, note_of}
use Rattle.mail.specs.Queues.{oldest_taken, report_at}
use Rattle.mail.specs.Queues as queues
use Rattle.mail.specs.Mails.{note_at, with_source}
use Rattle.mail.specs.Mails as mails
use Rattle.mail.specs.Order.{is_unused, is_used, mail_ok, note_ok, notes_ok, queue_ok, slot_ok, source_ok}
use Rattle.mail.proofs.note_of.Reads as note_of_reads
use Rattle.mail.proofs.gives_way.Reads as gives_way_reads
use Rattle.mail.proofs.note_at.Reads as note_at_reads
use Rattle.mail.proofs.queued.Reads as queued_reads
use Rattle.mail.proofs.report_at.Reads as report_at_reads
use Rattle.mail.proofs.oldest_taken.Reads as oldest_taken_reads
use Rattle.mail.proofs.noted.Reads as noted_reads
use Rattle.mail.proofs.received.Reads as received_reads
use Rattle.mail.proofs.taken.Reads as taken_reads
use Rattle.mail.proofs.emptied.Reads as emptied_reads
use Rattle.mail.proofs.with_source.Reads as with_source_reads
use Rattle.mail.proofs.is_unused.Reads as is_unused_reads
use Rattle.mail.proofs.is_used.Reads as is_used_reads
use Rattle.mail.proofs.note_ok.Reads as note_ok_reads
use Rattle.mail.proofs.notes_ok.Reads as notes_ok_reads
use Rattle.mail.proofs.slot_ok.Reads as slot_ok_reads
use Rattle.mail.proofs.queue_ok.Reads as queue_ok_reads
use Rattle.mail.proofs.source_ok.Reads as source_ok_reads
use Rattle.mail.proofs.mail_ok.Reads as mail_ok_reads

pub note_of_lem : (r : Report) → OneResult (λ x. note_of_reads.Learnt tt (r, tt) x (r, tt))
note_of_lem r = one_result (note_of r)

pub gives_way_lem : (d e : Note) → OneResult (λ x. gives_way_reads.Learnt tt (d, (e, tt)) x (d, (e, tt)))
gives_way_lem d e = one_result (gives_way d e)

pub note_at_lem : (m : Mail) (i : ℕ) → OneResult (λ x. note_at_reads.Learnt tt (m, (i, tt)) x (m, (i, tt)))
note_at_lem m i = one_result (note_at m i)

pub queued_lem : (q : Queue) (r : Report) → OneResult (λ x. queued_reads.Learnt tt (q, (r, tt)) x (q, (r, tt)))
queued_lem q r = one_result (queues.queued q r)

pub report_at_lem : (q : Queue) (i : ℕ) → OneResult (λ x. report_at_reads.Learnt tt (q, (i, tt)) x (q, (i, tt)))
report_at_lem q i = one_result (report_at q i)

pub oldest_taken_lem : (q : Queue) → OneResult (λ x. oldest_taken_reads.Learnt tt (q, tt) x (q, tt))
oldest_taken_lem q = one_result (oldest_taken q)

pub noted_lem : (m : Mail) (r : Report) → OneResult (λ x. noted_reads.Learnt tt (m, (r, tt)) x (m, (r, tt)))
noted_lem m r = one_result (mails.noted m r)

pub received_lem : (m : Mail) (r : Report) → OneResult (λ x. received_reads.Learnt tt (m, (r, tt)) x (m, (r, tt)))
received_lem m r = one_result (mails.received m r)

pub taken_lem : (m : Mail) → OneResult (λ x. taken_reads.Learnt tt (m, tt) x (m, tt))
taken_lem m = one_result (mails.taken m)

pub emptied_lem : (m : Mail) → OneResult (λ x. emptied_reads.Learnt tt (m, tt) x (m, tt))
emptied_lem m = one_result (mails.emptied m)

pub with_source_lem : (m : Mail) (source : Option ℕ) → OneResult (λ x. with_source_reads.Learnt tt (m, (source, tt)) x (m, (source, tt)))
with_source_lem m source = one_result (with_source m source)

pub is_unused_lem : (n : Note) → OneResult (λ x. is_unused_reads.Learnt tt (n, tt) x (n, tt))
is_unused_lem n = one_result (is_unused n)

pub is_used_lem : (count who : ℕ) (n : Note) → OneResult (λ x. is_used_reads.Learnt tt (count, (who, (n, tt))) x (count, (who, (n, tt))))
is_used_lem count who n = one_result (is_used count who n)

pub note_ok_lem : (count i : ℕ) (n : Note) → OneResult (λ x. note_ok_reads.Learnt tt (count, (i, (n, tt))) x (count, (i, (n, tt))))
note_ok_lem count i n = one_result (note_ok count i n)

pub notes_ok_lem : (m : Mail) (count : ℕ) → OneResult (λ x. notes_ok_reads.Learnt tt (m, (count, tt)) x (m, (count, tt)))
notes_ok_lem m count = one_result (notes_ok count m)

pub slot_ok_lem : (count : ℕ) (live : Bool) (r : Report) → OneResult (λ x. slot_ok_reads.Learnt tt (count, (live, (r, tt))) x (count, (live, (r, tt))))
slot_ok_lem count live r = one_result (slot_ok count live r)

pub queue_ok_lem : (q : Queue) (count : ℕ) → OneResult (λ x. queue_ok_reads.Learnt tt (q, (count, tt)) x (q, (count, tt)))
queue_ok_lem q count = one_result (queue_ok count q)

pub source_ok_lem : (count i : ℕ) (source : Option ℕ) → OneResult (λ x. source_ok_reads.Learnt tt (count, (i, (source, tt))) x (count, (i, (source, tt))))
source_ok_lem count i source = one_result (source_ok count i source)

pub mail_ok_lem : (m : Mail) (count i : ℕ) → OneResult (λ x. mail_ok_reads.Learnt tt (m, (count, (i, tt))) x (m, (count, (i, tt))))
mail_ok_lem m count i = one_result (mail_ok count i m)
