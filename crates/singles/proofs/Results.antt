-- Each public function's contract allows one result, whatever the arguments. Assumes nothing.
use Prim.Native.Nat.{ℕ}
use Rattle.base.proofs.Results.{OneResult, one_result}
use Rattle.clock.specs.declared.Time.{Time}
use Rattle.cluster.specs.declared.Server.{Server}
use Rattle.singles.specs.Restarts.{restarts_of}
use Rattle.singles.specs.StepsDown.{steps_down_of}
use Rattle.singles.specs.TakesReport.{forwards, takes_report_of}
use Rattle.singles.specs.WallClock.{wall_clock_of}
use Rattle.singles.specs.Appends.{appends_of, stamp_done}
use Rattle.singles.specs.Writes.{writes_of}
use Rattle.singles.specs.WritesNothing.{writes_nothing_of}
use Rattle.singles.proofs.steps_down.steps_down.Reads as steps_down_reads
use Rattle.singles.proofs.wall_clock.wall_clock.Reads as wall_clock_reads
use Rattle.singles.proofs.restarts.restarts.Reads as restarts_reads
use Rattle.singles.proofs.writes.writes.Reads as writes_reads
use Rattle.singles.proofs.appends.stamped.Reads as stamped_reads
use Rattle.singles.proofs.appends.appends.Reads as appends_reads
use Rattle.singles.proofs.writes_nothing.writes_nothing.Reads as writes_nothing_reads
use Rattle.singles.proofs.takes_report.sends.Reads as sends_reads
use Rattle.singles.proofs.takes_report.takes_report.Reads as takes_report_reads

pub steps_down_lem : (s : Server) → OneResult (λ x. steps_down_reads.Learnt tt (s, tt) x (s, tt))
steps_down_lem s = one_result (steps_down_of s)

pub wall_clock_lem : (s : Server) → OneResult (λ x. wall_clock_reads.Learnt tt (s, tt) x (s, tt))
wall_clock_lem s = one_result (wall_clock_of s)

pub restarts_lem : (s : Server) → OneResult (λ x. restarts_reads.Learnt tt (s, tt) x (s, tt))
restarts_lem s = one_result (restarts_of s)

pub writes_lem : (s : Server) (key value : ℕ) (client : Time) → OneResult (λ x. writes_reads.Learnt tt (s, (key, (value, (client, tt)))) x (s, (key, (value, (client, tt)))))
writes_lem s key value client = one_result (writes_of s key value client)

pub writes_nothing_lem : (s : Server) → OneResult (λ x. writes_nothing_reads.Learnt tt (s, tt) x (s, tt))
writes_nothing_lem s = one_result (writes_nothing_of s)

pub stamped_lem : (s : Server) (key value : ℕ) (time : Time) → OneResult (λ x. stamped_reads.Learnt tt (s, (key, (value, (time, tt)))) x (s, (key, (value, (time, tt)))))
stamped_lem s key value time = one_result (stamp_done s key value time)

pub appends_lem : (s : Server) (key value : ℕ) (from : Time) → OneResult (λ x. appends_reads.Learnt tt (s, (key, (value, (from, tt)))) x (s, (key, (value, (from, tt)))))
appends_lem s key value from = one_result (appends_of s key value from)

pub sends_lem : (s : Server) → OneResult (λ x. sends_reads.Learnt tt (s, tt) x (s, tt))
sends_lem s = one_result (forwards s)

pub takes_report_lem : (s : Server) → OneResult (λ x. takes_report_reads.Learnt tt (s, tt) x (s, tt))
takes_report_lem s = one_result (takes_report_of s)
