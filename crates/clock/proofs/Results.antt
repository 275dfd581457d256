-- Each public function's contract allows one result, whatever the arguments. Assumes nothing.
use Prim.Native.Nat.{ℕ}
use Rattle.base.proofs.Results.{OneResult, one_result}
use Rattle.clock.specs.declared.Time.{Time}
use Rattle.clock.specs.Times.{is_before, later_of, same_time, tick_of, zero_time}
use Rattle.clock.proofs.zero_time.Reads as zero_time_reads
use Rattle.clock.proofs.is_before.Reads as is_before_reads
use Rattle.clock.proofs.same_time.Reads as same_time_reads
use Rattle.clock.proofs.later.Reads as later_reads
use Rattle.clock.proofs.tick.Reads as tick_reads

pub zero_time_lem : OneResult (λ x. zero_time_reads.Learnt tt tt x tt)
zero_time_lem = one_result zero_time

pub is_before_lem : (s t : Time) → OneResult (λ x. is_before_reads.Learnt tt (s, (t, tt)) x (s, (t, tt)))
is_before_lem s t = one_result (is_before s t)

pub same_time_lem : (s t : Time) → OneResult (λ x. same_time_reads.Learnt tt (s, (t, tt)) x (s, (t, tt)))
same_time_lem s t = one_result (same_time s t)

pub later_lem : (s t : Time) → OneResult (λ x. later_reads.Learnt tt (s, (t, tt)) x (s, (t, tt)))
later_lem s t = one_result (later_of s t)

pub tick_lem : (wall : ℕ) (t : Time) → OneResult (λ x. tick_reads.Learnt tt (wall, (t, tt)) x (wall, (t, tt)))
tick_lem wall t = one_result (tick_of wall t)
