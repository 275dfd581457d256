-- Each public function's contract allows one result, whatever the arguments. Assumes nothing.
use contract.Lifetimes.{Lfts}
use denote.Ref.{Bor}
use mathlib.Core.List.{List}
use Prim.Native.Nat.{ℕ}
use Rattle.base.proofs.Results.{OneResult, one_result}
use Rattle.steps.specs.declared.Answer.{Answer}
use Rattle.traces.specs.declared.CutLine.{CutLine}
use Rattle.traces.specs.Writing.{nothing_kept, kept_over, pair_made}
use Rattle.traces.proofs.nothing_kept.Reads as nothing_kept_reads
use Rattle.traces.proofs.keep.Reads as keep_reads
use Rattle.traces.proofs.pair_line.Reads as pair_line_reads

pub nothing_kept_lem : OneResult (λ x. nothing_kept_reads.Learnt tt tt x tt)
nothing_kept_lem = one_result nothing_kept

pub keep_lem : (κs : Lfts 1) (k : CutLine) (bytes : Bor (List ℕ)) → OneResult (λ x. keep_reads.Learnt κs (k, (bytes, tt)) x (k, (bytes, tt)))
keep_lem κs k bytes = one_result (kept_over k bytes.now)

pub pair_line_lem : (k : CutLine) (a : Answer) → OneResult (λ x. pair_line_reads.Learnt tt (k, (a, tt)) x (k, (a, tt)))
pair_line_lem k a = one_result (pair_made k a)
