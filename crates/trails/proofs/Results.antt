-- The public function's contract allows one result, whatever the arguments. Assumes nothing.
use contract.Lifetimes.{Lfts}
use denote.MutBor.{MutBor}
use mathlib.Core.List.{List}
use Prim.Native.Nat.{ℕ}
use lib.ListN.{length}
use Rattle.base.proofs.Results.{OneOutcome, one_outcome}
use Rattle.cluster.specs.declared.Cluster.{Cluster}
use Rattle.traces.specs.declared.CutLine.{CutLine}
use Rattle.trails.specs.declared.Wanted.{Wanted}
use Rattle.trails.specs.Bytes.{lined_of, lined_out}
use Rattle.trails.proofs.put_line.Reads as put_line_reads

pub put_line_lem : (κs : Lfts 1) (w : Wanted) (n : ℕ) (c : Cluster) (k : CutLine) (out : MutBor (List ℕ))
    → OneOutcome (λ x o. put_line_reads.Learnt κs (w, (n, (c, (k, (out, tt))))) x (w, (n, (c, (k, (o, tt))))))
put_line_lem κs w n c k out = one_outcome (lined_of w n c k (length out.now)) (lined_out w n c k out.now)
