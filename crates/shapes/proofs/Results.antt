-- Each public function's contract allows one result, whatever the arguments. Assumes nothing.
use contract.Lifetimes.{Lfts}
use denote.Ref.{Bor}
use mathlib.Core.List.{List}
use Prim.Native.Nat.{ℕ}
use Rattle.base.proofs.Results.{OneResult, one_result}
use Rattle.shapes.specs.declared.Shape.{Shape}
use Rattle.shapes.specs.Walk.{fresh_shape, due_of, walked, is_shaped}
use Rattle.shapes.proofs.begin.Reads as begin_reads
use Rattle.shapes.proofs.expected.Reads as expected_reads
use Rattle.shapes.proofs.walk.Reads as walk_reads
use Rattle.shapes.proofs.is_shaped.Reads as is_shaped_reads

pub begin_lem : OneResult (λ x. begin_reads.Learnt tt tt x tt)
begin_lem = one_result fresh_shape

pub expected_lem : (s : Shape) → OneResult (λ x. expected_reads.Learnt tt (s, tt) x (s, tt))
expected_lem s = one_result (due_of s.left)

pub walk_lem : (κs : Lfts 1) (s : Shape) (piece : Bor (List ℕ)) → OneResult (λ x. walk_reads.Learnt κs (s, (piece, tt)) x (s, (piece, tt)))
walk_lem κs s piece = one_result (walked s piece.now)

pub is_shaped_lem : (s : Shape) → OneResult (λ x. is_shaped_reads.Learnt tt (s, tt) x (s, tt))
is_shaped_lem s = one_result (is_shaped s)
