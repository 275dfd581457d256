-- What the loop of `plans::each_turn` keeps. Assumes nothing.
use mathlib.Core.Path.{◌≡◌}
use Prim.Native.Nat.{ℕ, ◌-◌}
use Rattle.plans.specs.Moves.{Move, turns}
use Rattle.plans.specs.Working.{Tries, work_of}
use Rattle.plans.proofs.each_turn.Given as goal

abbrev pub invariant-loop-k : goal.invariant-loop-k
invariant-loop-k g l =
    (move : ℕ → Move) → Tries (goal.F-post g l.turn) move → work_of l.v (turns move l.k (l.m - l.k)) ≡ work_of l.initial.v (turns move 0 l.m)
