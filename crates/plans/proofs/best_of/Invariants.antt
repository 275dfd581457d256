-- What the loop of `plans::best_of` keeps. Assumes nothing.
use mathlib.Core.Path.{◌≡◌}
use mathlib.Core.Bool.{Bool}
use Prim.Native.Nat.{ℕ, ◌≤◌, ◌<◌, ◌-◌}
use Rattle.plans.specs.Moves.{best}
use Rattle.plans.specs.Working.{AnswersAs}
use Rattle.plans.proofs.best_of.Given as goal

abbrev pub invariant-loop-i : goal.invariant-loop-i
invariant-loop-i g l =
    (1 ≤ l.i) × (l.a < l.i) × (l.i - 1 ≤ l.size - 1) × ((h : ℕ → ℕ → Bool) → AnswersAs (goal.F-post g l.holds_own) h → l.a ≡ best h (l.i - 1))
