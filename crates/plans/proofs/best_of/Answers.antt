-- `plans::best_of` meets its contract. Assumes nothing.
use mathlib.Core.Path.{◌≡◌}
use mathlib.Core.Bool.{Bool}
use Prim.Native.Nat.{ℕ, ◌+◌, ◌-◌, ◌<◌}
use native.Mathlib.Omega.{arith}
use Rattle.base.proofs.Bools.{said_no, said_yes}
use Rattle.plans.specs.Moves.{best}
use Rattle.plans.specs.Working.{AnswersAs}
use Rattle.plans.proofs.Best.{best_none, next_moves, next_stays}
use Rattle.plans.proofs.best_of.Goals.{else-not-holds_own, then-not-holds_own}
use Rattle.plans.proofs.best_of.Goals as goal

pub loop-i-init : goal.loop-i-init
loop-i-init g c = (omega arith, omega arith, omega arith, λ h t. best_none h)

pub loop-i-preserved : goal.loop-i-preserved
loop-i-preserved g c =
    let i = c.loop-i.i in
    let a = c.loop-i.a in
    let d = c.if-not-holds_own.a in
    let was = c.loop-i.invariant in
    let next : (d < i + 1) × ((h : ℕ → ℕ → Bool) → AnswersAs (goal.F-post g c.args.holds_own) h → d ≡ best h (i + 1 - 1)) =
    elim c.if-not-holds_own.branch [
      | then-not-holds_own w ↦ (
        omega (arith, w.a-is),
        λ h t. (next_moves h a d i was.0 (was.3 h t) (said_no _ _ (t a i c.holds_own.result (omega arith) (omega arith) c.holds_own.ensures) w.if-not-holds_own.true) w.a-is).1,
      )
      | else-not-holds_own w ↦ (
        omega (arith, w.a-is),
        λ h t. (next_stays h a d i was.0 was.1 (was.3 h t) (said_yes _ _ (t a i c.holds_own.result (omega arith) (omega arith) c.holds_own.ensures) w.if-not-holds_own.false) w.a-is).1,
      )
    ] in
    (omega arith, next.0, omega arith, next.1)
