-- A tick is strictly after the time that it starts from, and its p is the greater of that time's and the wall clock. Assumes nothing.
use mathlib.Core.Path.{◌≡◌, refl, subst}
use mathlib.Core.Bool.{Bool, true, false, cond}
use Prim.Native.Nat.{ℕ, ◌+◌, ◌<◌, ◌≤◌, max}
use native.Mathlib.Omega.{arith}
use lib.Dec.{ltb, leb}
use borrow.Author.Tests.{leb-true, leb-false, ltb-true}
use Rattle.clock.specs.declared.Time.{Time}
use Rattle.std.specs.declared.option.Option.{Option}
use Rattle.std.specs.declared.option.Option.TheVariants.{Some, None}
use Rattle.clock.specs.Times.{limit, is_before, tick_of}
use Rattle.clock.proofs.Order.{Before, before_is}

-- a tick from t: l grows below its limit, or the wall clock is above p
pub data TickIs (wall : ℕ) (t : Time) : Time → Type 0 where
  grows : wall ≤ t.p → t.l < limit → TickIs wall t (record { p = t.p; l = t.l + 1 })
  jumps : t.p < wall → TickIs wall t (record { p = wall; l = 0 })

pub tick_is : (wall : ℕ) (t u : Time) → tick_of wall t ≡ Some u → TickIs wall t u
unfolding tick_of
tick_is wall t u e = go (leb wall t.p) refl (ltb t.l limit) refl e
  where
    from : (v : Time) → ◌≡◌ {A = Option Time} (Some v) (Some u) → TickIs wall t v → TickIs wall t u
    from v q k = let z : v ≡ u = cc in subst (TickIs wall t) z k

    go : (a : Bool) → leb wall t.p ≡ a → (b : Bool) → ltb t.l limit ≡ b
        → cond a (cond b (Some (record { p = t.p; l = t.l + 1 })) None) (Some (record { p = wall; l = 0 })) ≡ Some u → TickIs wall t u
    go true h true k q = from _ q (grows (leb-true _ _ h) (ltb-true _ _ k))
    go true h false k q = let z : ◌≡◌ {A = ℕ} 0 1 = cc in absurd (omega arith)
    go false h b k q = from _ q (jumps (leb-false _ _ h))

after : {wall : ℕ} {t u : Time} → TickIs wall t u → Before t u
after (grows h k) = record { le = omega arith; eq = λ r. omega arith }
after (jumps h) = record { le = omega arith; eq = λ r. absurd (omega arith) }

pub tick_after : (wall : ℕ) (t u : Time) → tick_of wall t ≡ Some u → is_before t u ≡ true
tick_after wall t u e = before_is t u (after (tick_is wall t u e))

greater : {wall : ℕ} {t u : Time} → TickIs wall t u → u.p ≡ max wall t.p
greater (grows h k) = omega arith
greater (jumps h) = omega arith

pub tick_p : (wall : ℕ) (t u : Time) → tick_of wall t ≡ Some u → u.p ≡ max wall t.p
tick_p wall t u e = greater (tick_is wall t u e)
