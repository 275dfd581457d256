-- Laws of `greatest`: what bounds it, and what it bounds. Assumes nothing.
use Prim.Native.Nat.{ℕ, zero, suc, ◌<◌, ◌≤◌}
use native.Mathlib.Nat.{eq-or-lt_of_le, le_of_suc-le-suc, not-suc-le-zero}
use native.Mathlib.Omega.{arith}
use mathlib.Core.Logic.{⊎_elim}
use Rattle.base.specs.Numbers.{greatest}

module _ (f : ℕ → ℕ) where
  -- no value is above it
  pub greatest_above : (n i : ℕ) → i < n → f i ≤ greatest n f
  unfolding greatest
  greatest_above zero i h = absurd (not-suc-le-zero h)
  greatest_above (suc n) i h =
      ⊎_elim (λ e. rw e (omega arith)) (λ l. omega (arith, greatest_above n i l)) (eq-or-lt_of_le (le_of_suc-le-suc h))

  -- it is not above what bounds every value
  pub greatest_below : (n k : ℕ) → ((i : ℕ) → i < n → f i ≤ k) → greatest n f ≤ k
  unfolding greatest
  greatest_below zero k h = omega arith
  greatest_below (suc n) k h = omega (arith, h n (omega arith), greatest_below n k (λ i l. h i (omega arith)))
