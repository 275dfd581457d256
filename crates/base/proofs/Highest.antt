-- Laws of `highest`: what it finds passes and none above it does; and for loops that look from the end. Assumes nothing.
use mathlib.Core.Path.{◌≡◌, refl, ap}
use mathlib.Core.Bool.{Bool, true, false, cond}
use mathlib.Core.Logic.{⊎_elim}
use Prim.Native.Nat.{ℕ, zero, suc, ◌-◌, ◌<◌, ◌≤◌}
use native.Mathlib.Nat.{eq-or-lt_of_le, le_of_suc-le-suc}
use native.Mathlib.Omega.{arith}
use Rattle.base.specs.Numbers.{highest}
use Rattle.base.proofs.Bools.{not_both}
use Rattle.base.proofs.Facts.{lt_or_le}

module _ (p : ℕ → Bool) where
  -- looked for from the end
  pub highest_here : (n : ℕ) → (n ≡ 0 → ⊥) → p n ≡ true → highest p n ≡ n
  unfolding highest
  highest_here zero h e = absurd (h refl)
  highest_here (suc k) h e = rw e

  pub highest_down : (n : ℕ) → p n ≡ false → highest p n ≡ highest p (n - 1)
  unfolding highest
  highest_down zero e = refl
  highest_down (suc k) e = let z : k ≡ suc k - 1 = omega arith in rw e (ap (highest p) z)

  pub highest_none : (n : ℕ) → ((j : ℕ) → j ≤ n → p j ≡ false) → highest p n ≡ 0
  unfolding highest
  highest_none zero h = refl
  highest_none (suc k) h = rw (h (suc k) (omega arith)) (highest_none k (λ j l. h j (omega arith)))

  -- what is found is one of the numbers
  pub highest_le : (n : ℕ) → highest p n ≤ n
  unfolding highest
  highest_le zero = omega arith
  highest_le (suc k) = go (p (suc k)) (highest_le k)
    where
      go : (b : Bool) → highest p k ≤ k → cond b (suc k) (highest p k) ≤ suc k
      go true h = omega arith
      go false h = omega arith

  -- what is found passes
  pub highest_passes : (n : ℕ) → 1 ≤ highest p n → p (highest p n) ≡ true
  unfolding highest
  highest_passes zero h = absurd (omega arith)
  highest_passes (suc k) h = go (p (suc k)) refl (highest_passes k) h
    where
      go : (b : Bool) → p (suc k) ≡ b → (1 ≤ highest p k → p (highest p k) ≡ true) → 1 ≤ cond b (suc k) (highest p k)
          → p (cond b (suc k) (highest p k)) ≡ true
      go true q ih h = q
      go false q ih h = ih h

  -- and none above it does
  pub highest_above : (n j : ℕ) → highest p n < j → j ≤ n → p j ≡ false
  unfolding highest
  highest_above zero j h l = absurd (omega arith)
  highest_above (suc k) j h l = go (p (suc k)) refl (highest_above k j) h
    where
      go : (b : Bool) → p (suc k) ≡ b → (highest p k < j → j ≤ k → p j ≡ false) → cond b (suc k) (highest p k) < j → p j ≡ false
      go true q ih h = absurd (omega arith)
      go false q ih h = ⊎_elim (λ e. rw e q) (λ m. ih h (le_of_suc-le-suc m)) (eq-or-lt_of_le l)

  -- so what passes is not above it
  pub highest_from : (n j : ℕ) → j ≤ n → p j ≡ true → j ≤ highest p n
  highest_from n j l e = ⊎_elim (λ h. not_both (p j) e (highest_above n j h l)) (λ h. h) (lt_or_le (highest p n) j)

  -- and a number that passes, where none above it does, is the highest; 0 where none passes
  pub highest_is : (n k : ℕ) → k ≤ n → (1 ≤ k → p k ≡ true) → ((j : ℕ) → k < j → j ≤ n → p j ≡ false) → highest p n ≡ k
  highest_is n k within passes last = ⊎_elim lower (λ l. ⊎_elim higher (λ m. omega arith) (lt_or_le k (highest p n))) (lt_or_le (highest p n) k)
    where
      lower : highest p n < k → highest p n ≡ k
      lower l = not_both (p k) (passes (omega arith)) (highest_above n k l within)

      higher : k < highest p n → highest p n ≡ k
      higher l = not_both (p (highest p n)) (highest_passes n (omega arith)) (last (highest p n) l (highest_le n))
