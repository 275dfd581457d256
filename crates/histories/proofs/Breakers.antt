-- What the search for the first breaker finds: each answer says just what it should. Assumes nothing.
use mathlib.Core.Path.{◌≡◌, refl}
use mathlib.Core.Bool.{Bool, true, false, cond}
use mathlib.Core.Logic.{⊎_elim}
use Prim.Native.Nat.{ℕ, zero, suc, ◌+◌, ◌<◌}
use native.Mathlib.Numerals.{add-one}
use native.Mathlib.Nat.{eq-or-lt_of_le, le_of_suc-le-suc}
use native.Mathlib.Omega.{arith}
use Rattle.histories.specs.declared.Checked.{Checked}
use Rattle.histories.specs.declared.Checked.TheVariants.{Accepted, Breaks, Refused}
use Rattle.histories.specs.Checking.{and_then, first_breaker}

-- k is the first number below n that fails
pub record First (n : ℕ) (p : ℕ → Bool) (k : ℕ) : Type 0 where
  pub below : k < n
  pub fails : p k ≡ false
  pub before : (i : ℕ) → i < k → p i ≡ true

-- a search accepts where no number fails, and names the first that does; it never refuses
abbrev pub Found : ℕ → (ℕ → Bool) → Checked → Type 0
Found n p Accepted = (i : ℕ) → i < n → p i ≡ true
Found n p (Breaks k) = First n p k
Found n p (Refused x) = ⊥

pub breaker_found : (n : ℕ) (p : ℕ → Bool) → Found n p (first_breaker n p)
unfolding first_breaker
breaker_found zero p = λ i h. absurd (omega arith)
breaker_found (suc n) p = go (first_breaker n p) (p n) refl (breaker_found n p)
  where
    go : (a : Checked) (b : Bool) → p n ≡ b → Found n p a → Found (suc n) p (and_then a (cond b Accepted (Breaks n)))
    go Accepted true e f = λ i h. ⊎_elim (λ q. rw q e) (λ l. f i l) (eq-or-lt_of_le (le_of_suc-le-suc h))
    go Accepted false e f = record { below = omega arith; fails = e; before = f }
    go (Breaks k) b e f = record { below = omega (arith, f.below); fails = f.fails; before = f.before }
    go (Refused x) b e f = f

-- ---- for a loop that stops at the first that fails

module _ (p : ℕ → Bool) where
  pub breaker_none : first_breaker 0 p ≡ Accepted
  unfolding first_breaker
  breaker_none = refl

  pub breaker_more : (n : ℕ) → first_breaker n p ≡ Accepted → p n ≡ true → first_breaker (n + 1) p ≡ Accepted
  unfolding first_breaker
  breaker_more n a e = rw (add-one n, a, e)

  pub breaker_here : (n i : ℕ) → i < n → first_breaker i p ≡ Accepted → p i ≡ false → Breaks i ≡ first_breaker n p
  unfolding first_breaker
  breaker_here zero i h a e = absurd (omega arith)
  breaker_here (suc n) i h a e =
      ⊎_elim (λ q. rw (← q, a, e)) (λ l. rw (← breaker_here n i l a e)) (eq-or-lt_of_le (le_of_suc-le-suc h))
