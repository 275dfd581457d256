-- Laws of `every`, for a loop that stops at the first number that fails. Assumes nothing.
use mathlib.Core.Path.{◌≡◌, refl, sym, ap, ◌∙◌}
use mathlib.Core.Logic.{⊎_elim}
use mathlib.Core.Bool.{Bool, true, false, ◌&&◌}
use Prim.Native.Nat.{ℕ, zero, suc, ◌+◌, ◌<◌}
use native.Mathlib.Nat.{not-suc-le-zero, le_of_suc-le-suc, eq-or-lt_of_le}
use native.Mathlib.Numerals.{add-one}
use native.Mathlib.Omega.{arith}
use mathlib.Core.List.{List, [], ◌∷◌}
use lib.ListN.{length, get_or}
use Rattle.std.specs.List.{list_all}
use Rattle.base.specs.Numbers.{every}
use Rattle.base.proofs.Bools.{and_both, and_left, and_right, and_no, and_true, and_assoc}

module _ (p : ℕ → Bool) where
  pub every_none : every 0 p ≡ true
  unfolding every
  every_none = refl

  pub every_more : (n : ℕ) → every n p ≡ true → p n ≡ true → every (n + 1) p ≡ true
  unfolding every
  every_more n a b = rw add-one (and_both _ _ a b)

  -- one that fails below n
  pub every_fails : (n i : ℕ) → i < n → p i ≡ false → every n p ≡ false
  unfolding every
  every_fails zero i h e = absurd (not-suc-le-zero h)
  every_fails (suc n) i h e =
      ⊎_elim (λ q. and_no (every n p) (p n) (rw (← q) e)) (λ l. rw (every_fails n i l e)) (eq-or-lt_of_le (le_of_suc-le-suc h))

  pub every_at : (n i : ℕ) → every n p ≡ true → i < n → p i ≡ true
  unfolding every
  every_at zero i a h = absurd (not-suc-le-zero h)
  every_at (suc n) i a h =
      ⊎_elim (λ q. rw q (and_right (every n p) _ a)) (λ l. every_at n i (and_left _ (p n) a) l) (eq-or-lt_of_le (le_of_suc-le-suc h))

  pub every_all : (n : ℕ) → ((i : ℕ) → i < n → p i ≡ true) → every n p ≡ true
  unfolding every
  every_all zero h = refl
  every_all (suc n) h = and_both _ _ (every_all n (λ i l. h i (omega arith))) (h n (omega arith))

-- tests that agree below n
pub every_same : (p q : ℕ → Bool) (n : ℕ) → ((i : ℕ) → i < n → p i ≡ q i) → every n p ≡ every n q
unfolding every
every_same p q zero h = refl
every_same p q (suc n) h =
    let a = every_same p q n (λ i l. h i (omega arith)) in
    let b = h n (omega arith) in
    λ k. a k && b k

-- the first number and those after it
pub every_suc : (p : ℕ → Bool) (n : ℕ) → every (suc n) p ≡ (p 0 && every n (λ i. p (suc i)))
unfolding every
every_suc p zero = sym (and_true (p 0))
every_suc p (suc n) = ap (λ (b : Bool). b && p (suc n)) (every_suc p n) ∙ and_assoc (p 0) (every n (λ i. p (suc i))) (p (suc n))

-- a test that every element passes passes at every place
pub every_listed : {A : Type 0} (test : A → Bool) (xs : List A) (d : A) → list_all test xs ≡ every (length xs) (λ i. test (get_or xs i d))
unfolding every
every_listed test [] d = refl
every_listed test (x ∷ xs) d =
    ap (λ (b : Bool). test x && b) (every_listed test xs d) ∙ sym (every_suc (λ i. test (get_or (x ∷ xs) i d)) (length xs))
