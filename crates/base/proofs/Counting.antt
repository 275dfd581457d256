-- Laws of `count`, for a loop that counts, and that two counts over half of the voters share a number. Assumes nothing.
use mathlib.Core.Path.{◌≡◌, refl}
use mathlib.Core.Bool.{Bool, true, false, cond, ◌&&◌}
use Prim.Native.Nat.{ℕ, zero, suc, ◌+◌, ◌<◌, ◌≤◌}
use native.Mathlib.Numerals.{add-one}
use native.Mathlib.Omega.{arith}
use Rattle.base.specs.Numbers.{count}

one_le : (b : Bool) → cond b 1 0 ≤ 1
one_le true = omega arith
one_le false = omega arith

module _ (p : ℕ → Bool) where
  pub count_none : count 0 p ≡ 0
  unfolding count
  count_none = refl

  pub count_yes : (n k : ℕ) → k ≡ count n p → p n ≡ true → k + 1 ≡ count (n + 1) p
  unfolding count
  count_yes n k h e = rw (add-one n, e) (omega arith)

  pub count_no : (n k : ℕ) → k ≡ count n p → p n ≡ false → k ≡ count (n + 1) p
  unfolding count
  count_no n k h e = rw (add-one n, e) (omega arith)

  pub count_le : (n : ℕ) → count n p ≤ n
  unfolding count
  count_le zero = omega arith
  count_le (suc n) = omega (arith, count_le n, one_le (p n))

  -- from the front
  pub count_front : (n : ℕ) → count (suc n) p ≡ cond (p 0) 1 0 + count n (λ i. p (suc i))
  unfolding count
  count_front zero = refl
  count_front (suc n) = omega (arith, count_front n)

-- more pass a weaker test
pub count_mono : (p q : ℕ → Bool) (n : ℕ) → ((i : ℕ) → i < n → p i ≡ true → q i ≡ true) → count n p ≤ count n q
unfolding count
count_mono p q zero h = omega arith
count_mono p q (suc n) h = omega (arith, count_mono p q n (λ i l. h i (omega arith)), bits (p n) (q n) (h n (omega arith)))
  where
    bits : (a b : Bool) → (a ≡ true → b ≡ true) → cond a 1 0 ≤ cond b 1 0
    bits true true k = omega arith
    bits true false k = let z : ◌≡◌ {A = ℕ} 0 1 = cc (k refl) in omega arith
    bits false true k = omega arith
    bits false false k = omega arith

-- a number below n that passes both tests
pub record Both (n : ℕ) (p q : ℕ → Bool) : Type 0 where
  pub who : ℕ
  pub below : who < n
  pub left : p who ≡ true
  pub right : q who ≡ true

later : {n : ℕ} {p q : ℕ → Bool} → Both n p q → Both (suc n) p q
later b = record { who = b.who; below = omega arith; left = b.left; right = b.right }

-- two counts among those that pass v, which together exceed the number of these, share a number
pub count_meet : (v p q : ℕ → Bool) (n : ℕ) → count n v < count n (λ i. v i && p i) + count n (λ i. v i && q i)
    → Both n (λ i. v i && p i) (λ i. v i && q i)
unfolding count
count_meet v p q zero h = absurd (omega arith)
count_meet v p q (suc n) h = go (v n) (p n) (q n) refl refl refl (count_meet v p q n) h
  where
    go : (a b d : Bool) → v n ≡ a → p n ≡ b → q n ≡ d
        → (count n v < count n (λ i. v i && p i) + count n (λ i. v i && q i) → Both n (λ i. v i && p i) (λ i. v i && q i))
        → cond a 1 0 + count n v < cond (a && b) 1 0 + count n (λ i. v i && p i) + (cond (a && d) 1 0 + count n (λ i. v i && q i))
        → Both (suc n) (λ i. v i && p i) (λ i. v i && q i)
    go true true true x y z ih h = record { who = n; below = omega arith; left = rw (x, y); right = rw (x, z) }
    go true true false x y z ih h = later (ih (omega arith))
    go true false true x y z ih h = later (ih (omega arith))
    go true false false x y z ih h = later (ih (omega arith))
    go false b d x y z ih h = later (ih (omega arith))
