-- Laws of chains over the numbers below a bound, and over elements with their numbers, for `every`, `count` and `greatest`. Assumes nothing.
use mathlib.Core.Path.{◌≡◌, refl, ap, sym, ◌∙◌}
use mathlib.Core.Bool.{Bool, true, false, cond, ◌&&◌}
use mathlib.Core.List.{List, [], ◌∷◌, map}
use Prim.Native.Nat.{ℕ, zero, suc, ◌+◌, ◌<◌, ◌≤◌, max}
use native.Mathlib.Nat.{add-zero}
use native.Mathlib.Omega.{arith}
use lib.ListN.{length, get_or, take}
use lib.Seq.{length-take-le, get_or-take}
use Rattle.std.specs.List.{list_all, filter, fold, reduce, range_with_len, enumerate_from}
use Rattle.std.specs.Option.{unwrap_or}
use Rattle.base.specs.Numbers.{every, count, greatest}
use Rattle.base.proofs.Every.{every_suc, every_same}
use Rattle.base.proofs.Counting.{count_front}

-- the number after a's first
next : (a i : ℕ) → a + 1 + i ≡ a + suc i
next a i = omega arith

-- from 0 on
from_none : (i : ℕ) → 0 + i ≡ i
from_none i = omega arith

-- ---- the numbers below a bound

every_range : (p : ℕ → Bool) (a n : ℕ) → list_all p (range_with_len a n) ≡ every n (λ i. p (a + i))
unfolding every
every_range p a zero = refl
every_range p a (suc n) =
    let e : p a ≡ p (a + 0) = ap p (sym (add-zero a)) in
    let r = every_range p (a + 1) n ∙ ap (every n) (λ k i. p (next a i k)) in
    (λ k. e k && r k) ∙ sym (every_suc (λ i. p (a + i)) n)

-- a test that every number below n passes
pub every_below : (p : ℕ → Bool) (n : ℕ) → list_all p (range_with_len 0 n) ≡ every n p
every_below p n = every_range p 0 n ∙ ap (every n) (λ k i. p (from_none i k))

length_cond : {A : Type 0} (b : Bool) (x : A) (xs : List A) → length (cond b (x ∷ xs) xs) ≡ cond b 1 0 + length xs
length_cond true x xs = omega arith
length_cond false x xs = omega arith

count_range : (p : ℕ → Bool) (a n : ℕ) → length (filter p (range_with_len a n)) ≡ count n (λ i. p (a + i))
unfolding count
count_range p a zero = refl
count_range p a (suc n) =
    let e : p a ≡ p (a + 0) = ap p (sym (add-zero a)) in
    let r = count_range p (a + 1) n ∙ ap (count n) (λ k i. p (next a i k)) in
    length_cond (p a) a _ ∙ (λ k. cond (e k) 1 0 + r k) ∙ sym (count_front (λ i. p (a + i)) n)

-- how many numbers below n pass a test
pub count_below : (p : ℕ → Bool) (n : ℕ) → length (filter p (range_with_len 0 n)) ≡ count n p
count_below p n = count_range p 0 n ∙ ap (count n) (λ k i. p (from_none i k))

-- ---- elements with their numbers

every_from : {A : Type 0} (test : ℕ → A → Bool) (j : ℕ) (xs : List A) (d : A) → list_all (λ p. test p.0 p.1) (enumerate_from j xs) ≡ every (length xs) (λ i. test (j + i) (get_or xs i d))
unfolding every
every_from test j [] d = refl
every_from test j (x ∷ xs) d =
    let e : test j x ≡ test (j + 0) x = ap (λ (k : ℕ). test k x) (sym (add-zero j)) in
    let r = every_from test (j + 1) xs d ∙ ap (every (length xs)) (λ k i. test (next j i k) (get_or xs i d)) in
    (λ k. e k && r k) ∙ sym (every_suc (λ i. test (j + i) (get_or (x ∷ xs) i d)) (length xs))

-- a test that every element with its number passes
pub every_numbered : {A : Type 0} (test : ℕ → A → Bool) (xs : List A) (d : A) → list_all (λ p. test p.0 p.1) (enumerate_from 0 xs) ≡ every (length xs) (λ i. test i (get_or xs i d))
every_numbered test xs d = every_from test 0 xs d ∙ ap (every (length xs)) (λ k i. test (from_none i k) (get_or xs i d))

-- the same of the first n of a list
pub every_first : {A : Type 0} (test : ℕ → A → Bool) (n : ℕ) (xs : List A) (d : A) → n ≤ length xs → list_all (λ p. test p.0 p.1) (enumerate_from 0 (take n xs)) ≡ every n (λ i. test i (get_or xs i d))
every_first test n xs d h =
    every_numbered test (take n xs) d ∙ ap (λ (k : ℕ). every k (λ i. test i (get_or (take n xs) i d))) (length-take-le n xs h)
    ∙ every_same (λ i. test i (get_or (take n xs) i d)) (λ i. test i (get_or xs i d)) n (λ i l. ap (test i) (get_or-take n xs i d l))

-- ---- the greatest

greatest_front : (f : ℕ → ℕ) (n : ℕ) → greatest (suc n) f ≡ max (f 0) (greatest n (λ i. f (suc i)))
unfolding greatest
greatest_front f zero = refl
greatest_front f (suc n) = omega (arith, greatest_front f n)

greatest_same : (f g : ℕ → ℕ) (n : ℕ) → ((i : ℕ) → i < n → f i ≡ g i) → greatest n f ≡ greatest n g
unfolding greatest
greatest_same f g zero h = refl
greatest_same f g (suc n) h = omega (arith, h n (omega arith), greatest_same f g n (λ i l. h i (omega arith)))

module _ {A : Type 0} (f : A → ℕ) (d : A) where
  fold_greatest : (a : ℕ) (xs : List A) → fold max a (map f xs) ≡ max a (greatest (length xs) (λ i. f (get_or xs i d)))
  unfolding greatest
  fold_greatest a [] = omega arith
  fold_greatest a (x ∷ xs) =
      omega (arith, fold_greatest (max a (f x)) xs, greatest_front (λ i. f (get_or (x ∷ xs) i d)) (length xs))

  -- the greatest value of a list's elements, 0 if there is none
  greatest_listed : (xs : List A) → unwrap_or (reduce max (map f xs)) 0 ≡ greatest (length xs) (λ i. f (get_or xs i d))
  unfolding greatest
  greatest_listed [] = refl
  greatest_listed (x ∷ xs) = fold_greatest (f x) xs ∙ sym (greatest_front (λ i. f (get_or (x ∷ xs) i d)) (length xs))

  -- and of its first n
  pub greatest_first : (n : ℕ) (xs : List A) → n ≤ length xs → unwrap_or (reduce max (map f (take n xs))) 0 ≡ greatest n (λ i. f (get_or xs i d))
  greatest_first n xs h =
      greatest_listed (take n xs) ∙ ap (λ (k : ℕ). greatest k (λ i. f (get_or (take n xs) i d))) (length-take-le n xs h)
      ∙ greatest_same (λ i. f (get_or (take n xs) i d)) (λ i. f (get_or xs i d)) n (λ i l. ap f (get_or-take n xs i d l))
