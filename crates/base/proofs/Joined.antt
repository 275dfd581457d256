-- Laws of `joined_at`, for a loop that copies the first elements of one list over another. Assumes nothing.
use mathlib.Core.Path.{◌≡◌, refl, ap, sym, ◌∙◌}
use mathlib.Core.List.{List, ◌++◌}
use mathlib.Core.Logic.{⊎_elim}
use Prim.Native.Nat.{ℕ, suc, ◌+◌, ◌-◌, ◌<◌, ◌≤◌}
use native.Mathlib.Nat.{le_of_lt}
use native.Mathlib.Numerals.{add-one}
use native.Mathlib.Omega.{arith}
use lib.ListN.{length, get_or, set, take, drop, length-take, length-drop, length-append, get_or-append, take-append-drop, replicate, length-replicate, get_or-replicate}
use lib.Seq.{drop-cons, take-suc, set_at, append_snoc, length-take-le, get_or-take, get_or-drop, get_or-append-add, take-append-le, take-take, sets, sets-eq, ext_get_or}
use Rattle.base.specs.Lists.{joined_at}
use Rattle.base.proofs.Facts.{lt_or_le}

module _ {A : Type 0} where
  pub joined_none : (xs ys : List A) → ys ≡ joined_at 0 xs ys
  joined_none xs ys = refl

  -- one element more is copied
  pub joined_more : (d : A) (i : ℕ) (xs ys : List A) → i < length xs → i < length ys → set (joined_at i xs ys) i (get_or xs i d) ≡ joined_at (i + 1) xs ys
  joined_more d i xs ys hx hy =
      rw (add-one, drop-cons ys i d hy, set_at (take i xs) _ _ (get_or xs i d) i (length-take-le i xs (le_of_lt hx)), take-suc xs i d hx)
      (sym (append_snoc (take i xs) (get_or xs i d) (drop (suc i) ys)))

  pub length_joined : (k : ℕ) (xs ys : List A) → k ≤ length xs → k ≤ length ys → length (joined_at k xs ys) ≡ length ys
  length_joined k xs ys hx hy = simp length-append (omega (arith, length-take k xs, length-drop k ys))

  -- below k the elements are xs's, and from k on ys's
  module _ (d : A) (k : ℕ) (xs ys : List A) (room : k ≤ length xs) where
    pub joined_low : (i : ℕ) → i < k → get_or (joined_at k xs ys) i d ≡ get_or xs i d
    joined_low i h = get_or-append (take k xs) (drop k ys) d i (omega (arith, length-take k xs)) ∙ get_or-take k xs i d h

    pub joined_high : (i : ℕ) → k ≤ i → get_or (joined_at k xs ys) i d ≡ get_or ys i d
    joined_high i h =
        let l : length (take k xs) ≡ k = omega (arith, length-take k xs) in
        let e : i ≡ length (take k xs) + (i - k) = omega arith in
        let f : k + (i - k) ≡ i = omega arith in
        ap (λ (n : ℕ). get_or (joined_at k xs ys) n d) e ∙ get_or-append-add (take k xs) (drop k ys) (i - k) d ∙ get_or-drop k ys (i - k) d
        ∙ ap (λ (n : ℕ). get_or ys n d) f

  -- up to the join, and as far as wanted, it is the first list
  pub joined_first : (n k : ℕ) (xs ys : List A) → n ≤ k → k ≤ length xs → take n (joined_at k xs ys) ≡ take n xs
  joined_first n k xs ys l h = take-append-le n (take k xs) (drop k ys) (omega (arith, length-take-le k xs h)) ∙ take-take n k xs l

  -- where the first k agree, the join is the second list
  pub joined_same : (k : ℕ) (xs ys : List A) → take k xs ≡ take k ys → joined_at k xs ys ≡ ys
  joined_same k xs ys e = ap (λ (z : List A). z ++ drop k ys) e ∙ take-append-drop k ys

  -- a list of which all past the first k is z, put over so many z from the beginning
  pub refilled : (d z : A) (n k : ℕ) (xs : List A) → length xs ≡ n → k ≤ n → ((i : ℕ) → k ≤ i → i < n → get_or xs i d ≡ z) → sets (replicate n z) 0 (take k xs) ≡ xs
  refilled d z n k xs l h past =
      let t : 0 + length (take k xs) ≡ k = omega (arith, length-take k xs) in
      sets-eq (take k xs) (replicate n z) 0 (omega (arith, length-replicate n z))
      ∙ ap (λ (m : ℕ). take k xs ++ drop m (replicate n z)) t
      ∙ ext_get_or d (joined_at k xs (replicate n z)) xs (long ∙ length-replicate n z ∙ sym l)
      (λ i m. ⊎_elim (λ (b : i < k). joined_low d k xs (replicate n z) (omega arith) i b)
      (λ (b : k ≤ i). joined_high d k xs (replicate n z) (omega arith) i b
      ∙ get_or-replicate n i z d (omega (arith, long, length-replicate n z)) ∙ sym (past i b (omega (arith, long, length-replicate n z)))) (lt_or_le i k))
    where
      long : length (joined_at k xs (replicate n z)) ≡ length (replicate n z)
      long = length_joined k xs (replicate n z) (omega arith) (omega (arith, length-replicate n z))
