-- Laws of `each`, a list with every element replaced by a function of it and its number, and of `map`. Assumes nothing.
use mathlib.Core.Path.{◌≡◌, refl, ap, sym, ◌∙◌}
use mathlib.Core.List.{List, [], ◌∷◌, map}
use Prim.Native.Nat.{ℕ, zero, suc, ◌+◌, ◌<◌}
use native.Mathlib.Nat.{not-suc-le-zero, le_of_suc-le-suc, add-zero}
use native.Mathlib.Omega.{arith}
use lib.ListN.{length, get_or, take}
use Rattle.base.specs.Lists.{each_from, each}

module _ {A : Type 0} where
  pub length_each_from : (f : ℕ → A → A) (j : ℕ) (xs : List A) → length (each_from f j xs) ≡ length xs
  unfolding each_from
  length_each_from f j [] = refl
  length_each_from f j (x ∷ xs) = ap suc (length_each_from f (suc j) xs)

  each_from_at : (f : ℕ → A → A) (j : ℕ) (xs : List A) (i : ℕ) (d : A) → i < length xs → get_or (each_from f j xs) i d ≡ f (j + i) (get_or xs i d)
  unfolding each_from
  each_from_at f j [] i d h = absurd (not-suc-le-zero h)
  each_from_at f j (x ∷ xs) zero d h = ap (λ (k : ℕ). f k x) (sym (add-zero j))
  each_from_at f j (x ∷ xs) (suc i) d h =
      each_from_at f (suc j) xs i d (le_of_suc-le-suc h) ∙ ap (λ (k : ℕ). f k (get_or xs i d)) (omega arith)

  -- the element of a number is f of it
  pub each_at : (f : ℕ → A → A) (xs : List A) (i : ℕ) (d : A) → i < length xs → get_or (each f xs) i d ≡ f i (get_or xs i d)
  each_at f xs i d h = each_from_at f 0 xs i d h ∙ ap (λ (k : ℕ). f k (get_or xs i d)) (omega arith)

-- ---- a list with every element changed the same way

module _ {A B : Type 0} (f : A → B) where
  pub taken_map : (n : ℕ) (xs : List A) → map f (take n xs) ≡ take n (map f xs)
  taken_map zero xs = refl
  taken_map (suc n) [] = refl
  taken_map (suc n) (x ∷ xs) = ap (λ (ys : List B). f x ∷ ys) (taken_map n xs)

  pub map_at : (xs : List A) (i : ℕ) (d : A) (e : B) → i < length xs → get_or (map f xs) i e ≡ f (get_or xs i d)
  map_at [] i d e h = absurd (not-suc-le-zero h)
  map_at (x ∷ xs) zero d e h = refl
  map_at (x ∷ xs) (suc i) d e h = map_at xs i d e (le_of_suc-le-suc h)
