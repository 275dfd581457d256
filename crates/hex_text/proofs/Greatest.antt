-- The greatest value of a list's elements, kept by a fold, is below a bound just where every value is. Assumes nothing.
use mathlib.Core.Path.{◌≡◌, refl, sym, ap, ◌∙◌}
use mathlib.Core.Bool.{Bool, true, false, ◌&&◌}
use mathlib.Core.List.{List, [], ◌∷◌}
use Prim.Native.Nat.{ℕ, ◌<◌, max}
use native.Mathlib.Omega.{arith}
use borrow.Author.Tests.{lt-ltb, le-ltb, ltb-true, ltb-false}
use lib.Dec.{ltb}
use lib.ListN.{length, get_or}
use Rattle.std.specs.List.{fold, list_all}
use Rattle.base.specs.Numbers.{every}
use Rattle.base.proofs.Bools.{and_true, and_assoc}
use Rattle.base.proofs.Every.{every_listed}

max_below : (x y b : ℕ) → ltb (max x y) b ≡ (ltb x b && ltb y b)
max_below x y b = go (ltb x b) (ltb y b) refl refl
  where
    go : (t u : Bool) → ltb x b ≡ t → ltb y b ≡ u → ltb (max x y) b ≡ (t && u)
    go true true p q = lt-ltb (max x y) b (omega (arith, ltb-true x b p, ltb-true y b q))
    go true false p q = le-ltb (max x y) b (omega (arith, ltb-false y b q))
    go false u p q = le-ltb (max x y) b (omega (arith, ltb-false x b p))

module _ {A : Type 0} (f : A → ℕ) (b : ℕ) where
  fold_below : (k : ℕ) (xs : List A) → ltb (fold (λ a x. max a (f x)) k xs) b ≡ (ltb k b && list_all (λ x. ltb (f x) b) xs)
  fold_below k [] = sym (and_true (ltb k b))
  fold_below k (x ∷ xs) =
      fold_below (max k (f x)) xs ∙ ap (λ (t : Bool). t && list_all (λ x. ltb (f x) b) xs) (max_below k (f x) b) ∙ and_assoc (ltb k b) (ltb (f x) b) (list_all (λ x. ltb (f x) b) xs)

  pub fold_every : 0 < b → (xs : List A) (d : A) → ltb (fold (λ a x. max a (f x)) 0 xs) b ≡ every (length xs) (λ i. ltb (f (get_or xs i d)) b)
  fold_every h xs d = fold_below 0 xs ∙ ap (λ (t : Bool). t && list_all (λ x. ltb (f x) b) xs) (lt-ltb 0 b h) ∙ every_listed (λ x. ltb (f x) b) xs d
