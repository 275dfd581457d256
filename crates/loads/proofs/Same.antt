-- Texts that are equal element by element are the same. Assumes nothing.
use mathlib.Core.Path.{◌≡◌, refl, ap, ◌∙◌}
use mathlib.Core.Bool.{Bool, true, false, ◌&&◌}
use mathlib.Core.List.{List, [], ◌∷◌}
use Prim.Native.Nat.{ℕ, suc}
use native.Mathlib.Omega.{arith}
use borrow.Author.Tests.{ne_eqb}
use lib.Dec.{eqb, eqb-suc-suc}
use lib.Pointwise.{pointwise}
use lib.ListN.{length, get_or}
use Rattle.base.specs.Numbers.{every}
use Rattle.base.proofs.Every.{every_none, every_suc}
use Rattle.loads.specs.Loads.{same_text}

later : (x a b : Bool) → (x && (a && b)) ≡ (a && (x && b))
later true a b = refl
later false true b = refl
later false false b = refl

pub pointwise_same : (xs ys : List ℕ) → pointwise eqb xs ys ≡ same_text xs ys
unfolding same_text
pointwise_same [] [] = rw (every_none (λ i. eqb (get_or {A = ℕ} [] i 0) (get_or {A = ℕ} [] i 0)))
pointwise_same [] (y ∷ ys) = rw (ne_eqb 0 (suc (length ys)) (λ e. omega arith))
pointwise_same (x ∷ xs) [] = rw (ne_eqb (suc (length xs)) 0 (λ e. omega arith))
pointwise_same (x ∷ xs) (y ∷ ys) =
    ap (λ (b : Bool). eqb x y && b) (pointwise_same xs ys)
    ∙ later (eqb x y) (eqb (length xs) (length ys)) (every (length xs) (λ i. eqb (get_or xs i 0) (get_or ys i 0)))
    ∙ rw (eqb-suc-suc (length xs) (length ys), every_suc (λ i. eqb (get_or (x ∷ xs) i 0) (get_or (y ∷ ys) i 0)) (length xs))
