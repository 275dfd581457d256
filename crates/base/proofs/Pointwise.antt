-- Two lists compared pair by pair, as `==` does it, are compared at every place. Assumes nothing.
use mathlib.Core.Path.{◌≡◌, refl, sym, ap, ◌∙◌}
use mathlib.Core.Bool.{Bool, ◌&&◌}
use mathlib.Core.List.{List, [], ◌∷◌}
use native.Mathlib.Omega.{arith}
use lib.ListN.{length, get_or}
use lib.Pointwise.{pointwise}
use Rattle.base.specs.Numbers.{every}
use Rattle.base.proofs.Every.{every_suc}

pub pointwise_every : {A : Type 0} (same : A → A → Bool) (d : A) (xs ys : List A) → length xs ≡ length ys
    → pointwise same xs ys ≡ every (length xs) (λ i. same (get_or xs i d) (get_or ys i d))
unfolding every
pointwise_every same d [] [] h = refl
pointwise_every same d [] (y ∷ ys) h = absurd (omega arith)
pointwise_every same d (x ∷ xs) [] h = absurd (omega arith)
pointwise_every same d (x ∷ xs) (y ∷ ys) h =
    ap (λ (b : Bool). same x y && b) (pointwise_every same d xs ys (omega arith))
    ∙ sym (every_suc (λ i. same (get_or (x ∷ xs) i d) (get_or (y ∷ ys) i d)) (length xs))
