-- What every element of an array passes is passed at each of its places. Assumes nothing.
use mathlib.Core.Path.{◌≡◌, ap, ◌∙◌}
use mathlib.Core.Bool.{Bool}
use mathlib.Core.List.{List}
use Prim.Native.Nat.{ℕ}
use lib.ListN.{length, get_or}
use Rattle.std.specs.List.{list_all}
use Rattle.base.specs.Numbers.{every}
use Rattle.base.proofs.Every.{every_listed}

pub all_places : {A : Type 0} (test : A → Bool) (xs : List A) (d : A) (n : ℕ) → length xs ≡ n → list_all test xs ≡ every n (λ i. test (get_or xs i d))
all_places test xs d n long = every_listed test xs d ∙ ap (λ (k : ℕ). every k (λ i. test (get_or xs i d))) long
