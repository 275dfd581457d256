-- What holds of every element, by its number, holds where one is replaced by another of which it holds. Assumes nothing.
use mathlib.Core.Path.{◌≡◌, refl}
use mathlib.Core.Bool.{Bool, true, false}
use mathlib.Core.List.{List}
use Prim.Native.Nat.{ℕ, ◌<◌, ◌≤◌}
use native.Mathlib.Omega.{arith}
use lib.Dec.{eqb}
use lib.ListN.{length, get_or, set}
use lib.Seq.{get_or-set_same, get_or-set_other}
use borrow.Author.Tests.{eqb-true, eqb-false}

pub all_at : {A : Type 0} (P : ℕ → A → Type 0) (xs : List A) (d : A) (n : ℕ) → n ≤ length xs → ((i : ℕ) → i < n → P i (get_or xs i d)) → (a : ℕ) (x : A) → P a x
    → (i : ℕ) → i < n → P i (get_or (set xs a x) i d)
all_at P xs d n room old a x new i h = go (eqb i a) refl
  where
    go : (b : Bool) → eqb i a ≡ b → P i (get_or (set xs a x) i d)
    go true e = rw (eqb-true i a e, get_or-set_same xs a x d (omega (arith, eqb-true i a e))) new
    go false e = rw (get_or-set_other xs a i x d (eqb-false i a e)) (old i h)

-- whatever the number is
pub all_set : {A : Type 0} (P : A → Type 0) (xs : List A) (d : A) (n : ℕ) → n ≤ length xs → ((i : ℕ) → i < n → P (get_or xs i d)) → (a : ℕ) (x : A) → P x
    → (i : ℕ) → i < n → P (get_or (set xs a x) i d)
all_set P = all_at (λ i. P)
