-- The part of an array that is filled. Assumes nothing.
use mathlib.Core.Path.{◌≡◌, ap, sym, ◌∙◌}
use mathlib.Core.List.{List}
use mathlib.Core.Logic.{⊎_elim}
use Prim.Native.Nat.{ℕ, ◌≤◌, ◌<◌, min}
use native.Mathlib.Omega.{arith}
use lib.ListN.{length, take}
use lib.Seq.{take_all}
use Rattle.base.proofs.Facts.{lt_or_le}

-- no more than the whole
pub take_within : (n m : ℕ) (xs : List ℕ) → length xs ≤ m → take (min n m) xs ≡ take n xs
take_within n m xs h =
    ⊎_elim (λ (l : n < m). ap (λ (k : ℕ). take k xs) (omega arith))
    (λ (l : m ≤ n). ap (λ (k : ℕ). take k xs) (omega arith) ∙ take_all m xs h ∙ sym (take_all n xs (omega arith))) (lt_or_le n m)
