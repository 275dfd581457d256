-- A list with every element changed by its number; the first of one list and then the rest of another. Assumes nothing.
use Rattle.std.specs.Prelude.{List, [], ◌∷◌, ◌++◌, ℕ, suc, take, drop}

module _ {A : Type 0} where
  -- f of each element with its number, the first having the number j
  unfoldable pub each_from : (ℕ → A → A) → ℕ → List A → List A
  each_from f j [] = []
  each_from f j (x ∷ xs) = f j x ∷ each_from f (suc j) xs

  -- f of each element with its number, counted from 0
  abbrev pub each : (ℕ → A → A) → List A → List A
  each f xs = each_from f 0 xs

  -- the first k of xs, and then what ys has past its first k
  abbrev pub joined_at : ℕ → List A → List A → List A
  joined_at k xs ys = take k xs ++ drop k ys
