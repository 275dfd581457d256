-- What is done with each line of a text, whatever it is, and the same byte by byte with a reader. Nobody has to believe the second: by
-- `folded` it comes to the first. Assumes nothing.
use Rattle.std.specs.Prelude.{cond, List, [], ◌∷◌, ℕ, eqb}
use Rattle.lines.specs.Texts.{line_feed}
use Rattle.lines.specs.Readers.{Reader, line_held, is_empty, reader_after}

module _ {A : Type 0} where
  -- each line in turn
  abbrev pub over_lines : (A → List ℕ → A) → A → List (List ℕ) → A
  over_lines f a [] = a
  over_lines f a (l ∷ ls) = over_lines f (f a l) ls

  -- what is left after one byte, which may end the line that is held, and after some
  unfoldable pub byte_after : (A → List ℕ → A) → A → Reader → ℕ → A
  byte_after f a r b = cond (eqb b line_feed) (f a (line_held r)) a

  abbrev pub over_bytes : (A → List ℕ → A) → A → Reader → List ℕ → A
  over_bytes f a r [] = a
  over_bytes f a r (b ∷ bs) = over_bytes f (byte_after f a r b) (reader_after r b) bs

  -- the end of a text: a rest counts if it isn't empty
  unfoldable pub at_end : (A → List ℕ → A) → A → Reader → A
  at_end f a r = cond (is_empty r) a (f a (line_held r))
