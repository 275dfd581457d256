-- A walk over a text, byte by byte. Nobody has to believe this: by `walked_text` it comes to what is done with each of the text's lines.
-- Assumes nothing.
use Rattle.std.specs.Prelude.{List, ℕ}
use Rattle.lines.specs.Readers.{fresh_reader, reader_over}
use Rattle.lines.specs.Folds.{over_bytes, at_end}
use Rattle.lines.specs.declared.walks.Walk.{Walk}

module _ {A : Type 0} where
  abbrev pub walk_from : A → Walk A
  walk_from a = record { state = a; reader = fresh_reader }

  abbrev pub walked : (A → List ℕ → A) → Walk A → List ℕ → Walk A
  walked f w piece = record { state = over_bytes f w.state w.reader piece; reader = reader_over w.reader piece }

  abbrev pub walked_out : (A → List ℕ → A) → Walk A → A
  walked_out f w = at_end f w.state w.reader
