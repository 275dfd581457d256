-- The reader of a text's lines, byte by byte: 26 characters are kept. Nobody has to believe this: what comes of it is said of the text's lines.
-- Assumes nothing.
use Rattle.std.specs.Prelude.{Bool, cond, List, [], ◌∷◌, ℕ, eqb}
use Rattle.lines.specs.declared.ReaderOf.{ReaderOf}
use Rattle.lines.specs.Texts.{line_feed}
use Rattle.lines.specs.Held.{held_line, nothing_held, nothing_read, pushed, form_of}

-- a line over 26 characters is remembered only as too long
abbrev pub width : ℕ
width = 26

-- the reader of a text's lines
abbrev pub Reader : Type 0
Reader = ReaderOf width

-- a reader, whatever the number of characters that it keeps
abbrev pub reader_of : {n : ℕ} → List ℕ → ℕ → Bool → ReaderOf n
reader_of held fill over = record { held = held; fill = fill; over = over }

abbrev pub fresh_reader : Reader
fresh_reader = nothing_read width reader_of

-- the line that a reader stands for
unfoldable pub line_held : Reader → List ℕ
line_held r = held_line width r.held r.fill r.over

-- nothing of a line was read
abbrev pub is_empty : {n : ℕ} → ReaderOf n → Bool
is_empty r = nothing_held r.fill r.over

-- one character more
unfoldable pub push_of : {n : ℕ} → ReaderOf n → ℕ → ReaderOf n
push_of {n} r b = pushed n reader_of r.held r.fill r.over b

-- after one byte, which is a line feed or a character of the line; and after some
unfoldable pub reader_after : Reader → ℕ → Reader
reader_after r b = cond (eqb b line_feed) fresh_reader (push_of r b)

abbrev pub reader_over : Reader → List ℕ → Reader
reader_over r [] = r
reader_over r (b ∷ bs) = reader_over (reader_after r b) bs

-- the one reader that has read the part p of a line
unfoldable pub reader_for : List ℕ → Reader
reader_for p = form_of width reader_of p
