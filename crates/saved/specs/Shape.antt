-- Which texts have the shape of a saved form, whatever they say: each frame is of the sort, and so of the length, that the frames before it
-- announce. Assumes nothing.
use Rattle.std.specs.Prelude.{Bool, true, false, ◌&&◌, List, [], ◌∷◌, ◌++◌, ℕ, ◌-◌, eqb, length, get_or, replicate}
use Rattle.hex_text.specs.Lines.{bytes_of}
use Rattle.words.specs.Words.{byte_at, framed}
use Rattle.lines.specs.Texts.{line_feed, lines}
use Rattle.saved.specs.declared.Sort.{Sort}
use Rattle.saved.specs.declared.Sort.TheVariants as S
use Rattle.saved.specs.Layout.{Widths, sort_number, size_of, said_at}
use Rattle.saved.specs.Editions.{Edition, editions, is_known, edition_numbered}

-- a line of the sort's length in hexadecimal, whose first byte says the sort
unfoldable pub is_frame : Widths → Sort → List ℕ → Bool
is_frame w s line = framed (size_of w s) (λ bs. eqb (byte_at bs 0) (sort_number s)) false line

-- the frames that a frame says will follow it
abbrev pub announced : Widths → Sort → List ℕ → List Sort
announced w S.First bs = replicate (said_at w S.First bs 1) S.Server
announced w S.Server bs =
    replicate (said_at w S.Server bs 0) S.Entry ++ (replicate (said_at w S.Server bs 1) S.Note ++ replicate (said_at w S.Server bs 2) S.Report)
announced w S.Entry bs = []
announced w S.Note bs = []
announced w S.Report bs = []

-- the lines are frames of the sorts that are expected, each followed by those that it announces; none is missing, none is left over
abbrev pub shaped_by : Widths → List Sort → List (List ℕ) → Bool
shaped_by w [] [] = true
shaped_by w [] (l ∷ ls) = false
shaped_by w (s ∷ ss) [] = false
shaped_by w (s ∷ ss) (l ∷ ls) = is_frame w s l && shaped_by w (announced w s (bytes_of l) ++ ss) ls

-- the edition that a first line names, in its second byte whatever the edition
abbrev pub named_in : List ℕ → ℕ
named_in line = byte_at (bytes_of line) 1

-- the edition that a text names
abbrev pub named_by : List ℕ → ℕ
named_by text = named_in (get_or (lines text) 0 [])

-- the first line is a first frame of an edition that is known, and all are frames of that edition
abbrev pub shaped_first : List Edition → List (List ℕ) → Bool
shaped_first knows [] = false
shaped_first knows (l ∷ ls) = is_known knows (named_in l) && shaped_by (edition_numbered knows (named_in l)).widths (S.First ∷ []) (l ∷ ls)

-- the last line ends in a line feed
unfoldable pub shaped_for : List Edition → List ℕ → Bool
shaped_for knows text = eqb (get_or text (length text - 1) 0) line_feed && shaped_first knows (lines text)

-- for a reader that knows all editions
abbrev pub shaped : List ℕ → Bool
shaped text = shaped_for editions text
