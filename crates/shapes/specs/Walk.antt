-- A text byte by byte, for a reader that knows some editions: how many frames are still announced, and the line that is being read. Nobody has to
-- believe this: by `told` it comes to `shaped_for`. Assumes nothing.
use Rattle.std.specs.Prelude.{◌≡◌, Bool, true, false, cond, not, ◌&&◌, List, ◌++◌, ℕ, ◌-◌, ◌*◌, eqb, ltb, replicate, Option, Some, None}
use Rattle.std.specs.List.{fold}
use Rattle.hex_text.specs.Lines.{chars, bytes_of}
use Rattle.words.specs.Words.{byte_at}
use Rattle.lines.specs.declared.ReaderOf.{ReaderOf}
use Rattle.lines.specs.Held.{held_line, nothing_held, nothing_read}
use Rattle.lines.specs.Readers.{reader_of, push_of}
use Rattle.lines.specs.Texts.{line_feed, one_more}
use Rattle.saved.specs.declared.Sort.{Sort}
use Rattle.saved.specs.declared.Sort.TheVariants as S
use Rattle.saved.specs.Layout.{Widths, said_at}
use Rattle.saved.specs.Editions.{Edition, editions, is_known, edition_numbered}
use Rattle.saved.specs.Shape.{is_frame}
use Rattle.saved.specs.Written.{most_bytes}
use Rattle.shapes.specs.declared.Left.{Left}
use Rattle.shapes.specs.declared.Shape.{Shape}

-- the characters of the longest frame
abbrev pub kept_chars : ℕ
kept_chars = chars * most_bytes

-- nothing was read
abbrev pub fresh_shape : Shape
fresh_shape =
    record {
      left = record { begun = false; edition = 0; servers = 0; entries = 0; notes = 0; reports = 0 };
      reader = nothing_read kept_chars reader_of;
      number = 1;
      broken = false;
    }

-- the sorts of the frames that are left after the first, in order
abbrev pub todo : Left → List Sort
todo l =
    replicate l.entries S.Entry
    ++ (replicate l.notes S.Note ++ (replicate l.reports S.Report ++ replicate l.servers S.Server))

-- what is due next
unfoldable pub due_of : Left → Option Sort
due_of l =
    cond l.begun
    (cond (ltb 0 l.entries) (Some S.Entry)
    (cond (ltb 0 l.notes) (Some S.Note)
    (cond (ltb 0 l.reports) (Some S.Report) (cond (ltb 0 l.servers) (Some S.Server) None))))
    (Some S.First)

-- the edition of a frame: a first frame names its own, the others' is the text's
abbrev pub edition_for : Sort → ℕ → List ℕ → ℕ
edition_for S.First n bs = byte_at bs 1
edition_for S.Server n bs = n
edition_for S.Entry n bs = n
edition_for S.Note n bs = n
edition_for S.Report n bs = n

-- what is left after a frame of a sort with these bytes
abbrev pub left_after : Widths → Sort → List ℕ → Left → Left
left_after w S.First bs l =
    record { begun = true; edition = byte_at bs 1; servers = said_at w S.First bs 1; entries = 0; notes = 0; reports = 0 }
left_after w S.Server bs l =
    record {
      begun = l.begun;
      edition = l.edition;
      servers = l.servers - 1;
      entries = said_at w S.Server bs 0;
      notes = said_at w S.Server bs 1;
      reports = said_at w S.Server bs 2;
    }
left_after w S.Entry bs l =
    record { begun = l.begun; edition = l.edition; servers = l.servers; entries = l.entries - 1; notes = l.notes; reports = l.reports }
left_after w S.Note bs l =
    record { begun = l.begun; edition = l.edition; servers = l.servers; entries = l.entries; notes = l.notes - 1; reports = l.reports }
left_after w S.Report bs l =
    record { begun = l.begun; edition = l.edition; servers = l.servers; entries = l.entries; notes = l.notes; reports = l.reports - 1 }

-- the line that is held, and with one character more
abbrev pub shape_held : Shape → List ℕ
shape_held s = held_line kept_chars s.reader.held s.reader.fill s.reader.over

abbrev pub with_reader : Shape → ReaderOf kept_chars → Shape
with_reader s r = record { left = s.left; reader = r; number = s.number; broken = s.broken }

abbrev pub shape_push : Shape → ℕ → Shape
shape_push s b = with_reader s (push_of s.reader b)

-- the line that is held isn't the one that is due
abbrev pub broken_at : Shape → Shape
broken_at s = record { left = s.left; reader = s.reader; number = s.number; broken = true }

-- a line came with these bytes, and the next one begins
abbrev pub next_line : Widths → Sort → List ℕ → Shape → Shape
next_line w k bs s =
    record {
      left = left_after w k bs s.left;
      reader = nothing_read kept_chars reader_of;
      number = one_more s.number;
      broken = s.broken;
    }

module _ (knows : List Edition) where
  -- a line is a frame of the sort in its edition, where that is known
  unfoldable pub is_next : Sort → ℕ → List ℕ → Bool
  is_next k n line =
      let m = edition_for k n (bytes_of line) in
      is_known knows m && is_frame (edition_numbered knows m).widths k line

  -- at a line feed, by what is due
  unfoldable pub ended_as : Option Sort → Shape → Shape
  ended_as (Some k) s =
      let line = shape_held s in
      cond (is_next k s.left.edition line) (next_line (edition_numbered knows (edition_for k s.left.edition (bytes_of line))).widths k (bytes_of line) s) (broken_at s)
  ended_as None s = broken_at s

  abbrev pub line_ended_for : Shape → Shape
  line_ended_for s = ended_as (due_of s.left) s

  -- after one byte; once broken it stays as it is
  unfoldable pub shape_after : Shape → ℕ → Shape
  shape_after s b = cond s.broken s (cond (eqb b line_feed) (line_ended_for s) (shape_push s b))

  abbrev pub walked_for : Shape → List ℕ → Shape
  walked_for s text = fold shape_after s text

-- for a reader that knows all editions
abbrev pub line_ended : Shape → Shape
line_ended s = line_ended_for editions s

abbrev pub walked : Shape → List ℕ → Shape
walked s text = walked_for editions s text

abbrev pub is_end : Option Sort → Bool
is_end (Some k) = false
is_end None = true

-- not broken, no line begun, nothing due
unfoldable pub is_shaped : Shape → Bool
is_shaped s = not s.broken && (nothing_held s.reader.fill s.reader.over && is_end (due_of s.left))

-- broken in the first line
pub record AtOnce (s : Shape) : Type 0 where
  pub broken : s.broken ≡ true
  pub line : s.number ≡ 1
