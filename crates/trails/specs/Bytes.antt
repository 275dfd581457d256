-- The same byte by byte, with what is kept of a line: what is in the buffer after a line, and where a run is. Nobody has to believe this: by `follows_trace` it
-- comes to the trace of the text. Assumes nothing.
use Rattle.std.specs.Prelude.{◌≡◌, Bool, cond, List, [], ◌∷◌, ◌++◌, ℕ, ◌+◌, ◌≤◌, eqb, ltb, length}
use Rattle.cluster.specs.declared.Cluster.{Cluster}
use Rattle.lines.specs.Texts.{line_feed, one_more, placed}
use Rattle.saved.specs.declared.Sort.TheVariants as S
use Rattle.saved.specs.Written.{longest, line_length}
use Rattle.replay.specs.Texts.{answer_to}
use Rattle.replay.specs.Pieces.{line_after}
use Rattle.traces.specs.declared.CutLine.{CutLine}
use Rattle.traces.specs.Writing.{nothing_kept, kept_after, held_in, pair_room, text_in, pair_made, over_each}
use Rattle.trails.specs.declared.Wanted.{Wanted}
use Rattle.trails.specs.declared.Lined.{Lined}
use Rattle.trails.specs.declared.follow.Trail.{Trail}
use Rattle.trails.specs.Traces.{is_wanted, opening_of, change_of}

abbrev pub first_line : ℕ
first_line = line_length S.First

-- room for all that a trace has for a line
abbrev pub most_line : ℕ
most_line = longest + (pair_room + longest)

-- room for a record's form
abbrev pub form_room : Bool → ℕ
form_room brief = cond brief first_line longest

-- out is out₀ with a text of n characters written at its head, which are at most so many
pub record Put (most : ℕ) (out₀ : List ℕ) (out : List ℕ) (n : ℕ) (text : List ℕ) : Type 0 where
  pub buffer : out ≡ placed out₀ 0 text
  pub count : n ≡ length text
  pub short : length text ≤ most

-- all that a trace has for a line that leads from one record to another and has a pair
unfoldable pub wanted_of : Wanted → ℕ → Cluster → Cluster → List ℕ → List ℕ
wanted_of w n c d pair = cond (is_wanted w n) (opening_of w n c ++ (pair ++ change_of w.brief c d)) []

-- for the line that is kept
abbrev pub shown_by : Wanted → ℕ → Cluster → CutLine → List ℕ
shown_by w n c k = wanted_of w n c (line_after c (held_in k)) (text_in (pair_made k (answer_to c (held_in k)).answer))

-- in a buffer with room for the longest
unfoldable pub lined_of : Wanted → ℕ → Cluster → CutLine → ℕ → Lined
lined_of w n c k room = record { cluster = line_after c (held_in k); wrote = cond (ltb room most_line) 0 (length (shown_by w n c k)) }

unfoldable pub lined_out : Wanted → ℕ → Cluster → CutLine → List ℕ → List ℕ
lined_out w n c k out = cond (ltb (length out) most_line) out (placed out 0 (shown_by w n c k))

-- ---- a run: its record, what is kept of a line, and how many lines have gone before it

abbrev pub begun_trail : Cluster → Trail
begun_trail c = record { cluster = c; kept = nothing_kept; number = 0 }

-- after one byte, and after some
unfoldable pub trail_after : Trail → ℕ → Trail
trail_after t b =
    record {
      cluster = cond (eqb b line_feed) (line_after t.cluster (held_in t.kept)) t.cluster;
      kept = kept_after t.kept b;
      number = cond (eqb b line_feed) (one_more t.number) t.number;
    }

abbrev pub trail_over : Trail → List ℕ → Trail
trail_over t bs = over_each trail_after t bs

-- what is shown on the way
unfoldable pub shown_at : Wanted → Trail → ℕ → List ℕ
shown_at w t b = cond (eqb b line_feed) (shown_by w t.number t.cluster t.kept) []

abbrev pub shown_over : Wanted → Trail → List ℕ → List ℕ
shown_over w t [] = []
shown_over w t (b ∷ bs) = shown_at w t b ++ shown_over w (trail_after t b) bs

-- the end of a text: a rest counts if it isn't empty
unfoldable pub shown_last : Wanted → Trail → List ℕ
shown_last w t = cond (eqb t.kept.fill 0) [] (shown_by w t.number t.cluster t.kept)

unfoldable pub ended_trail : Trail → Cluster
ended_trail t = cond (eqb t.kept.fill 0) t.cluster (line_after t.cluster (held_in t.kept))
