-- A text byte by byte: a reader that keeps at most one frame's characters, and what it says on the way. Nobody has to believe this:
-- by `any_pieces` and `any_pieces_record` it comes to the answers and the record of `Texts`. Assumes nothing.
use Rattle.std.specs.Prelude.{ℕ, suc, ◌+◌, ◌-◌, ◌*◌, true, false, cond, List, [], ◌∷◌, ◌++◌, ltb, eqb, length, get_or, take, drop, Option, Some, None}
use Rattle.cluster.specs.declared.Cluster.{Cluster}
use Rattle.frames.specs.Layout.{step_bytes}
use Rattle.answers.specs.Answers.{answer_bytes}
use Rattle.hex_text.specs.Lines.{chars}
use Rattle.steps.specs.declared.Step.{Step}
use Rattle.frames.specs.Steps.{read_step}
use Rattle.replay.specs.declared.Next.{Next}
use Rattle.replay.specs.declared.Session.{Session}
use Rattle.replay.specs.declared.Fed.{Fed}
use Rattle.replay.specs.declared.Finished.{Finished}
use Rattle.lines.specs.Texts.{line_feed, placed}
use Rattle.lines.specs.Readers.{Reader, fresh_reader, line_held, is_empty, reader_after}
use Rattle.lines.specs.Folds.{byte_after, at_end}
use Rattle.replay.specs.Texts.{answer_to, line_of}

-- the characters of a step frame, and the length of an answer line
abbrev pub step_chars : ℕ
step_chars = chars * step_bytes

abbrev pub answer_line : ℕ
answer_line = chars * answer_bytes + 1

-- the record with a reader that has read nothing of a line
abbrev pub begun : Cluster → Session
begun c = record { cluster = c; reader = fresh_reader }

-- the step of the line that a text has from a place on, where the reader is fresh, it has a frame's length and a line feed ends it
unfoldable pub whole_line : Reader → List ℕ → ℕ → Option Step
whole_line r text at =
    cond (is_empty r) (cond (ltb (at + step_chars) (length text)) (cond (eqb (get_or text (at + step_chars) 0) line_feed) (read_step (take step_chars (drop at text))) None) None) None

-- a whole step line came; or what one byte is: the end of the line that was read, or a character of it
abbrev pub came_whole : Step → Next
came_whole s = record { line = Some (Some s); took = step_chars + 1; last = line_feed }

unfoldable pub byte_is : Reader → ℕ → Option (Option Step)
byte_is r b = cond (eqb b line_feed) (Some (read_step (line_held r))) None

-- what a text has next from a place on: a whole step line, or else one byte
unfoldable pub next_by : Option Step → Reader → ℕ → Next
next_by (Some s) r b = came_whole s
next_by None r b = record { line = byte_is r b; took = 1; last = b }

abbrev pub next_of : Reader → List ℕ → ℕ → Next
next_of r text at = next_by (whole_line r text at) r (get_or text at 0)

-- the record after a line
abbrev pub line_after : Cluster → List ℕ → Cluster
line_after c line = (answer_to c line).cluster

-- after one byte: the session, and what is said
unfoldable pub after : Session → ℕ → Session
after s b = record { cluster = byte_after line_after s.cluster s.reader b; reader = reader_after s.reader b }

unfoldable pub said : Session → ℕ → List ℕ
said s b = cond (eqb b line_feed) (line_of (answer_to s.cluster (line_held s.reader)).answer) []

abbrev pub runs : Session → List ℕ → Session
runs s [] = s
runs s (b ∷ bs) = runs (after s b) bs

abbrev pub says : Session → List ℕ → List ℕ
says s [] = []
says s (b ∷ bs) = said s b ++ says (after s b) bs

-- pieces in turn
abbrev pub runs_all : Session → List (List ℕ) → Session
runs_all s [] = s
runs_all s (x ∷ xs) = runs_all (runs s x) xs

abbrev pub says_all : Session → List (List ℕ) → List ℕ
says_all s [] = []
says_all s (x ∷ xs) = says s x ++ says_all (runs s x) xs

-- how many bytes are taken while there is room for an answer line
abbrev pub taking : Session → List ℕ → ℕ → ℕ
taking s [] room = 0
taking s (b ∷ bs) room = cond (ltb room answer_line) 0 (suc (taking (after s b) bs (room - length (said s b))))

unfoldable pub fed_of : Session → List ℕ → ℕ → Fed
fed_of s text room =
    record {
      session = runs s (take (taking s text room) text);
      taken = taking s text room;
      wrote = length (says s (take (taking s text room) text));
    }

-- what was said, and the rest of the buffer as it was
unfoldable pub fed_out : Session → List ℕ → List ℕ → List ℕ
fed_out s text out = placed out 0 (says s (take (taking s text (length out)) text))

-- the end of a text: a rest counts if it isn't empty, and the reader is fresh again
unfoldable pub ending : Session → List ℕ
ending s = cond (is_empty s.reader) [] (line_of (answer_to s.cluster (line_held s.reader)).answer)

abbrev pub ended : Session → Cluster
ended s = at_end line_after s.cluster s.reader

-- where there is no room for the answer, nothing is done
unfoldable pub finish_of : Session → ℕ → Finished
finish_of s room =
    cond (is_empty s.reader) (record { session = begun s.cluster; wrote = 0; ended = true })
    (cond (ltb room answer_line) (record { session = s; wrote = 0; ended = false })
    (record { session = begun (ended s); wrote = answer_line; ended = true }))

unfoldable pub finish_out : Session → List ℕ → List ℕ
finish_out s out = cond (ltb (length out) answer_line) out (placed out 0 (ending s))
