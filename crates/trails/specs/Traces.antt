-- The trace of a text: for each line that is wanted its pair, and the form of the record where that has changed. Assumes nothing.
use Rattle.std.specs.Prelude.{Bool, true, cond, ◌&&◌, Option, Some, None, List, [], ◌∷◌, ◌++◌, ℕ, eqb, ltb, leb}
use Rattle.cluster.specs.declared.Cluster.{Cluster}
use Rattle.cluster.specs.Servers.{server_count}
use Rattle.cluster.specs.WellFormed.{well_formed}
use Rattle.lines.specs.Texts.{lines, one_more}
use Rattle.saved.specs.Layout.{first_frame}
use Rattle.saved.specs.Editions.{newest}
use Rattle.saved.specs.Saved.{text_of, save_of}
use Rattle.loads.specs.Loads.{same_text}
use Rattle.replay.specs.Texts.{answer_to}
use Rattle.traces.specs.Pairs.{pair_line}
use Rattle.trails.specs.declared.Wanted.{Wanted}

-- the first frame of a record that has servers, as a line
unfoldable pub first_frame_of : Cluster → List ℕ
first_frame_of c = cond (eqb (server_count c) 0) [] (text_of (first_frame newest.widths newest.number (server_count c) c.followers ∷ []))

-- the form of a record in a trace: that frame where the trace is brief, and else its saved form, which a well-formed record has
unfoldable pub form_by : Bool → Cluster → List ℕ
form_by brief c = cond brief (first_frame_of c) (cond (well_formed c) (save_of c) [])

-- so many lines are not past the end, where there is one
abbrev pub goes_on : Option ℕ → ℕ → Bool
goes_on None n = true
goes_on (Some last) n = ltb n last

-- a line is wanted, where so many have gone before it
unfoldable pub is_wanted : Wanted → ℕ → Bool
is_wanted w n = leb w.before n && goes_on w.last n

-- before the first line that is wanted the record as it is
unfoldable pub opening_of : Wanted → ℕ → Cluster → List ℕ
opening_of w n c = cond (eqb n w.before) (form_by w.brief c) []

-- after a line the record, where its form is another
unfoldable pub change_of : Bool → Cluster → Cluster → List ℕ
change_of brief c d = cond (same_text (form_by brief c) (form_by brief d)) [] (form_by brief d)

abbrev pub line_traced : Wanted → ℕ → Cluster → List ℕ → List ℕ
line_traced w n c line =
    cond (is_wanted w n) (opening_of w n c ++ (pair_line line (answer_to c line).answer ++ change_of w.brief c (answer_to c line).cluster)) []

abbrev pub trace_from : Wanted → ℕ → Cluster → List (List ℕ) → List ℕ
trace_from w n c [] = []
trace_from w n c (l ∷ ls) = line_traced w n c l ++ trace_from w (one_more n) (answer_to c l).cluster ls

abbrev pub trace_of : Wanted → Cluster → List ℕ → List ℕ
trace_of w c text = trace_from w 0 c (lines text)
