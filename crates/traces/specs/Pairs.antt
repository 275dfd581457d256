-- A line and its answer, as a line of a trace. Assumes nothing.
use Rattle.std.specs.Prelude.{List, [], ◌∷◌, ◌++◌, ℕ}
use Rattle.lines.specs.Texts.{line_feed}
use Rattle.steps.specs.declared.Answer.{Answer}
use Rattle.answers.specs.Answers.{write_answer}
use Rattle.traces.specs.Shown.{shown_line}

abbrev pub blank : ℕ
blank = 32

abbrev pub pair_line : List ℕ → Answer → List ℕ
pair_line line a = shown_line line ++ (blank ∷ write_answer a ++ (line_feed ∷ []))
