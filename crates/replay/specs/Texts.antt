-- The answers to a text's lines, with nothing about how it arrives. Assumes nothing.
use Rattle.std.specs.Prelude.{ℕ, List, [], ◌∷◌, ◌++◌, Option, Some, None}
use Rattle.cluster.specs.declared.Cluster.{Cluster}
use Rattle.steps.specs.declared.Answer.{Answer}
use Rattle.steps.specs.declared.Outcome.{Outcome}
use Rattle.steps.specs.declared.Refusal.TheVariants.{NotAFrame}
use Rattle.steps.specs.Answers.{refusing_all}
use Rattle.rules.specs.Rules.{step_of}
use Rattle.steps.specs.declared.Step.{Step}
use Rattle.frames.specs.Steps.{read_step}
use Rattle.lines.specs.Texts.{line_feed, lines}
use Rattle.answers.specs.Answers.{write_answer}

-- what a line gives: its step, or refusal 1
unfoldable pub respond : Cluster → Option Step → Outcome
respond c (Some s) = step_of c s
respond c None = refusing_all c NotAFrame

unfoldable pub answer_to : Cluster → List ℕ → Outcome
answer_to c line = respond c (read_step line)

-- an answer's line ends in a line feed
unfoldable pub line_of : Answer → List ℕ
line_of a = write_answer a ++ (line_feed ∷ [])

-- each line is answered in turn, the record carried along
abbrev pub answers_to : Cluster → List (List ℕ) → List ℕ
answers_to c [] = []
answers_to c (l ∷ ls) = line_of (answer_to c l).answer ++ answers_to (answer_to c l).cluster ls

abbrev pub record_after : Cluster → List (List ℕ) → Cluster
record_after c [] = c
record_after c (l ∷ ls) = record_after (answer_to c l).cluster ls

-- the records in turn: the one that the lines are given to, and the one after each of them
abbrev pub records_on : Cluster → List (List ℕ) → List Cluster
records_on c [] = c ∷ []
records_on c (l ∷ ls) = c ∷ records_on (answer_to c l).cluster ls

-- the answers to a text, and the record that it leaves
abbrev pub answers : Cluster → List ℕ → List ℕ
answers c text = answers_to c (lines text)

abbrev pub leaves : Cluster → List ℕ → Cluster
leaves c text = record_after c (lines text)
