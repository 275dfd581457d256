-- The lines of a text that are no step frames: how many there are, and which is the first; and the first line that ends in CR. Nobody has to
-- believe this: no verdict goes by it. Assumes nothing.
use Rattle.std.specs.Prelude.{Bool, true, false, cond, List, [], ◌∷◌, ℕ, eqb, Option, Some, None}
use Rattle.steps.specs.declared.Step.{Step}
use Rattle.frames.specs.Steps.{read_step}
use Rattle.lines.specs.Texts.{line_feed, lines, one_more}
use Rattle.lines.specs.Readers.{fresh_reader, line_held, is_empty, reader_after}
use Rattle.lines.specs.Folds.{over_lines}
use Rattle.checks.specs.declared.passed.Passed.{Passed}
use Rattle.checks.specs.declared.passed.Passing.{Passing}

abbrev pub carriage_return : ℕ
carriage_return = 13

abbrev pub is_none : Option Step → Bool
is_none (Some s) = false
is_none None = true

-- one more where it is so, as far as a number goes
unfoldable pub counted : ℕ → Bool → ℕ
counted n so = cond so (one_more n) n

-- the first line where it was so
unfoldable pub first_noted : Option ℕ → ℕ → Bool → Option ℕ
first_noted None number so = cond so (Some number) None
first_noted (Some n) number so = Some n

-- the last character of a line, where a is the one before it
abbrev pub last_after : ℕ → List ℕ → ℕ
last_after a [] = a
last_after a (b ∷ bs) = last_after b bs

-- before the first line
abbrev pub new_passed : Passed
new_passed = record { number = 1; count = 0; first = None; cr = None }

-- a line that reads so and ends in that character
unfoldable pub passed_after_read : Passed → Option Step → ℕ → Passed
passed_after_read p read last =
    record {
      number = counted p.number true;
      count = counted p.count (is_none read);
      first = first_noted p.first p.number (is_none read);
      cr = first_noted p.cr p.number (eqb last carriage_return);
    }

abbrev pub passed_after_line : Passed → List ℕ → Passed
passed_after_line p line = passed_after_read p (read_step line) (last_after 0 line)

-- what is passed over of a text
abbrev pub passed_of : List ℕ → Passed
passed_of text = over_lines passed_after_line new_passed (lines text)

-- ---- byte by byte, which by `passed_text` comes to the same

abbrev pub new_passing : Passing
new_passing = record { passed = new_passed; reader = fresh_reader; last = 0 }

-- the line that is held has ended
abbrev pub held_ended : Passing → Passed
held_ended p = passed_after_read p.passed (read_step (line_held p.reader)) p.last

unfoldable pub after_byte : Passing → ℕ → Passing
after_byte p b =
    record { passed = cond (eqb b line_feed) (held_ended p) p.passed; reader = reader_after p.reader b; last = cond (eqb b line_feed) 0 b }

abbrev pub passed_by : Passing → List ℕ → Passing
passed_by p [] = p
passed_by p (b ∷ bs) = passed_by (after_byte p b) bs

-- a rest counts if it isn't empty
unfoldable pub finished_passed : Passing → Passed
finished_passed p = cond (is_empty p.reader) p.passed (held_ended p)
