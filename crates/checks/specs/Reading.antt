-- Two texts that are read from their descriptors: what is done with a piece, what both come to, and the pieces that it all was. Nobody has to believe
-- this: what the program's loop does follows. Assumes nothing.
use Rattle.std.specs.Prelude.{◌≡◌, List, true, cond, ℕ, Option, Result, Ok, Err}
use Rattle.lines.specs.Texts.{together}
use Rattle.lines.specs.Turns.{End, last_end, is_input}
use Rattle.lines.specs.Walks.{walked}
use Rattle.followed.specs.declared.Run.{Run}
use Rattle.followed.specs.Follow.{run_followed, new_following, finished_run}
use Rattle.phones.specs.declared.Listed.{Listed}
use Rattle.phones.specs.Listed.{list_of, new_listing, finished_list}
use Rattle.checks.specs.Passing.{passed_of, new_passing, passed_by, finished_passed}
use Rattle.checks.specs.declared.texts.Text.{Text}
use Rattle.checks.specs.declared.texts.Both.{Both}
use Rattle.checks.specs.declared.texts.Unread.{Unread}
use Rattle.checks.specs.declared.texts.Unread.TheVariants as U

abbrev pub new_steps : Text Run
new_steps = record { walk = new_following; passing = new_passing }

abbrev pub new_records : Text Listed
new_records = record { walk = new_listing; passing = new_passing }

-- one piece more of a text whose lines do f
abbrev pub text_taken : {A : Type 0} → (A → List ℕ → A) → Text A → List ℕ → Text A
text_taken f t piece = record { walk = walked f t.walk piece; passing = passed_by t.passing piece }

-- what two texts come to that were read so far
abbrev pub finished : Text Run → Text Listed → Both
finished s r = record { run = finished_run s.walk; list = finished_list r.walk; passed = finished_passed s.passing; ends = finished_passed r.passing }

-- the same by how they ended: only what was read to its end comes to anything
abbrev pub come_to_by : Text Run → Text Listed → End → End → Result Both Unread
come_to_by s r e f = cond (is_input e) (cond (is_input f) (Ok (finished s r)) (Err U.Records)) (Err U.Steps)

-- what two texts come to
abbrev pub both_of : List ℕ → List ℕ → Both
both_of steps records = record { run = run_followed steps; list = list_of records; passed = passed_of steps; ends = passed_of records }

-- the run and the list are those that the pieces of each text, as one text, are, and so is what is passed over; all of it was read where the
-- last read answered that it ends
pub record ReadsBoth (r : Result Both Unread) : Type 0 where
  pub steps : List (List ℕ)
  pub last_steps : Option ℕ
  pub records : List (List ℕ)
  pub last_records : Option ℕ
  pub comes_to :
      r
      ≡ cond (is_input (last_end last_steps true))
      (cond (is_input (last_end last_records true)) (Ok (both_of (together steps) (together records))) (Err U.Records))
      (Err U.Steps)
