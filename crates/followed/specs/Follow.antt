-- A run that is followed line by line: the record after each line, the longest beginning that was covered since the last start that
-- succeeded, and how many starts have. Assumes nothing.
use Rattle.std.specs.Prelude.{◌≡◌, Bool, true, false, cond, ◌&&◌, List, [], ◌∷◌, ℕ, Option, Some, None}
use Rattle.server_log.specs.Logs.{empty_log}
use Rattle.cluster.specs.declared.Cluster.{Cluster}
use Rattle.cluster.specs.Servers.{zero_cluster}
use Rattle.steps.specs.declared.Answer.{Answer}
use Rattle.steps.specs.declared.Answer.TheVariants as A
use Rattle.rules.specs.Rules.{is_start}
use Rattle.steps.specs.declared.Step.{Step}
use Rattle.frames.specs.Steps.{read_step}
use Rattle.lines.specs.Texts.{lines, one_more}
use Rattle.replay.specs.Texts.{respond, answer_to}
use Rattle.lines.specs.Folds.{over_lines}
use Rattle.lines.specs.Walks.{walk_from, walked, walked_out}
use Rattle.lines.specs.declared.walks.Walk.{Walk}
use Rattle.followed.specs.declared.Run.{Run}
use Rattle.followed.specs.Longest.{kept_log}

abbrev pub is_done : Answer → Bool
is_done A.Done = true
is_done (A.Elected term) = false
is_done (A.Reached n) = false
is_done (A.Entry n term time) = false
is_done (A.Value value time) = false
is_done (A.Refused r) = false

-- a line that reads so and is answered so is a start that succeeds
abbrev pub begins : Option Step → Answer → Bool
begins (Some s) a = is_start s && is_done a
begins None a = false

-- before the first line: the zero record, nothing covered, no start
abbrev pub new_run : Run
new_run = record { cluster = zero_cluster; longest = empty_log; starts = 0 }

-- a line is answered; a start that succeeds begins anew with nothing covered
unfoldable pub run_after_read : Run → Option Step → Run
run_after_read r read =
    cond (begins read (respond r.cluster read).answer)
    (record {
      cluster = (respond r.cluster read).cluster;
      longest = kept_log empty_log (respond r.cluster read).cluster;
      starts = one_more r.starts;
    })
    (record {
      cluster = (respond r.cluster read).cluster;
      longest = kept_log r.longest (respond r.cluster read).cluster;
      starts = r.starts;
    })

abbrev pub run_after_line : Run → List ℕ → Run
run_after_line r line = run_after_read r (read_step line)

-- the run that a text is
abbrev pub run_followed : List ℕ → Run
run_followed text = over_lines run_after_line new_run (lines text)

-- lines in turn from c on, none of which is a start that succeeds
abbrev pub NoneStarts : Cluster → List (List ℕ) → Type 0
NoneStarts c [] = Unit {0}
NoneStarts c (l ∷ ls) = (begins (read_step l) (answer_to c l).answer ≡ false) × NoneStarts (answer_to c l).cluster ls

-- ---- byte by byte, which by `followed_text` comes to the same

abbrev pub Following : Type 0
Following = Walk Run

abbrev pub new_following : Following
new_following = walk_from new_run

abbrev pub followed_by : Following → List ℕ → Following
followed_by f piece = walked run_after_line f piece

abbrev pub finished_run : Following → Run
finished_run f = walked_out run_after_line f
