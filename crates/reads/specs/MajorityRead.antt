-- Kind 11: majority read at a. Assumes nothing.
use Rattle.std.specs.Prelude.{List, ℕ, take}
use Rattle.clock.specs.declared.Time.{Time}
use Rattle.server_log.specs.declared.Entry.{Entry}
use Rattle.server_log.specs.Entries.{entry_at}
use Rattle.server_log.specs.Logs.{live}
use Rattle.server_log.specs.Rows.{value_for}
use Rattle.cluster.specs.declared.Server.{Server}
use Rattle.steps.specs.declared.Stepped.{Stepped}
use Rattle.steps.specs.declared.Answer.TheVariants.{Value}
use Rattle.steps.specs.Refusals.{Rules, decided}
use Rattle.steps.specs.Answers.{refusing, answering}
use Rattle.reads.specs.LocalRead.{read_rules}

-- the time of the entry at the commit point, (0,0) if that is 0
abbrev pub commit_time : Server → Time
commit_time s = (entry_at (live s.log) s.head.commit).time

-- the first commit-point entries
abbrev pub covered : Server → List Entry
covered s = take s.head.commit (live s.log)

-- the value of the last entry for the key in the first commit-point entries, which their row has, with the commit time
abbrev pub majority_rules : Server → ℕ → Time → Rules
majority_rules s key asked = read_rules key (commit_time s) asked

abbrev pub majority_done : Server → ℕ → Stepped
majority_done s key = answering s (Value (value_for s.rows.committed key) (commit_time s))

abbrev pub majority_read_of : Server → ℕ → Time → Stepped
majority_read_of s key asked = decided (refusing s) (majority_done s key) (majority_rules s key asked)
