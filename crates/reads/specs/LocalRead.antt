-- Kind 10: local read at a. Assumes nothing.
use Rattle.std.specs.Prelude.{[], ◌∷◌, not, ℕ, leb}
use Rattle.clock.specs.declared.Time.{Time}
use Rattle.clock.specs.Times.{is_before}
use Rattle.server_log.specs.Entries.{applied_time}
use Rattle.server_log.specs.Logs.{live}
use Rattle.server_log.specs.Order.{highest_key}
use Rattle.server_log.specs.Rows.{value_for}
use Rattle.cluster.specs.declared.Server.{Server}
use Rattle.steps.specs.declared.Stepped.{Stepped}
use Rattle.steps.specs.declared.Answer.TheVariants.{Value}
use Rattle.steps.specs.declared.Refusal.TheVariants.{OutOfRange, NotYet}
use Rattle.steps.specs.Refusals.{Rules, decided}
use Rattle.steps.specs.Answers.{refusing, answering}

-- a read of a key at a time that the server has reached: the reached time is not before the time asked
abbrev pub read_rules : ℕ → Time → Time → Rules
read_rules key reached asked = (leb key highest_key, OutOfRange) ∷ (not (is_before reached asked), NotYet) ∷ []

-- the value of the last entry for the key in the whole log, which its row has, with the applied time; the server is unchanged
abbrev pub local_rules : Server → ℕ → Time → Rules
local_rules s key asked = read_rules key (applied_time (live s.log)) asked

abbrev pub local_done : Server → ℕ → Stepped
local_done s key = answering s (Value (value_for s.rows.whole key) (applied_time (live s.log)))

abbrev pub local_read_of : Server → ℕ → Time → Stepped
local_read_of s key asked = decided (refusing s) (local_done s key) (local_rules s key asked)
