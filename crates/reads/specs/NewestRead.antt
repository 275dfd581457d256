-- Kind 15: newest read at a, of the entries up to a position. Assumes nothing.
use Rattle.std.specs.Prelude.{[], ◌∷◌, ℕ, eqb, leb}
use Rattle.server_log.specs.Entries.{entry_at, has_entry}
use Rattle.server_log.specs.Logs.{may_ask, live, latest_in}
use Rattle.server_log.specs.Order.{highest_key}
use Rattle.cluster.specs.declared.Server.{Server}
use Rattle.steps.specs.declared.Stepped.{Stepped}
use Rattle.steps.specs.declared.Answer.TheVariants.{Value}
use Rattle.steps.specs.declared.Refusal.TheVariants.{OutOfRange, WrongRole, NoSuchEntry, NotYet}
use Rattle.steps.specs.Refusals.{Rules, decided}
use Rattle.steps.specs.Answers.{refusing, answering}

-- the server is primary in the term asked, has an entry of that term at position n, and its commit point reaches that far
abbrev pub newest_rules : Server → ℕ → ℕ → ℕ → Rules
newest_rules s key n term =
    (leb key highest_key, OutOfRange)
    ∷ (may_ask n term, OutOfRange)
    ∷ (s.head.primary, WrongRole)
    ∷ (eqb s.head.term term, WrongRole)
    ∷ (has_entry (live s.log) n term, NoSuchEntry)
    ∷ (leb n s.head.commit, NotYet)
    ∷ []

-- the value of the last entry for the key in the first n entries, with the time of the nth
abbrev pub newest_done : Server → ℕ → ℕ → Stepped
newest_done s key n =
    answering s (Value (latest_in s.log key n) (entry_at (live s.log) n).time)

abbrev pub newest_read_of : Server → ℕ → ℕ → ℕ → Stepped
newest_read_of s key n term = decided (refusing s) (newest_done s key n) (newest_rules s key n term)
