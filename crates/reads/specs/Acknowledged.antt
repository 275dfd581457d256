-- Kind 12: server a is asked about a position and a term, in a cluster of so many servers. Assumes nothing.
use Rattle.std.specs.Prelude.{[], ◌∷◌, ℕ, eqb, leb}
use Rattle.server_log.specs.Entries.{entry_at, has_entry}
use Rattle.server_log.specs.Logs.{may_ask, live}
use Rattle.cluster.specs.declared.Server.{Server}
use Rattle.steps.specs.declared.Stepped.{Stepped}
use Rattle.steps.specs.declared.Answer.TheVariants.{Entry}
use Rattle.steps.specs.declared.Refusal.TheVariants.{OutOfRange, NoSuchEntry, NotYet, Retired}
use Rattle.steps.specs.Refusals.{Rules, decided}
use Rattle.steps.specs.Answers.{refusing, answering}

-- asked with the count k about position n and a term. Counts above 0 are retired, whatever the server has; one past the server count is out of
-- range. Refusal 8 is considered only where 10 doesn't apply
abbrev pub acknowledge_rules : ℕ → Server → ℕ → ℕ → ℕ → Rules
acknowledge_rules size s k n term =
    (leb k size, OutOfRange)
    ∷ (may_ask n term, OutOfRange)
    ∷ (eqb k 0, Retired)
    ∷ (has_entry (live s.log) n term, NoSuchEntry)
    ∷ (leb n s.head.commit, NotYet)
    ∷ []

-- the answer is the position, the entry's term and time; the server is unchanged
abbrev pub acknowledge_done : Server → ℕ → Stepped
acknowledge_done s n =
    answering s (Entry n (entry_at (live s.log) n).term (entry_at (live s.log) n).time)

abbrev pub acknowledged_of : ℕ → Server → ℕ → ℕ → ℕ → Stepped
acknowledged_of size s k n term = decided (refusing s) (acknowledge_done s n) (acknowledge_rules size s k n term)
