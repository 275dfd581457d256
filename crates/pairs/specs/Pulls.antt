-- Kind 4: a pulls from b. Assumes nothing.
use Rattle.std.specs.Prelude.{[], ◌∷◌, Bool, not, ◌||◌, ℕ, max, eqb, ltb}
use Rattle.server_log.specs.declared.Log.{Log}
use Rattle.server_log.specs.declared.rows.Latest.{Latest}
use Rattle.server_log.specs.Entries.{equal_at}
use Rattle.server_log.specs.Logs.{live, length_of, joined}
use Rattle.server_log.specs.Rows.{latest_over, between}
use Rattle.cluster.specs.declared.Server.{Server}
use Rattle.cluster.specs.Servers.{with_commit, with_head, with_log, with_whole, with_committed, committed_to}
use Rattle.steps.specs.declared.Stepped.{Stepped}
use Rattle.steps.specs.declared.Refusal.TheVariants.{WrongRole, ConditionUnmet}
use Rattle.steps.specs.Refusals.{Rules, decided}
use Rattle.steps.specs.Answers.{refusing}
use Rattle.pairs.specs.Hears.{raised_to}
use Rattle.pairs.specs.Reports.{sent_of}

-- the log g of n entries is empty, or its last entry is equal to h's at that position
abbrev pub may_join : Log → Log → ℕ → Bool
may_join g h n = eqb n 0 || equal_at (live g) (live h) n

-- a secondary; a's log shorter than b's; a's log empty, or its last entry equal to b's at that position
abbrev pub pull_rules : Server → Server → Rules
pull_rules s t =
    (not s.head.primary, WrongRole)
    ∷ (ltb (length_of s.log) (length_of t.log), ConditionUnmet)
    ∷ (may_join s.log t.log (length_of s.log), ConditionUnmet)
    ∷ []

-- the greater commit point of both
abbrev pub took_commit : Server → Server → ℕ
took_commit s t = max s.head.commit t.head.commit

-- a with the log g and its row v; term, cluster time and commit point each the greater of both, and the row of the committed beginning with it
unfoldable pub took_of : Server → Server → Log → Latest → Server
took_of s t g v =
    with_committed (with_whole (with_log (with_head s (with_commit (raised_to s.head t.head) (took_commit s t))) g) v) (committed_to s g (took_commit s t))

-- a's log gets the rest of b's
abbrev pub pulled_log : Server → Server → Log
pulled_log s t = joined s.log t.log (length_of s.log)

-- and its row the entries that came
abbrev pub pulled_of : Server → Server → Server
pulled_of s t =
    took_of s t (pulled_log s t) (latest_over s.rows.whole (between (pulled_log s t) (length_of s.log) (length_of (pulled_log s t))))

-- the answer is the new length; b is told
abbrev pub pull_done : Server → Server → ℕ → ℕ → Stepped
pull_done s t a b = sent_of a b (pulled_of s t)

abbrev pub pulls_of : Server → Server → ℕ → ℕ → Stepped
pulls_of s t a b = decided (refusing s) (pull_done s t a b) (pull_rules s t)
