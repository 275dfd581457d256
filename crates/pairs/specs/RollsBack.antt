-- Kind 5: a rolls back to b. Assumes nothing.
use Rattle.std.specs.Prelude.{[], ◌∷◌, not, ℕ, ltb, leb}
use Rattle.server_log.specs.Entries.{last_term, common_beginning, is_beginning}
use Rattle.server_log.specs.declared.Log.{Log}
use Rattle.server_log.specs.Logs.{live, length_of, joined}
use Rattle.server_log.specs.Rows.{zero_row, latest_over}
use Rattle.cluster.specs.declared.Server.{Server}
use Rattle.steps.specs.declared.Stepped.{Stepped}
use Rattle.steps.specs.declared.Refusal.TheVariants.{WrongRole, ConditionUnmet, BelowCommitPoint}
use Rattle.steps.specs.Refusals.{Rules, decided}
use Rattle.steps.specs.Answers.{refusing}
use Rattle.pairs.specs.Pulls.{took_of}
use Rattle.pairs.specs.Reports.{sent_of}

abbrev pub common : Server → Server → ℕ
common s t = common_beginning (live s.log) (live t.log)

-- a secondary; a's log not empty; its last term below b's; its log not a beginning of b's; refusal 9 where the common beginning
-- is shorter than a's commit point
abbrev pub roll_rules : Server → Server → Rules
roll_rules s t =
    (not s.head.primary, WrongRole)
    ∷ (leb 1 (length_of s.log), ConditionUnmet)
    ∷ (ltb (last_term (live s.log)) (last_term (live t.log)), ConditionUnmet)
    ∷ (not (is_beginning (live s.log) (live t.log)), ConditionUnmet)
    ∷ (leb s.head.commit (common s t), BelowCommitPoint)
    ∷ []

-- a keeps the longest common beginning, then the rest of b's log
abbrev pub rolled_log : Server → Server → Log
rolled_log s t = joined s.log t.log (common s t)

-- its row is made anew from that; term, cluster time, commit point as in 4
abbrev pub rolled_of : Server → Server → Server
rolled_of s t = took_of s t (rolled_log s t) (latest_over zero_row (live (rolled_log s t)))

-- the answer is the new length; b is told
abbrev pub roll_done : Server → Server → ℕ → ℕ → Stepped
roll_done s t a b = sent_of a b (rolled_of s t)

abbrev pub rolls_back_of : Server → Server → ℕ → ℕ → Stepped
rolls_back_of s t a b = decided (refusing s) (roll_done s t a b) (roll_rules s t)
