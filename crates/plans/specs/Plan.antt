-- The plan that gets a cluster going again, in seven lines. Assumes nothing.
use Rattle.std.specs.Prelude.{Bool, cond, not, ◌&&◌, ◌||◌, List, [], ◌∷◌, ℕ, ◌-◌, ltb, leb}
use Rattle.clock.specs.Times.{zero_time}
use Rattle.cluster.specs.declared.Cluster.{Cluster}
use Rattle.cluster.specs.Servers.{server_count, server_at}
use Rattle.cluster.specs.Sets.{votes}
use Rattle.steps.specs.declared.Step.{Step}
use Rattle.steps.specs.declared.Step.TheVariants.{Elect, Hears, Pulls, RollsBack, Writes, Advances, TakesReport}
use Rattle.steps.specs.Answers.{is_refused}
use Rattle.wholes.specs.Elects.{not_behind}
use Rattle.rules.specs.Rules.{step_of}
use Rattle.plans.specs.Moves.{Move, steps_by, turns, once, one_by_one, other, best, set_from}

-- all servers but one
abbrev pub others : Cluster → ℕ
others c = server_count c - 1

-- i may lead before k: k doesn't vote, or i does and is not behind it
unfoldable pub may_lead : Cluster → ℕ → ℕ → Bool
may_lead c i k = not (votes c.followers k) || (votes c.followers i && not_behind (server_at c i) (server_at c k))

-- the voter with the greatest last term, then length, the lowest of them
abbrev pub chosen : Cluster → ℕ
chosen c = best (may_lead c) (others c)

-- i's term is not below k's
unfoldable pub not_older : Cluster → ℕ → ℕ → Bool
not_older c i k = leb (server_at c k).head.term (server_at c i).head.term

-- the server with the greatest term, the lowest of them
abbrev pub newest_server : Cluster → ℕ
newest_server c = best (not_older c) (others c)

-- all voters, as a set
abbrev pub all_voters : Cluster → ℕ
all_voters c = set_from (votes c.followers) 0 (server_count c)

-- where a's term isn't the greatest, it hears who has that
unfoldable pub hearing : Cluster → ℕ → List Move
hearing c a = cond (ltb (server_at c a).head.term (server_at c (newest_server c)).head.term) (once (λ d. Hears a (newest_server c))) []

-- a pulls from b where that isn't refused, and otherwise rolls back to it
abbrev pub copies : ℕ → ℕ → Move
copies a b c = cond (is_refused (step_of c (Pulls a b)).answer) (RollsBack a b) (Pulls a b)

-- the seven lines, where a is to lead
abbrev pub plan_lines : Cluster → ℕ → ℕ → ℕ → List (List Move)
plan_lines c a key value =
    hearing c a
    ∷ once (λ d. Elect a (all_voters c))
    ∷ once (λ d. Writes a key value zero_time)
    ∷ turns (λ k. copies (other a k) a) 0 (others c)
    ∷ turns (λ k d. TakesReport a) 0 (others c)
    ∷ once (λ d. Advances a)
    ∷ turns (λ k d. Hears (other a k) a) 0 (others c)
    ∷ []

abbrev pub plan_for : Cluster → ℕ → ℕ → List Step
plan_for c key value = steps_by c (one_by_one (plan_lines c (chosen c) key value))
