-- Kind 1: elect a by set. Assumes nothing.
use Rattle.std.specs.Prelude.{[], ◌∷◌, Bool, not, ◌&&◌, ◌||◌, ℕ, ◌+◌, eqb, ltb, leb}
use Rattle.base.specs.Numbers.{every}
use Rattle.clock.specs.Times.{limit}
use Rattle.server_log.specs.Entries.{last_term}
use Rattle.server_log.specs.Logs.{live, length_of}
use Rattle.cluster.specs.declared.Server.{Server}
use Rattle.cluster.specs.declared.Cluster.{Cluster}
use Rattle.cluster.specs.Servers.{server_count, voter_count, server_at, elected_all}
use Rattle.cluster.specs.Sets.{member, is_within, is_apart, votes, is_majority}
use Rattle.steps.specs.declared.Outcome.{Outcome}
use Rattle.steps.specs.declared.Answer.TheVariants.{Elected}
use Rattle.steps.specs.declared.Refusal.TheVariants.{OutOfRange, ConditionUnmet, AtLimit}
use Rattle.steps.specs.Refusals.{Rules, decided}
use Rattle.steps.specs.Answers.{refusing_all}

-- s is not behind t: its last term is greater, or equal with a length not smaller
unfoldable pub not_behind : Server → Server → Bool
not_behind s t =
    ltb (last_term (live t.log)) (last_term (live s.log))
    || (eqb (last_term (live t.log)) (last_term (live s.log)) && leb (length_of t.log) (length_of s.log))

-- t may be a member where s is elected: its term is not above s's, and s is not behind it
unfoldable pub may_vote : Server → Server → Bool
may_vote s t = leb t.head.term s.head.term && not_behind s t

-- server i may vote for s, if it is a member of the set m
abbrev pub vote_ok : Server → Server → ℕ → ℕ → Bool
vote_ok s t m i = not (member m i) || may_vote s t

-- every member of the set m may vote for s
unfoldable pub all_may_vote : Cluster → Server → ℕ → Bool
all_may_vote c s m = every (server_count c) (λ i. vote_ok s (server_at c i) m i)

-- a and every member are servers that vote
unfoldable pub are_voters : Cluster → ℕ → ℕ → Bool
are_voters c a m =
    ltb a (server_count c) && (votes c.followers a && (is_within m (server_count c) && is_apart m c.followers))

-- the set is a majority of the voters and holds a; each member's term is not above a's, and a is not behind any member
abbrev pub elect_rules : Cluster → ℕ → ℕ → Rules
elect_rules c a m =
    (are_voters c a m, OutOfRange)
    ∷ (is_majority m (voter_count c), ConditionUnmet)
    ∷ (member m a, ConditionUnmet)
    ∷ (all_may_vote c (server_at c a) m, ConditionUnmet)
    ∷ (ltb (server_at c a).head.term limit, AtLimit)
    ∷ []

-- a's old term + 1
abbrev pub new_term : Cluster → ℕ → ℕ
new_term c a = (server_at c a).head.term + 1

-- every member has the new term; a primary, other members secondary
abbrev pub elect_done : Cluster → ℕ → ℕ → Outcome
elect_done c a m = record { cluster = elected_all c a m (new_term c a); answer = Elected (new_term c a) }

abbrev pub elects_of : Cluster → ℕ → ℕ → Outcome
elects_of c a m = decided (refusing_all c) (elect_done c a m) (elect_rules c a m)
