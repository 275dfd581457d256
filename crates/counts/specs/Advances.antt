-- Kind 7: a advances its commit point. Assumes nothing.
use Rattle.std.specs.Prelude.{[], ◌∷◌, Bool, ◌&&◌, ◌||◌, ℕ, eqb, ltb, leb}
use Rattle.base.specs.Numbers.{highest}
use Rattle.server_log.specs.Entries.{entry_at}
use Rattle.server_log.specs.Logs.{live, length_of}
use Rattle.mail.specs.Mails.{note_at}
use Rattle.cluster.specs.declared.Server.{Server}
use Rattle.cluster.specs.declared.Cluster.{Cluster}
use Rattle.cluster.specs.Servers.{with_commit, with_head, with_committed, committed_to, server_count, server_at, with_server}
use Rattle.cluster.specs.Sets.{voters, voters_with, most_of}
use Rattle.steps.specs.declared.Outcome.{Outcome}
use Rattle.steps.specs.declared.Answer.TheVariants.{Reached}
use Rattle.steps.specs.declared.Refusal.TheVariants.{OutOfRange, WrongRole, ConditionUnmet}
use Rattle.steps.specs.Refusals.{Rules, decided}
use Rattle.steps.specs.Answers.{refusing_all}

-- server i counts for position n at s, which is server a: it is a itself, or s's note about it has both terms equal to s's term and a
-- length that reaches n
unfoldable pub backs : Server → ℕ → ℕ → ℕ → Bool
backs s a n i =
    eqb i a
    || (eqb (note_at s.mail i).term s.head.term && (eqb (note_at s.mail i).last s.head.term && leb n (note_at s.mail i).len))

-- how many of the voters do, where these are the followers
abbrev pub backers : ℕ → ℕ → Server → ℕ → ℕ → ℕ
backers size f s a n = voters_with size f (backs s a n)

-- position n is above s's commit point and at most its length, entry n has s's current term, and a majority of the voters back it
unfoldable pub passes : ℕ → ℕ → Server → ℕ → ℕ → Bool
passes size f s a n =
    ltb s.head.commit n
    && (leb n (length_of s.log)
    && (eqb (entry_at (live s.log) n).term s.head.term && most_of (voters size f) (backers size f s a n)))

-- the highest position that passes, 0 if none does
unfoldable pub highest_passing : ℕ → ℕ → Server → ℕ → ℕ
highest_passing size f s a = highest (passes size f s a) (length_of s.log)

-- that of server a of the record
abbrev pub reached_by : Cluster → ℕ → ℕ
reached_by c a = highest_passing (server_count c) c.followers (server_at c a) a

-- a primary; some position passes
abbrev pub advance_rules : Cluster → ℕ → Rules
advance_rules c a =
    (ltb a (server_count c), OutOfRange)
    ∷ ((server_at c a).head.primary, WrongRole)
    ∷ (leb 1 (reached_by c a), ConditionUnmet)
    ∷ []

-- the server with this commit point, and the row of its committed beginning
abbrev pub committed_of : Server → ℕ → Server
committed_of s n = with_committed (with_head s (with_commit s.head n)) (committed_to s s.log n)

-- the answer is the new commit point
abbrev pub advance_done : Cluster → ℕ → Outcome
advance_done c a =
    record {
      cluster = with_server c a (committed_of (server_at c a) (reached_by c a));
      answer = Reached (reached_by c a);
    }

abbrev pub advances_of : Cluster → ℕ → Outcome
advances_of c a = decided (refusing_all c) (advance_done c a) (advance_rules c a)
