-- Kind 3: a hears b. It is always allowed. Assumes nothing.
use Rattle.std.specs.Prelude.{Bool, cond, not, ◌&&◌, ℕ, max, ltb}
use Rattle.clock.specs.Times.{later_of}
use Rattle.server_log.specs.Entries.{equal_at}
use Rattle.server_log.specs.Logs.{live}
use Rattle.cluster.specs.declared.Head.{Head}
use Rattle.cluster.specs.declared.Server.{Server}
use Rattle.cluster.specs.Servers.{with_term, with_primary, with_commit, with_time, with_head, with_committed, committed_to}
use Rattle.steps.specs.declared.Stepped.{Stepped}
use Rattle.steps.specs.declared.Answer.TheVariants.{Done}
use Rattle.steps.specs.Answers.{answering}

-- b's commit point is above a's, and a holds an entry equal to b's there
unfoldable pub takes_commit : Server → Server → Bool
takes_commit s t = ltb s.head.commit t.head.commit && equal_at (live s.log) (live t.log) t.head.commit

-- if b's term is higher, a is secondary
abbrev pub stays_primary : Server → Server → Bool
stays_primary s t = s.head.primary && not (ltb s.head.term t.head.term)

-- the greater term and the later cluster time of both
abbrev pub raised_to : Head → Head → Head
raised_to h k = with_time (with_term h (max h.term k.term)) (later_of h.time k.time)

-- it may take b's commit point
abbrev pub heard_commit : Server → Server → ℕ
heard_commit s t = cond (takes_commit s t) t.head.commit s.head.commit

-- the cluster time becomes the later of both; if b's term is higher, a takes it and is secondary; the row of its committed beginning goes with
-- the commit point
unfoldable pub heard_of : Server → Server → Server
heard_of s t =
    with_committed (with_head s (with_commit (with_primary (raised_to s.head t.head) (stays_primary s t)) (heard_commit s t)))
    (committed_to s s.log (heard_commit s t))

abbrev pub hears_of : Server → Server → Stepped
hears_of s t = answering (heard_of s t) Done
