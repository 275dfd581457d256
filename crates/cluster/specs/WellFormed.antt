-- Which records are well formed, as 01 words it, and 02 for notes, queues, sources, rows and followers. Assumes nothing.
use Rattle.std.specs.Prelude.{Bool, true, cond, not, ◌&&◌, ℕ, eqb, ltb, leb}
use Rattle.base.specs.Numbers.{every}
use Rattle.clock.specs.Times.{zero_time, is_before, same_time}
use Rattle.server_log.specs.Entries.{applied_time}
use Rattle.server_log.specs.Logs.{live, length_of}
use Rattle.server_log.specs.Order.{is_empty_log, log_ok}
use Rattle.server_log.specs.Rows.{rows_ok}
use Rattle.mail.specs.Order.{mail_ok}
use Rattle.cluster.specs.declared.Server.{Server}
use Rattle.cluster.specs.declared.Cluster.{Cluster}
use Rattle.cluster.specs.Servers.{fewest_servers, most_servers, fewest_voters, server_at}
use Rattle.cluster.specs.Sets.{member, is_within, voters}

-- the commit point is not above the length; a counted server's wall clock is at least 1; a primary's term is at least 1
unfoldable pub numbers_ok : Server → Bool
numbers_ok s = leb s.head.commit (length_of s.log) && (leb 1 s.head.wall && cond s.head.primary (leb 1 s.head.term) true)

-- a counted server: its log is in order, and the last time is not above its cluster time
unfoldable pub counted_ok : Server → Bool
counted_ok s =
    log_ok s.head.term s.log && (not (is_before s.head.time (applied_time (live s.log))) && numbers_ok s)

-- a server past the count: zero, secondary; its mail is looked at apart
unfoldable pub zero_ok : Server → Bool
zero_ok s =
    is_empty_log s.log
    && (eqb s.head.term 0 && (not s.head.primary && (eqb s.head.commit 0 && (eqb s.head.wall 0 && same_time s.head.time zero_time))))

-- no follower is primary
abbrev pub role_ok : ℕ → ℕ → Server → Bool
role_ok f i s = not (s.head.primary && member f i)

-- server i, where so many are counted and these are the followers: past the count, where nobody is, its mail is all zero too. Both its rows have
-- what a walk finds: past the count, where there is no entry, nothing
unfoldable pub server_ok : ℕ → ℕ → ℕ → Server → Bool
server_ok n f i s =
    rows_ok s.rows s.log s.head.commit
    && cond (ltb i n) (counted_ok s && (mail_ok n i s.mail && role_ok f i s)) (zero_ok s && mail_ok 0 i s.mail)

-- a cluster has 2 to 7 servers, its followers are among them, and at least two servers vote
unfoldable pub size_ok : ℕ → ℕ → Bool
size_ok n f = leb fewest_servers n && (leb n most_servers && (is_within f n && leb fewest_voters (voters n f)))

-- the record has such a size, and each server is as its place asks
unfoldable pub well_formed : Cluster → Bool
well_formed c = size_ok c.count c.followers && every most_servers (λ i. server_ok c.count c.followers i (server_at c i))
