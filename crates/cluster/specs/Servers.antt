-- The fixed records of 01, and records with one server or all servers changed. Assumes nothing.
use Rattle.std.specs.Prelude.{[], Bool, false, cond, ℕ, min, eqb, ltb, get_or, set, replicate, None}
use Rattle.base.specs.Lists.{each}
use Rattle.clock.specs.declared.Time.{Time}
use Rattle.clock.specs.Times.{zero_time}
use Rattle.server_log.specs.declared.Log.{Log}
use Rattle.server_log.specs.declared.rows.Latest.{Latest}
use Rattle.server_log.specs.declared.rows.Rows.{Rows}
use Rattle.server_log.specs.Logs.{empty_log}
use Rattle.server_log.specs.Rows.{zero_rows, latest_over, between, rows_of}
use Rattle.mail.specs.declared.Mail.{Mail}
use Rattle.mail.specs.Mails.{zero_mail, emptied}
use Rattle.cluster.specs.declared.Head.{Head}
use Rattle.cluster.specs.declared.Server.{Server}
use Rattle.cluster.specs.declared.Cluster.{Cluster}
use Rattle.cluster.specs.Sets.{member, voters}

-- a cluster has 2 to 7 servers
abbrev pub fewest_servers : ℕ
fewest_servers = 2

abbrev pub most_servers : ℕ
most_servers = 7

-- at least two servers vote
abbrev pub fewest_voters : ℕ
fewest_voters = 2

-- what a step doesn't name is unchanged: a head, and a server, with one field changed
abbrev pub with_term : Head → ℕ → Head
with_term h t = record { term = t; primary = h.primary; commit = h.commit; wall = h.wall; time = h.time }

abbrev pub with_primary : Head → Bool → Head
with_primary h p = record { term = h.term; primary = p; commit = h.commit; wall = h.wall; time = h.time }

abbrev pub with_commit : Head → ℕ → Head
with_commit h n = record { term = h.term; primary = h.primary; commit = n; wall = h.wall; time = h.time }

abbrev pub with_wall : Head → ℕ → Head
with_wall h w = record { term = h.term; primary = h.primary; commit = h.commit; wall = w; time = h.time }

abbrev pub with_time : Head → Time → Head
with_time h t = record { term = h.term; primary = h.primary; commit = h.commit; wall = h.wall; time = t }

abbrev pub with_head : Server → Head → Server
with_head s h = record { head = h; log = s.log; mail = s.mail; rows = s.rows }

abbrev pub with_log : Server → Log → Server
with_log s g = record { head = s.head; log = g; mail = s.mail; rows = s.rows }

abbrev pub with_mail : Server → Mail → Server
with_mail s m = record { head = s.head; log = s.log; mail = m; rows = s.rows }

abbrev pub with_rows : Server → Rows → Server
with_rows s r = record { head = s.head; log = s.log; mail = s.mail; rows = r }

-- with another row of the whole log, or of its committed beginning
abbrev pub with_whole : Server → Latest → Server
with_whole s v = with_rows s (record { whole = v; committed = s.rows.committed })

abbrev pub with_committed : Server → Latest → Server
with_committed s v = with_rows s (record { whole = s.rows.whole; committed = v })

-- all zero, secondary
abbrev pub zero_head : Head
zero_head = record { term = 0; primary = false; commit = 0; wall = 0; time = zero_time }

abbrev pub zero_server : Server
zero_server = record { head = zero_head; log = empty_log; mail = zero_mail; rows = zero_rows }

-- secondary, term 0, log empty, commit point 0, wall clock 1, cluster time (0,0); no note, no report, no source, no latest value
abbrev pub fresh_server : Server
fresh_server = with_head zero_server (with_wall zero_head 1)

-- what the language takes for an element past an array's end
abbrev pub past_server : Server
past_server =
    with_rows
    (with_mail (with_log zero_server (record { entries = []; len = 0 })) (record { notes = []; queue = record { reports = []; len = 0 }; source = None }))
    (record { whole = record { values = [] }; committed = record { values = [] } })

-- the server count, cut at seven so that it is one for every record
abbrev pub server_count : Cluster → ℕ
server_count c = min c.count most_servers

-- how many of them vote
abbrev pub voter_count : Cluster → ℕ
voter_count c = voters (server_count c) c.followers

abbrev pub server_at : Cluster → ℕ → Server
server_at c i = get_or c.servers i past_server

-- the record before the first start: all zero
abbrev pub zero_cluster : Cluster
zero_cluster = record { count = 0; followers = 0; servers = replicate most_servers zero_server }

-- the fresh cluster of n servers with the followers f: each of the first n is fresh, the others zero
unfoldable pub started_of : ℕ → ℕ → Server → Server
started_of n i s = cond (ltb i n) fresh_server s

abbrev pub fresh_cluster : ℕ → ℕ → Cluster
fresh_cluster n f = record { count = n; followers = f; servers = each (started_of n) zero_cluster.servers }

-- server i replaced
abbrev pub with_server : Cluster → ℕ → Server → Cluster
with_server c i s = record { count = c.count; followers = c.followers; servers = set c.servers i s }

-- server i after an election of a by the set m into the term t: every member has the term; a primary, other members secondary; a has no
-- notes and no reports
unfoldable pub voted_of : ℕ → ℕ → ℕ → ℕ → Server → Server
voted_of a m t i s =
    cond (member m i) (with_mail (with_head s (with_primary (with_term s.head t) (eqb i a))) (cond (eqb i a) (emptied s.mail) s.mail)) s

abbrev pub elected_all : Cluster → ℕ → ℕ → ℕ → Cluster
elected_all c a m t = record { count = c.count; followers = c.followers; servers = each (voted_of a m t) c.servers }

-- server i with the wall clock w, where it is one of the first n
unfoldable pub clocked_of : ℕ → ℕ → ℕ → Server → Server
clocked_of n w i s = cond (ltb i n) (with_head s (with_wall s.head w)) s

abbrev pub clocks_set : Cluster → ℕ → Cluster
clocks_set c w = record { count = c.count; followers = c.followers; servers = each (clocked_of c.count w) c.servers }

-- the row of the committed beginning at a commit point n, in the log g: brought up from the one before by the entries between
abbrev pub committed_to : Server → Log → ℕ → Latest
committed_to s g n = latest_over s.rows.committed (between g s.head.commit n)

-- a server with its rows worked out afresh
unfoldable pub rowed_of : Server → Server
rowed_of s = with_rows s (rows_of s.log s.head.commit)

abbrev pub rowed_all : Cluster → Cluster
rowed_all c = record { count = c.count; followers = c.followers; servers = each (λ i. rowed_of) c.servers }
