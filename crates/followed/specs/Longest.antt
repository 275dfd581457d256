-- The longest beginning that commit points have ever covered, kept as a log. Nobody has to believe this: by `kept_live` its entries are those
-- of `longer_of`. Assumes nothing.
use Rattle.std.specs.Prelude.{cond, ℕ, zero, suc, min, ltb}
use Rattle.server_log.specs.declared.Log.{Log}
use Rattle.server_log.specs.Logs.{length_of}
use Rattle.cluster.specs.declared.Server.{Server}
use Rattle.cluster.specs.declared.Cluster.{Cluster}
use Rattle.cluster.specs.Servers.{server_count, server_at}

-- a server's log, cut at its commit point
abbrev pub cut_log : Server → Log
cut_log s = record { entries = s.log.entries; len = min s.head.commit (length_of s.log) }

-- the longer of both, the first where neither is
unfoldable pub longer_log : Log → Log → Log
longer_log g h = cond (ltb (length_of g) (length_of h)) h g

-- the longest of what is kept and of what each of the first n servers covers
unfoldable pub kept_upto : Log → Cluster → ℕ → Log
kept_upto kept c zero = kept
kept_upto kept c (suc n) = longer_log (kept_upto kept c n) (cut_log (server_at c n))

-- one record more: each of its servers counts
abbrev pub kept_log : Log → Cluster → Log
kept_log kept c = kept_upto kept c (server_count c)
