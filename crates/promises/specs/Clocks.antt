-- No phone pushes the clocks to their end: how far the times of a record run ahead of its wall clocks.
-- Assumes nothing.
use Rattle.std.specs.Prelude.{ℕ, ◌+◌, ◌≤◌, ◌<◌}
use Rattle.server_log.specs.Entries.{entry_at}
use Rattle.server_log.specs.Logs.{live, length_of}
use Rattle.cluster.specs.declared.Server.{Server}
use Rattle.cluster.specs.declared.Cluster.{Cluster}
use Rattle.cluster.specs.Servers.{server_at}
use Rattle.singles.specs.Writes.{most_ahead}
use Rattle.wholes.specs.ClocksAgree.{greatest_clock}
use Rattle.promises.specs.Runs.{LeadsTo, FromFresh}

-- no p of the server is above m, neither its cluster time's nor an entry's
pub record NotAbove (m : ℕ) (s : Server) : Type 0 where
  pub cluster_time : s.head.time.p ≤ m
  pub entries : (n : ℕ) → 1 ≤ n → n ≤ length_of s.log → (entry_at (live s.log) n).time.p ≤ m

-- no p of the record is more than 600 above its greatest wall clock
abbrev pub ClocksHeld : Cluster → Type 0
ClocksHeld c = (i : ℕ) → i < c.count → NotAbove (greatest_clock c + most_ahead) (server_at c i)

-- no wall clock of x is lower in y, so neither is the greatest
pub record NotFallen (x y : Cluster) : Type 0 where
  pub each : (i : ℕ) → (server_at x i).head.wall ≤ (server_at y i).head.wall
  pub greatest : greatest_clock x ≤ greatest_clock y

abbrev pub ClocksPromised : Type 0
ClocksPromised = (c d : Cluster) → FromFresh c → LeadsTo c d → ClocksHeld c × NotFallen c d
