-- What is claimed of a write that is answered, for a client that carries a time. Assumes nothing.
use Rattle.std.specs.Prelude.{◌≡◌, true, ℕ}
use Rattle.clock.specs.declared.Time.{Time}
use Rattle.clock.specs.Times.{is_before}
use Rattle.server_log.specs.Entries.{applied_time}
use Rattle.server_log.specs.Logs.{live}
use Rattle.cluster.specs.declared.Cluster.{Cluster}
use Rattle.cluster.specs.Servers.{server_at}

-- server a's write between the records c and d, answered with the time t
pub record Stamped (c d : Cluster) (a : ℕ) (client t : Time) : Type 0 where
  -- it is after what the client saw, and after the cluster time before
  pub after_client : is_before client t ≡ true
  pub after_cluster : is_before (server_at c a).head.time t ≡ true
  -- it is the cluster time then, and the last entry's
  pub cluster_time : (server_at d a).head.time ≡ t
  pub last_entry : applied_time (live (server_at d a).log) ≡ t
  -- the wall clock doesn't move
  pub wall_clock : (server_at d a).head.wall ≡ (server_at c a).head.wall
