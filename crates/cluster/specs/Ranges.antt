-- What the types of a server and of a record give, apart from being well formed. Assumes nothing.
use Rattle.std.specs.Prelude.{◌≡◌, ℕ, ◌<◌, ◌≤◌, ◌^◌, length}
use Rattle.base.specs.Numbers.{byte}
use Rattle.clock.specs.Times.{limit}
use Rattle.clock.specs.Ranges.{FitsTime}
use Rattle.server_log.specs.Ranges.{FitsLog, FitsRows}
use Rattle.mail.specs.Ranges.{FitsMail}
use Rattle.cluster.specs.declared.Head.{Head}
use Rattle.cluster.specs.declared.Server.{Server}
use Rattle.cluster.specs.declared.Cluster.{Cluster}
use Rattle.cluster.specs.Servers.{most_servers, server_at}

pub record FitsHead (h : Head) : Type 0 where
  pub term : h.term ≤ limit
  pub commit : h.commit < 2 ^ 64
  pub wall : h.wall ≤ limit
  pub time : FitsTime h.time

pub record FitsServer (s : Server) : Type 0 where
  pub head : FitsHead s.head
  pub log : FitsLog s.log
  pub mail : FitsMail s.mail
  pub rows : FitsRows s.rows

pub record Fits (c : Cluster) : Type 0 where
  pub count : c.count < 2 ^ 64
  pub followers : c.followers < byte
  pub slots : length c.servers ≡ most_servers
  pub each : (i : ℕ) → i < most_servers → FitsServer (server_at c i)
