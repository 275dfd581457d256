-- What the types of an entry, of a log and of its rows give. Assumes nothing.
use Rattle.std.specs.Prelude.{◌≡◌, ℕ, ◌<◌, ◌≤◌, ◌^◌, length, get_or}
use Rattle.base.specs.Numbers.{byte}
use Rattle.clock.specs.Times.{limit}
use Rattle.clock.specs.Ranges.{FitsTime}
use Rattle.server_log.specs.declared.Entry.{Entry}
use Rattle.server_log.specs.declared.Log.{Log}
use Rattle.server_log.specs.declared.rows.Latest.{Latest}
use Rattle.server_log.specs.declared.rows.Rows.{Rows}
use Rattle.server_log.specs.Entries.{zero_entry}
use Rattle.server_log.specs.Logs.{log_limit}
use Rattle.server_log.specs.Rows.{keys, value_for}

pub record FitsEntry (e : Entry) : Type 0 where
  pub term : e.term ≤ limit
  pub key : e.key < byte
  pub value : e.value ≤ limit
  pub time : FitsTime e.time

pub record FitsLog (g : Log) : Type 0 where
  pub slots : length g.entries ≡ log_limit
  pub len : g.len < 2 ^ 64
  pub each : (i : ℕ) → i < log_limit → FitsEntry (get_or g.entries i zero_entry)

pub record FitsLatest (v : Latest) : Type 0 where
  pub slots : length v.values ≡ keys
  pub each : (key : ℕ) → key < keys → value_for v key ≤ limit

pub record FitsRows (r : Rows) : Type 0 where
  pub whole : FitsLatest r.whole
  pub committed : FitsLatest r.committed
