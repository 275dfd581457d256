-- In a well-formed record kinds 10 and 11 answer what a walking read finds, as 01 words it; and all values at once are their answers. Assumes nothing.
use mathlib.Core.Path.{◌≡◌}
use mathlib.Core.Bool.{false}
use Prim.Native.Nat.{ℕ, ◌≤◌}
use native.Mathlib.Omega.{arith}
use borrow.Author.Tests.{le-leb}
use Rattle.clock.specs.declared.Time.{Time}
use Rattle.clock.specs.Times.{is_before}
use Rattle.server_log.specs.Entries.{latest_value}
use Rattle.server_log.specs.Logs.{live}
use Rattle.server_log.specs.Order.{highest_key}
use Rattle.server_log.specs.Rows.{value_for}
use Rattle.cluster.specs.declared.Server.{Server}
use Rattle.cluster.proofs.Good.{ServerGood}
use Rattle.steps.specs.declared.Answer.TheVariants.{Value}
use Rattle.reads.specs.LocalRead.{local_read_of}
use Rattle.reads.specs.MajorityRead.{covered, majority_read_of}
use Rattle.reads.specs.Lists.{whole_list, committed_list}

module _ {s : Server} (g : ServerGood s) (key : ℕ) (h : key ≤ highest_key) where
  pub local_walks : value_for s.rows.whole key ≡ latest_value key (live s.log)
  local_walks = g.rows.whole key (omega arith)

  pub majority_walks : value_for s.rows.committed key ≡ latest_value key (covered s)
  majority_walks = g.rows.committed key (omega arith)

-- for any server, well formed or not, what is listed for a key is what the kind would answer for it, and its time is the listed one
module _ (s : Server) (key : ℕ) (h : key ≤ highest_key) (asked : Time) where
  pub whole_listed : is_before (whole_list s).time asked ≡ false → (local_read_of s key asked).answer ≡ Value (value_for (whole_list s).latest key) (whole_list s).time
  whole_listed late = rw (le-leb key highest_key h, late)

  pub committed_listed : is_before (committed_list s).time asked ≡ false → (majority_read_of s key asked).answer ≡ Value (value_for (committed_list s).latest key) (committed_list s).time
  committed_listed late = rw (le-leb key highest_key h, late)
