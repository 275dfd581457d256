-- What the program does as ordered, as far as a contract can say it: the record that its run begins with, how much of the answers is
-- written, and whether the record is saved. Nobody has to believe this: it follows from the orders and from what is read. Assumes nothing.
use Rattle.std.specs.Prelude.{◌≡◌, Bool, true, false, cond, ◌&&◌, ◌||◌, ℕ, Option, Some, None}
use Rattle.cluster.specs.declared.Cluster.{Cluster}
use Rattle.cluster.specs.Servers.{zero_cluster}
use Rattle.orders.specs.declared.Orders.{Orders}
use Rattle.shell.specs.Loop.{Answered, TracedAll}
use Rattle.shell.specs.Saving.{Loads}

-- a run is quiet where something else is written in the place of answers
abbrev pub is_quiet_by : Orders → Bool
is_quiet_by o = o.list || o.recover

-- how many bytes are written of so many that answers have: none where the run is quiet
abbrev pub answers_due : Bool → ℕ → ℕ
answers_due quiet n = cond quiet 0 n

-- the record is saved where that is ordered and all went well
abbrev pub is_saved_by : Orders → Bool → Bool
is_saved_by o well = o.save && well

-- the record that a run begins with: one that is loaded, or the one before the first start
pub record BeginsBy (o : Orders) (r : Option Cluster) : Type 0 where
  pub loads : o.load ≡ true → Loads r
  pub zero : o.load ≡ false → r ≡ Some zero_cluster

-- a run: nothing is read where it has no record to begin with, and otherwise its input is answered from there, or traced
pub record RunsBy (o : Orders) (r : Option Cluster) : Type 0 where
  pub first : Option Cluster
  pub begins : BeginsBy o first
  pub unread : first ≡ None → r ≡ None
  pub answers : (c : Cluster) → first ≡ Some c → o.trace ≡ false → Answered c r
  pub traces : (c : Cluster) → first ≡ Some c → o.trace ≡ true → TracedAll c r
