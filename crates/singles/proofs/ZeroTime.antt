-- A client that carries (0,0) changes nothing: the tick starts from the cluster time, and no clock is ahead. Assumes nothing.
use mathlib.Core.Path.{◌≡◌}
use mathlib.Core.List.{◌∷◌}
use Prim.Native.Nat.{ℕ, ◌+◌}
use native.Mathlib.Omega.{arith}
use lib.Dec.{leb}
use borrow.Author.Tests.{le-leb}
use Rattle.clock.specs.Times.{zero_time}
use Rattle.clock.proofs.Order.{later_zero}
use Rattle.server_log.specs.Order.{highest_key}
use Rattle.cluster.specs.declared.Server.{Server}
use Rattle.steps.specs.declared.Refusal.TheVariants.{OutOfRange}
use Rattle.steps.specs.Refusals.{decided}
use Rattle.steps.specs.Answers.{refusing}
use Rattle.singles.specs.Appends.{append_rules, append_done}
use Rattle.singles.specs.Writes.{most_ahead, writes_of}

pub zero_time_lem : (s : Server) (key value : ℕ) → let now = s.head.time in
    writes_of s key value zero_time
    ≡ decided (refusing s) (append_done s key value now) ((leb key highest_key, OutOfRange) ∷ (leb 1 value, OutOfRange) ∷ append_rules s now)
zero_time_lem s key value = rw (later_zero s.head.time, le-leb 0 (s.head.wall + most_ahead) (omega arith))
