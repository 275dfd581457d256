-- What the loop of `plans::all_voters` keeps. Assumes nothing.
use mathlib.Core.Path.{◌≡◌}
use Prim.Native.Nat.{◌≤◌, ◌-◌}
use Rattle.cluster.specs.Servers.{server_count}
use Rattle.cluster.specs.Sets.{votes}
use Rattle.plans.specs.Moves.{set_from}
use Rattle.plans.proofs.all_voters.Given as goal

abbrev pub invariant-loop-i : goal.invariant-loop-i
invariant-loop-i l = (l.i ≤ server_count l.c) × (l.set ≡ set_from (votes l.c.followers) l.i (server_count l.c - l.i))
