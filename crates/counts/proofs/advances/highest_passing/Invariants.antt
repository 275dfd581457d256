-- What the loop of `counts::advances::highest_passing` keeps. Assumes nothing.
use Rattle.counts.specs.Advances.{passes}
use Rattle.server_log.specs.Logs.{length_of}
use Rattle.base.specs.Numbers.{highest}
use mathlib.Core.Path.{◌≡◌}
use Prim.Native.Nat.{◌≤◌}
use Rattle.counts.proofs.advances.highest_passing.Given as goal

abbrev pub invariant-loop-n : goal.invariant-loop-n
invariant-loop-n l = (l.n ≤ length_of l.s.log) × (highest (passes l.size l.followers l.s l.a) (length_of l.s.log) ≡ highest (passes l.size l.followers l.s l.a) l.n)

abbrev pub decreases-loop-n : goal.decreases-loop-n
decreases-loop-n l = l.n
