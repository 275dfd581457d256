-- What the loop of `replay::pour` keeps. Assumes nothing.
use Rattle.replay.proofs.Along.{Along}
use Rattle.lines.specs.Readers.{width}
use lib.ListN.{length}
use Prim.Native.Nat.{◌-◌}
use mathlib.Core.Path.{◌≡◌}
use Rattle.replay.proofs.pour.Given as goal

abbrev pub invariant-loop-i : goal.invariant-loop-i
invariant-loop-i l =
    Along (record { cluster = l.initial.c; reader = l.initial.r }) l.text l.initial.out l.out (record { cluster = l.c; reader = l.r }) l.w l.i × (length l.r.held ≡ width)

abbrev pub decreases-loop-i : goal.decreases-loop-i
decreases-loop-i l = length l.text - l.i
