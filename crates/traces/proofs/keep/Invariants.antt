-- What the loop of `traces::keep` keeps. Assumes nothing.
use mathlib.Core.Path.{◌≡◌}
use lib.ListN.{drop}
use Rattle.traces.specs.Writing.{over_each, kept_after}
use Rattle.traces.proofs.keep.Given as goal

abbrev pub invariant-loop-b : goal.invariant-loop-b
invariant-loop-b l = over_each kept_after l.q (drop l.b-index l.bytes) ≡ over_each kept_after l.initial.q l.bytes
