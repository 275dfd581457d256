-- What the loop of `traces::Pair::put_all` keeps. Assumes nothing.
use mathlib.Core.Path.{◌≡◌}
use lib.ListN.{drop}
use Rattle.traces.specs.Writing.{over_each, put_of}
use Rattle.traces.proofs.Pair.put_all.Given as goal

abbrev pub invariant-loop-b : goal.invariant-loop-b
invariant-loop-b l = over_each put_of l.self (drop l.b-index l.characters) ≡ over_each put_of l.initial.self l.characters
