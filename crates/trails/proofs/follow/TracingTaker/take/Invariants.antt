-- What the loop of `trails::follow::Tracing::take` keeps. Assumes nothing.
use mathlib.Core.Path.{◌≡◌}
use lib.ListN.{drop}
use Rattle.trails.specs.Bytes.{trail_over}
use Rattle.trails.proofs.follow.TracingTaker.take.Given as goal

abbrev pub invariant-loop-b : goal.invariant-loop-b
invariant-loop-b l = trail_over l.self.trail (drop l.b-index l.piece) ≡ trail_over l.initial.self.trail l.piece
