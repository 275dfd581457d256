-- `streams::drain` meets its contract. Assumes nothing.
use Rattle.std.proofs.Common.{rules}
use Rattle.lines.proofs.Turns.{begins_by, goes_on_by, stops_by, gives_up_by}
use Rattle.streams.proofs.drain.Goals as goal

pub loop-init : goal.loop-init
loop-init g c = begins_by g.T.Taker.over _

pub returns-in-Some-clause-drains : goal.returns-in-Some-clause-drains
returns-in-Some-clause-drains g c = stops_by g.T.Taker.over _ _ _ _ _ _ c.loop.invariant _ _ c.turn.ensures.turns c.in-Some.is

pub loop-preserved : goal.loop-preserved
loop-preserved g c = goes_on_by g.T.Taker.over _ _ _ _ _ _ c.loop.invariant _ c.turn.ensures.turns

pub returns-clause-drains : goal.returns-clause-drains
returns-clause-drains g c = gives_up_by g.T.Taker.over _ _ _ c.loop.invariant (search rules)
