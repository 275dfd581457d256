-- `streams::turn` meets its contract. Assumes nothing.
use native.Mathlib.Omega.{arith}
use Rattle.lines.proofs.Turns.{turned_failed, turned_end, turned_piece}
use Rattle.streams.proofs.turn.Goals as goal

pub returns-in-None-clause-turns : goal.returns-in-None-clause-turns
returns-in-None-clause-turns g c = turned_failed g.T.Taker.over _ _ _ (g.met.T.Taker.over_nothing _) c.in-None.is

pub returns-in-Some-eq0-clause-turns : goal.returns-in-Some-eq0-clause-turns
returns-in-Some-eq0-clause-turns g c =
    turned_end g.T.Taker.over _ _ _ _ (g.met.T.Taker.over_nothing _) c.in-Some-eq0.is (omega arith)

pub returns-in-Some-clause-turns : goal.returns-in-Some-clause-turns
returns-in-Some-clause-turns g c =
    rw c.closed.ensures
    (turned_piece g.T.Taker.over _ _ _ _ _ _ _ c.in-Some.is (rw c.in-Some.is at c.in-Some.n-test.1) (omega arith) c.take.ensures.taken)
