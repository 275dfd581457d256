-- What the loop of `histories::committed::Columns::in_order` keeps. Assumes nothing.
use Rattle.histories.specs.Lending.{lent_log}
use Rattle.server_log.proofs.Placed.{Placed}
use Rattle.clock.specs.Times.{limit}
use Rattle.histories.proofs.committed.Columns.in_order.Given as goal

abbrev pub invariant-loop-i : goal.invariant-loop-i
invariant-loop-i l = Placed limit (lent_log l.self) l.i l.d
