-- What the loop of `server_log::in_order` keeps. Assumes nothing.
use Rattle.server_log.proofs.Placed.{Placed}
use Rattle.server_log.specs.Logs.{kept}
use Rattle.server_log.proofs.in_order.Given as goal

abbrev pub invariant-loop-i : goal.invariant-loop-i
invariant-loop-i l = Placed l.term (kept l.g) l.i l.d
