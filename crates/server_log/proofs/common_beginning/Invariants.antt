-- What the loop of `server_log::common_beginning` keeps. Assumes nothing.
use Rattle.server_log.proofs.Common.{Common}
use Rattle.server_log.proofs.common_beginning.Given as goal

abbrev pub invariant-loop-i : goal.invariant-loop-i
invariant-loop-i l = Common l.a l.b l.i
