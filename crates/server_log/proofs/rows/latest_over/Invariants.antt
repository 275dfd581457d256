-- What the loop of `server_log::rows::latest_over` keeps. Assumes nothing.
use Rattle.server_log.specs.Logs.{live}
use Rattle.server_log.specs.Rows.{latest_over, between}
use Rattle.server_log.proofs.Rowed.{OverLeft}
use lib.ListN.{take}
use Rattle.server_log.proofs.rows.latest_over.Given as goal

-- what is left of the walk over the first n entries
abbrev pub invariant-loop-i : goal.invariant-loop-i
invariant-loop-i l = OverLeft (take l.n (live l.g)) (latest_over l.initial.w (between l.g l.k l.n)) l.w l.i
