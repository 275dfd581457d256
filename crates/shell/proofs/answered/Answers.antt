-- `shell::answered` meets its contract. Assumes nothing.
use Rattle.shell.proofs.Loop.{answered_all, answered_not}
use Rattle.shell.proofs.answered.Goals as goal

pub returns-in-Ok : goal.returns-in-Ok
returns-in-Ok c = answered_all _ _ _ _ _ c.begin.ensures c.drain.ensures.drains c.in-Ok.is c.end.ensures

pub returns : goal.returns
returns c = answered_not _ _ _ _ _ c.begin.ensures c.drain.ensures.drains _ c.in-Err.is c.broke_off.ensures
