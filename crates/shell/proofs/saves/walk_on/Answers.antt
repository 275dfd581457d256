-- `shell::saves::walk_on` meets its contract. Assumes nothing.
use Rattle.shell.proofs.Saving.{walks_on}
use Rattle.shell.proofs.saves.walk_on.Goals as goal

pub returns : goal.returns
returns c = walks_on _ _ _ c.drain-end.ensures.drains c.drain-end.ensures.written
