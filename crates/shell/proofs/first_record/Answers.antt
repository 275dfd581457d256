-- `shell::first_record` meets its contract. Assumes nothing.
use Rattle.shell.proofs.AsOrdered.{begins_loaded, begins_zero}
use Rattle.shell.proofs.first_record.Goals as goal

pub returns-then-o : goal.returns-then-o
returns-then-o c = begins_loaded _ _ c.if-o.true c.load.ensures

pub returns : goal.returns
returns c = begins_zero _ _ c.if-o.false c.zero_cluster.ensures
