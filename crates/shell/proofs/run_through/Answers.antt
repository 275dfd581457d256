-- `shell::run_through` meets its contract. Assumes nothing.
use Rattle.shell.proofs.AsOrdered.{runs_all_lem, runs_traced}
use Rattle.shell.proofs.run_through.Goals as goal

pub returns-then-o : goal.returns-then-o
returns-then-o c = runs_traced _ _ _ _ c.first_record.ensures c.in_ok-c.was c.if-o.true c.traced.ensures

pub returns : goal.returns
returns c = runs_all_lem _ _ _ _ c.first_record.ensures c.in_ok-c.was c.if-o.false c.answered.ensures
