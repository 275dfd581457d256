-- `shell::Answering::end` meets its contract. Assumes nothing.
use native.Mathlib.Omega.{arith}
use Rattle.shell.proofs.Loop.{finishes}
use Rattle.shell.proofs.Answering.end.Goals as goal

pub returns : goal.returns
returns c = finishes _ _ _ _ _ (omega arith) c.close-f.ensures.result c.finished.ensures
