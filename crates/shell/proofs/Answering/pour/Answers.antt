-- `shell::Answering::pour` meets its contract. Assumes nothing.
use native.Mathlib.Omega.{arith}
use Rattle.shell.proofs.Loop.{poured}
use Rattle.shell.proofs.Answering.pour.Goals as goal

pub returns-clause-session : goal.returns-clause-session
returns-clause-session c = (poured _ _ _ _ _ (omega arith) c.pour-f.ensures.result c.pour-f.ensures.output).0

pub returns-clause-output : goal.returns-clause-output
returns-clause-output c = (poured _ _ _ _ _ (omega arith) c.pour-f.ensures.result c.pour-f.ensures.output).1
