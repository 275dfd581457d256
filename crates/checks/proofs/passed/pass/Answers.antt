-- `checks::passed::pass` meets its contract. Assumes nothing.
use native.Mathlib.Omega.{arith}
use Rattle.checks.proofs.PassedOver.{upto_none, upto_more, upto_all}
use Rattle.checks.proofs.passed.pass.Goals as goal

pub loop-b-init : goal.loop-b-init
loop-b-init c = upto_none _ _

pub loop-b-preserved : goal.loop-b-preserved
loop-b-preserved c = upto_more c.loop-b.invariant _ (omega arith) c.after_byte-q.ensures

pub returns : goal.returns
returns c = upto_all c.loop-b.invariant (omega arith)
