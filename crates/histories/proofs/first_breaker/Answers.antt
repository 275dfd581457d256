-- `histories::first_breaker` meets its contract. Assumes nothing.
use Rattle.histories.specs.Lending.{lent_log}
use Rattle.histories.specs.Checking.{obeys_at}
use Rattle.histories.proofs.Breakers.{breaker_none, breaker_more, breaker_here}
use Rattle.base.proofs.Bools.{said_no, said_yes}
use native.Mathlib.Omega.{arith}
use Rattle.histories.proofs.first_breaker.Goals as goal

pub loop-i-init : goal.loop-i-init
loop-i-init c = breaker_none _

pub returns-then-not-obeys : goal.returns-then-not-obeys
returns-then-not-obeys c =
    breaker_here (obeys_at (lent_log c.args.log) c.args.records.now) _ _ (omega arith) c.loop-i.invariant (said_no _ _ c.obeys.ensures c.if-not-obeys.true)

pub loop-i-preserved : goal.loop-i-preserved
loop-i-preserved c = breaker_more (obeys_at (lent_log c.args.log) c.args.records.now) _ c.loop-i.invariant (said_yes _ _ c.obeys.ensures c.if-not-obeys.false)
