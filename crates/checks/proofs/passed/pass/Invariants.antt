-- What the loop of `checks::passed::pass` keeps. Assumes nothing.
use Rattle.checks.proofs.PassedOver.{Upto}
use Rattle.checks.proofs.passed.pass.Given as goal

abbrev pub invariant-loop-b : goal.invariant-loop-b
invariant-loop-b l = Upto l.initial.q l.piece l.q l.b-index
