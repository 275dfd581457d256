-- What the loop of `histories::first_breaker` keeps. Assumes nothing.
use Rattle.std.proofs.Common.{◌≡◌}
use Rattle.histories.specs.declared.Checked.TheVariants.{Accepted}
use Rattle.histories.specs.Lending.{lent_log}
use Rattle.histories.specs.Checking.{obeys_at, first_breaker}
use Rattle.histories.proofs.first_breaker.Given as goal

abbrev pub invariant-loop-i : goal.invariant-loop-i
invariant-loop-i l = first_breaker l.i (obeys_at (lent_log l.log) l.records) ≡ Accepted
