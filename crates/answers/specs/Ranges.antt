-- What the type of a telling gives: every number fits its bytes. Assumes nothing.
use Rattle.std.specs.Prelude.{◌≤◌, Ok, Err}
use Rattle.clock.specs.Times.{limit}
use Rattle.clock.specs.Ranges.{FitsTime}
use Rattle.steps.specs.Answers.{Telling}

abbrev pub FitsTelling : Telling → Type 0
FitsTelling (Ok n) = (n.number ≤ limit) × (n.term ≤ limit) × FitsTime n.time
FitsTelling (Err r) = Unit {0}
