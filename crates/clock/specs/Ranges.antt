-- What the type of a time gives: both numbers fit sixteen bits. Assumes nothing.
use Rattle.std.specs.Prelude.{◌≤◌}
use Rattle.clock.specs.declared.Time.{Time}
use Rattle.clock.specs.Times.{limit}

pub record FitsTime (t : Time) : Type 0 where
  pub p : t.p ≤ limit
  pub l : t.l ≤ limit
