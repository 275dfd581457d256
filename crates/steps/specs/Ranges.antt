-- What the type of a step gives: every field of its frame fits its bytes. Assumes nothing.
use Rattle.std.specs.Prelude.{◌<◌, ◌≤◌}
use Rattle.base.specs.Numbers.{byte}
use Rattle.clock.specs.Times.{limit}
use Rattle.clock.specs.Ranges.{FitsTime}
use Rattle.steps.specs.declared.Frame.{Frame}
use Rattle.steps.specs.declared.Step.{Step}
use Rattle.steps.specs.Fields.{frame_for}

pub record FitsFrame (f : Frame) : Type 0 where
  pub kind : f.kind < byte
  pub a : f.a < byte
  pub b : f.b < byte
  pub set : f.set < byte
  pub key : f.key < byte
  pub number : f.number ≤ limit
  pub term : f.term ≤ limit
  pub time : FitsTime f.time

abbrev pub FitsStep : Step → Type 0
FitsStep s = FitsFrame (frame_for s)
