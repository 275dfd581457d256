-- The line of a step, and the step of a line. Assumes nothing.
use Rattle.std.specs.Prelude.{cond, List, ℕ, Option, None}
use Rattle.steps.specs.declared.Frame.{Frame}
use Rattle.steps.specs.declared.Step.{Step}
use Rattle.steps.specs.Fields.{frame_for}
use Rattle.hex_text.specs.Lines.{hex_of}
use Rattle.words.specs.Words.{byte_at, framed}
use Rattle.frames.specs.Layout.{step_bytes, bytes_of_frame, frame_of}
use Rattle.frames.specs.Kinds.{step_of_frame, is_clean}

abbrev pub write_frame : Frame → List ℕ
write_frame f = hex_of (bytes_of_frame f)

abbrev pub write_step : Step → List ℕ
write_step s = write_frame (frame_for s)

-- an unused byte that is not zero is no frame
unfoldable pub step_in : List ℕ → Option Step
step_in bs = cond (is_clean (byte_at bs 0) bs) (step_of_frame (frame_of bs)) None

-- any line: what isn't a frame of a step is no frame
abbrev pub read_step : List ℕ → Option Step
read_step line = framed step_bytes step_in None line
