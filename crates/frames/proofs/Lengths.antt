-- Every step frame has as many bytes and characters as 01 says. Assumes nothing.
use mathlib.Core.Path.{◌≡◌, refl}
use Prim.Native.Nat.{◌*◌}
use native.Mathlib.Omega.{arith}
use lib.ListN.{length}
use Rattle.steps.specs.declared.Step.{Step}
use Rattle.hex_text.specs.Lines.{chars}
use Rattle.hex_text.proofs.Places.{hex_length}
use Rattle.steps.specs.declared.Frame.{Frame}
use Rattle.steps.specs.Fields.{frame_for}
use Rattle.frames.specs.Layout.{step_bytes, bytes_of_frame}
use Rattle.frames.specs.Steps.{write_step}

pub frame_length : (f : Frame) → length (bytes_of_frame f) ≡ step_bytes
unfolding bytes_of_frame
frame_length f = refl

pub step_line_length : (s : Step) → length (write_step s) ≡ chars * step_bytes
step_line_length s = omega (arith, hex_length (bytes_of_frame (frame_for s)), frame_length (frame_for s))
