-- Every answer frame has as many bytes and characters as 01 says. Assumes nothing.
use Rattle.std.proofs.Common.{Ok, Err}
use mathlib.Core.Path.{◌≡◌, refl}
use Prim.Native.Nat.{◌*◌}
use native.Mathlib.Omega.{arith}
use lib.ListN.{length}
use Rattle.hex_text.specs.Lines.{chars}
use Rattle.hex_text.proofs.Places.{hex_length}
use Rattle.answers.specs.Answers.{answer_bytes, answer_frame, bytes_of_telling, write_telling}
use Rattle.steps.specs.Answers.{Telling}

pub telling_length : (t : Telling) → length (bytes_of_telling t) ≡ answer_bytes
unfolding answer_frame
telling_length (Ok n) = refl
telling_length (Err r) = refl

pub answer_line_length : (t : Telling) → length (write_telling t) ≡ chars * answer_bytes
answer_line_length t = omega (arith, hex_length (bytes_of_telling t), telling_length t)
