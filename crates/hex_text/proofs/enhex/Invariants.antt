-- What the loop of `hex_text::enhex` keeps. Assumes nothing.
use Rattle.hex_text.specs.Lines.{hex_of}
use Rattle.hex_text.proofs.Places.{Put}
use Rattle.hex_text.proofs.enhex.Given as goal

abbrev pub invariant-loop-i : goal.invariant-loop-i
invariant-loop-i l = Put (hex_of l.bytes) l.initial.out l.out l.i
