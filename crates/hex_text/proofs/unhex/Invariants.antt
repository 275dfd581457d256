-- What the loop of `hex_text::unhex` keeps. Assumes nothing.
use Rattle.hex_text.specs.Lines.{bytes_of}
use Rattle.hex_text.proofs.Places.{Put}
use Rattle.hex_text.proofs.unhex.Given as goal

abbrev pub invariant-loop-i : goal.invariant-loop-i
invariant-loop-i l = Put (bytes_of l.line) l.initial.out l.out l.i
