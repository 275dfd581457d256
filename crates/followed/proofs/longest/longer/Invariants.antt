-- What the loop of `followed::longest::longer` keeps. Assumes nothing.
use mathlib.Core.Path.{◌≡◌}
use Rattle.followed.specs.Longest.{kept_upto}
use Rattle.followed.proofs.longest.longer.Given as goal

abbrev pub invariant-loop-s : goal.invariant-loop-s
invariant-loop-s l = l.g ≡ kept_upto l.initial.g l.fn.c l.s-index
