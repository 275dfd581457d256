-- What the loop of `verdicts::spread_of` keeps. Assumes nothing.
use Rattle.verdicts.proofs.Filled.{AllFilled}
use Rattle.verdicts.proofs.spread_of.Given as goal

abbrev pub invariant-loop-i : goal.invariant-loop-i
invariant-loop-i l = AllFilled l.g.entries l.c l.i
