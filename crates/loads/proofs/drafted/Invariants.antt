-- What the loop of `loads::drafted` keeps. Assumes nothing.
use Rattle.saved.specs.Editions.{editions, edition_numbered}
use Rattle.loads.proofs.Lines.{Read}
use Rattle.loads.proofs.drafted.Given as goal

abbrev pub invariant-loop-i : goal.invariant-loop-i
invariant-loop-i l = Read (edition_numbered editions l.edition).widths l.text l.d l.start l.i
