-- What the loop of `lines::walks::go_on` keeps. Assumes nothing.
use Rattle.lines.proofs.Folded.{Upto}
use Rattle.lines.proofs.walks.go_on.Given as goal

abbrev pub invariant-loop-b : goal.invariant-loop-b
invariant-loop-b g l = Upto g.S.ByLines.after l.initial.state l.initial.reader l.piece l.state l.reader l.b-index
