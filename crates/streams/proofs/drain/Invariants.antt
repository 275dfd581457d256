-- What the loop of `streams::drain` keeps. Assumes nothing.
use Rattle.lines.proofs.Turns.{GoingBy}
use Rattle.streams.proofs.drain.Given as goal

abbrev pub invariant-loop : goal.invariant-loop
invariant-loop g l = let t = g.T.Taker in GoingBy t.over (t.state l.initial.taker) (t.state l.taker) l.counter
