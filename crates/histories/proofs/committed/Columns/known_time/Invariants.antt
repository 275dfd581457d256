-- What the loop of `histories::committed::Columns::known_time` keeps. Assumes nothing.
use Rattle.clock.specs.Times.{same_time}
use Rattle.histories.specs.Lending.{lent_log}
use Rattle.histories.proofs.Searching.{LastWithin}
use Rattle.histories.proofs.committed.Columns.known_time.Given as goal

abbrev pub invariant-loop-i : goal.invariant-loop-i
invariant-loop-i l = LastWithin (λ e. same_time e.time l.t) (lent_log l.self) l.i
