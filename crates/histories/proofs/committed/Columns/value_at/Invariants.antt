-- What the loop of `histories::committed::Columns::value_at` keeps. Assumes nothing.
use Rattle.histories.specs.Rules.{readable}
use Rattle.histories.specs.Lending.{lent_log}
use Rattle.histories.proofs.Searching.{LastWithin}
use Rattle.histories.proofs.committed.Columns.value_at.Given as goal

abbrev pub invariant-loop-i : goal.invariant-loop-i
invariant-loop-i l = LastWithin (readable l.key l.t) (lent_log l.self) l.i
