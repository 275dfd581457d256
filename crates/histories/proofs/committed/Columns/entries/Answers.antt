-- `histories::committed::Columns::entries` meets its contract. Assumes nothing.
use Rattle.histories.proofs.Lent.{length_joined}
use Rattle.histories.proofs.committed.Columns.entries.Goals as goal

pub returns : goal.returns
returns c = cc (length_joined _ _ _ _ _)
