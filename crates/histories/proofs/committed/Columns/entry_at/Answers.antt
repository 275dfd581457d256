-- `histories::committed::Columns::entry_at` meets its contract. Assumes nothing.
use Rattle.histories.proofs.Lent.{within, lent_at}
use Rattle.std.proofs.Common.{arith}
use Rattle.histories.proofs.committed.Columns.entry_at.Goals as goal

pub offset_bounds-self-i : goal.offset_bounds-self-i
offset_bounds-self-i c = omega (arith, within _ _ c.requires.1)

pub bounds-self-i : goal.bounds-self-i
bounds-self-i c = omega (arith, within _ _ c.requires.1)

pub bounds-self-i-2 : goal.bounds-self-i-2
bounds-self-i-2 c = omega (arith, within _ _ c.requires.1)

pub offset_bounds-self-i-2 : goal.offset_bounds-self-i-2
offset_bounds-self-i-2 c = omega (arith, within _ _ c.requires.1)

pub bounds-self-i-3 : goal.bounds-self-i-3
bounds-self-i-3 c = omega (arith, within _ _ c.requires.1)

pub offset_bounds-self-i-3 : goal.offset_bounds-self-i-3
offset_bounds-self-i-3 c = omega (arith, within _ _ c.requires.1)

pub bounds-self-i-4 : goal.bounds-self-i-4
bounds-self-i-4 c = omega (arith, within _ _ c.requires.1)

pub offset_bounds-self-i-4 : goal.offset_bounds-self-i-4
offset_bounds-self-i-4 c = omega (arith, within _ _ c.requires.1)

pub bounds-self-i-5 : goal.bounds-self-i-5
bounds-self-i-5 c = omega (arith, within _ _ c.requires.1)

pub returns : goal.returns
returns c = lent_at _ _ c.requires.1 c.requires.0
