-- `checks::texts::read` meets its contract. Assumes nothing.
use Rattle.checks.proofs.Both.{begun, reads_both}
use Rattle.checks.proofs.texts.read.Goals as goal

pub returns : goal.returns
returns c =
    reads_both (begun c.begin.ensures c.begin-2.ensures) (begun c.begin-3.ensures c.begin-4.ensures)
    c.drain-first.ensures.drains c.drain-second.ensures.drains c.drain-first.ensures.written c.drain-second.ensures.written
    _ c.come_to.ensures
