-- `plans::opened` meets its contract. Assumes nothing.
use Rattle.plans.specs.Working.{opened_of}
use Rattle.plans.proofs.opened.Goals as goal

pub returns : goal.returns
unfolding opened_of
returns c =
    rw (c.tried.ensures, c.tried-w.ensures, c.all_voters.ensures, c.heard_first-v.ensures)
