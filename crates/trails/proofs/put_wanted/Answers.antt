-- `trails::put_wanted` meets its contract. Assumes nothing.
use Rattle.base.proofs.Bools.{said_no, said_yes}
use Rattle.trails.specs.Bytes.{most_line, wanted_of}
use Rattle.trails.proofs.Putting.{put_none, put_three}
use Rattle.trails.proofs.put_wanted.Goals as goal

pub returns-then-not-is_wanted : goal.returns-then-not-is_wanted
unfolding wanted_of
returns-then-not-is_wanted c = rw (said_no _ _ c.is_wanted.ensures c.if-not-is_wanted.true) (put_none most_line _)

pub returns : goal.returns
unfolding wanted_of
returns c =
    rw (said_yes _ _ c.is_wanted.ensures c.if-not-is_wanted.false)
    (put_three c.requires c.put_opening-opened.ensures c.put_pair.ensures c.put_change.ensures)
