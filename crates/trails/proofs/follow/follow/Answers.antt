-- `trails::follow::follow` meets its contract. Assumes nothing.
use Rattle.trails.proofs.Following.{begun_is, follows_all}
use Rattle.trails.proofs.follow.follow.Goals as goal

pub returns : goal.returns
returns c = follows_all c.args.c _ _ (begun_is c.nothing_kept.ensures) _ _ c.drain-end.ensures.drains c.end.ensures
