-- `cluster::sets::members` meets its contract. Assumes nothing.
use Rattle.cluster.proofs.Masks.{ones_members}
use borrow.Author.Rules.{rules}
use Rattle.cluster.proofs.sets.members.Goals as goal

pub returns : goal.returns
returns c = ones_members c.args.set (search rules)
