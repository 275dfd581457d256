-- `cluster::sets::within` meets its contract. Assumes nothing.
use Rattle.cluster.proofs.Masks.{within_past, within_is}
use borrow.Author.Tests.{le-leb}
use mathlib.Core.Path.{◌∙◌}
use borrow.Author.Rules.{rules}
use Rattle.cluster.proofs.sets.within.Goals as goal

pub returns-then-n-ge-BITS : goal.returns-then-n-ge-BITS
returns-then-n-ge-BITS c = le-leb 8 c.args.n (search rules) ∙ within_past c.args.set _ (search rules)

pub returns-else-n-ge-BITS : goal.returns-else-n-ge-BITS
returns-else-n-ge-BITS c = within_is c.args.set c.args.n (search rules) (search rules)
