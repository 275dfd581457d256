-- `cluster::sets::is_member` meets its contract. Assumes nothing.
use Rattle.cluster.proofs.Masks.{member_below}
use Rattle.cluster.specs.Sets.{member}
use borrow.Author.Tests.{le-ltb}
use mathlib.Core.Path.{sym, ◌∙◌}
use borrow.Author.Rules.{rules}
use Rattle.cluster.proofs.sets.is_member.Goals as goal

pub returns-then-i-lt-BITS : goal.returns-then-i-lt-BITS
unfolding member
returns-then-i-lt-BITS c = search rules

pub returns-else-i-lt-BITS : goal.returns-else-i-lt-BITS
returns-else-i-lt-BITS c = le-ltb c.args.i 8 (search rules) ∙ sym (member_below c.args.set 8 c.args.i (search rules) (search rules))
