-- `cluster::sets::voters` meets its contract. Assumes nothing.
use Rattle.base.proofs.Numbered.{count_below}
use Rattle.cluster.specs.Sets.{votes}
use Rattle.std.proofs.lemmas.Iterator.{YieldsList-from_range}
use Rattle.std.proofs.lemmas.Iterator.Consumers.{YieldsList-from_filter, count_from_yields_List}
use mathlib.Core.Path.{◌∙◌}
use native.Mathlib.Omega.{arith}
use borrow.Author.Tests.{tests}
use borrow.Author.Rules.{rules}
use Rattle.cluster.proofs.sets.voters.Goals as goal

pub returns : goal.returns
returns c =
    count_from_yields_List c.filter.result _ c.count.ensures.ran (YieldsList-from_filter _ (votes c.args.followers) (YieldsList-from_range 0 c.args.n c.args.n (cc) (omega arith)) c.filter.ensures.closure (λ x b q k. search (rules, tests)))
    ∙ count_below _ c.args.n
