-- `histories::obeys::keeps_order` meets its contract. Assumes nothing.
use Rattle.histories.specs.Rules.{no_record, not_before, keeps_order}
use Rattle.base.proofs.Every.{every_listed}
use Rattle.std.proofs.lemmas.Iterator.{YieldsList-from_slice}
use Rattle.std.proofs.lemmas.Iterator.Search.{all_from_yields_List}
use borrow.Author.Tests.{tests}
use borrow.Author.Rules.{rules}
use mathlib.Core.Path.{◌∙◌}
use Rattle.histories.proofs.obeys.keeps_order.Goals as goal

pub returns : goal.returns
unfolding keeps_order
returns c =
    all_from_yields_List (λ e. not_before e c.args.r) _ _ _ c.all.ensures.ran (YieldsList-from_slice c.args.earlier.now cc) (λ x b q k. search (rules, tests))
    ∙ every_listed (λ e. not_before e c.args.r) c.args.earlier.now no_record
