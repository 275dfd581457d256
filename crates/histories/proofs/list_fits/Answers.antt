-- `histories::list_fits` meets its contract. Assumes nothing.
use Rattle.histories.specs.Rules.{no_record, record_in_range}
use Rattle.histories.specs.Checking.{list_ok}
use Rattle.base.proofs.Every.{every_listed}
use Rattle.std.proofs.lemmas.Iterator.{YieldsList-from_slice}
use Rattle.std.proofs.lemmas.Iterator.Search.{all_from_yields_List}
use borrow.Author.Tests.{tests}
use borrow.Author.Rules.{rules}
use mathlib.Core.Path.{◌∙◌}
use Rattle.histories.proofs.list_fits.Goals as goal

pub returns-then-few : goal.returns-then-few
unfolding list_ok
returns-then-few c =
    search (
      rules,
      tests,
      all_from_yields_List record_in_range _ _ c.all.result c.all.ensures.ran (YieldsList-from_slice c.args.records.now cc) (λ x b q k. search (rules, tests))
          ∙ every_listed record_in_range c.args.records.now no_record,
    )

pub returns-else-few : goal.returns-else-few
unfolding list_ok
returns-else-few c = search (rules, tests)
