-- `saved::reports_within` meets its contract. Assumes nothing.
use mathlib.Core.Path.{◌∙◌}
use lib.Dec.{leb}
use borrow.Author.Rules.{rules}
use borrow.Author.Tests.{tests}
use Rattle.std.proofs.lemmas.Iterator.{YieldsList-from_slice}
use Rattle.std.proofs.lemmas.Iterator.Search.{all_from_yields_List}
use Rattle.base.proofs.Facts.{mapped_long}
use Rattle.mail.specs.Reports.{zero_report}
use Rattle.mail.specs.Queues.{queue_limit}
use Rattle.saved.specs.Editions.{reports_within}
use Rattle.saved.proofs.Listed.{all_places}
use Rattle.saved.proofs.reports_within.Goals as goal

pub returns : goal.returns
unfolding reports_within
returns c =
    all_from_yields_List (λ r. leb r.len c.args.most) _ _ _ c.all.ensures.ran (YieldsList-from_slice c.args.q.reports cc) (λ x b q k. search (rules, tests))
    ∙ all_places (λ r. leb r.len c.args.most) c.args.q.reports zero_report queue_limit (search (rules, mapped_long))
