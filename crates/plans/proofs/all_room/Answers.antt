-- `plans::all_room` meets its contract. Assumes nothing.
use mathlib.Core.Path.{◌∙◌}
use lib.ListN.{take}
use borrow.Author.Rules.{rules}
use borrow.Author.Tests.{tests}
use Rattle.std.proofs.lemmas.Iterator.{YieldsList-from_slice}
use Rattle.std.proofs.lemmas.Iterator.Search.{all_from_yields_List}
use Rattle.base.proofs.Facts.{mapped_long}
use Rattle.cluster.specs.declared.Server.{Server}
use Rattle.server_log.specs.Logs.{has_room}
use Rattle.plans.specs.Making.{all_room}
use Rattle.plans.proofs.Counted.{every_counted}
use Rattle.plans.proofs.all_room.Goals as goal

pub returns : goal.returns
unfolding all_room
returns c =
    let p = λ (s : Server). has_room s.log in
    all_from_yields_List p _ _ _ c.all.ensures.ran (YieldsList-from_slice (take c.server_count-size.result c.args.c.servers) cc) (λ x b q k. search (rules, tests))
    ∙ every_counted p c.args.c c.server_count-size.result c.server_count-size.ensures (search (rules, mapped_long))
