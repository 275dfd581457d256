-- `saved::notes_within` meets its contract. Assumes nothing.
use mathlib.Core.Path.{◌∙◌}
use lib.Dec.{leb}
use borrow.Author.Rules.{rules}
use borrow.Author.Tests.{tests}
use Rattle.std.proofs.lemmas.Iterator.{YieldsList-from_slice}
use Rattle.std.proofs.lemmas.Iterator.Search.{all_from_yields_List}
use Rattle.base.proofs.Facts.{mapped_long}
use Rattle.mail.specs.Reports.{zero_note}
use Rattle.mail.specs.Mails.{note_slots}
use Rattle.saved.specs.Editions.{notes_within}
use Rattle.saved.proofs.Listed.{all_places}
use Rattle.saved.proofs.notes_within.Goals as goal

pub returns : goal.returns
unfolding notes_within
returns c =
    all_from_yields_List (λ n. leb n.len c.args.most) _ _ _ c.all.ensures.ran (YieldsList-from_slice c.args.m.notes cc) (λ x b q k. search (rules, tests))
    ∙ all_places (λ n. leb n.len c.args.most) c.args.m.notes zero_note note_slots (search (rules, mapped_long))
