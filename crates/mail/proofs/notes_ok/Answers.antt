-- `mail::notes_ok` meets its contract. Assumes nothing.
use Rattle.base.specs.Numbers.{every}
use Rattle.base.proofs.Facts.{mapped_long}
use Rattle.base.proofs.Numbered.{every_numbered}
use Rattle.mail.specs.Reports.{zero_note}
use Rattle.mail.specs.Mails.{note_slots, note_at}
use Rattle.mail.specs.Order.{note_ok, notes_ok}
use Rattle.std.proofs.lemmas.Iterator.{YieldsList-from_slice}
use Rattle.std.proofs.lemmas.Iterator.Consumers.{YieldsList-from_enumerate}
use Rattle.std.proofs.lemmas.Iterator.Search.{all_from_yields_List}
use borrow.Author.Tests.{tests}
use borrow.Author.Rules.{rules}
use lib.ListN.{length}
use mathlib.Core.Path.{◌≡◌, ap, ◌∙◌}
use Prim.Native.Nat.{ℕ}
use Rattle.mail.proofs.notes_ok.Goals as goal

pub returns : goal.returns
unfolding notes_ok
returns c =
    let ns = c.args.m.notes in
    let long : length ns ≡ note_slots = search (rules, mapped_long) in
    all_from_yields_List (λ p. note_ok c.args.count p.0 p.1) _ _ _ c.all.ensures.ran (YieldsList-from_enumerate (YieldsList-from_slice ns (cc)) (cc)) (λ x b q k. search (rules, tests))
    ∙ every_numbered (note_ok c.args.count) ns zero_note ∙ ap (λ (n : ℕ). every n (λ i. note_ok c.args.count i (note_at c.args.m i))) long
