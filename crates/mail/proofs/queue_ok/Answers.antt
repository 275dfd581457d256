-- `mail::queue_ok` meets its contract. Assumes nothing.
use Rattle.base.specs.Numbers.{every}
use Rattle.base.proofs.Facts.{mapped_long}
use Rattle.base.proofs.Numbered.{every_numbered}
use Rattle.mail.specs.declared.Report.{Report}
use Rattle.mail.specs.Reports.{zero_report}
use Rattle.mail.specs.Queues.{queue_limit, report_at}
use Rattle.mail.specs.Order.{slot_ok, queue_ok}
use Rattle.std.proofs.lemmas.Iterator.{YieldsList-from_slice}
use Rattle.std.proofs.lemmas.Iterator.Consumers.{YieldsList-from_enumerate}
use Rattle.std.proofs.lemmas.Iterator.Search.{all_from_yields_List}
use borrow.Author.Tests.{tests, le-leb}
use borrow.Author.Rules.{rules}
use lib.Dec.{ltb}
use lib.ListN.{length}
use mathlib.Core.Path.{◌≡◌, ap, ◌∙◌}
use Prim.Native.Nat.{ℕ}
use Rattle.mail.proofs.queue_ok.Goals as goal

pub returns-then-q-le-QUEUE_LIMIT : goal.returns-then-q-le-QUEUE_LIMIT
unfolding queue_ok
returns-then-q-le-QUEUE_LIMIT c =
    let rs = c.args.q.reports in
    let ok = λ (i : ℕ) (r : Report). slot_ok c.args.count (ltb i c.args.q.len) r in
    let long : length rs ≡ queue_limit = search (rules, mapped_long) in
    rw (le-leb _ _ c.if-q-le-QUEUE_LIMIT.true)
    (all_from_yields_List (λ p. ok p.0 p.1) _ _ _ c.all.ensures.ran (YieldsList-from_enumerate (YieldsList-from_slice rs (cc)) (cc)) (λ x b q k. search (rules, tests))
    ∙ every_numbered ok rs zero_report ∙ ap (λ (n : ℕ). every n (λ i. ok i (report_at c.args.q i))) long)

pub returns-else-q-le-QUEUE_LIMIT : goal.returns-else-q-le-QUEUE_LIMIT
unfolding queue_ok
returns-else-q-le-QUEUE_LIMIT c = search (rules, tests)
