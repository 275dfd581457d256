-- `mail::oldest_taken` meets its contract. Assumes nothing.
use Rattle.base.proofs.Made.{made_each}
use Rattle.base.proofs.Facts.{mapped_long}
use Rattle.mail.specs.Reports.{zero_report}
use Rattle.mail.specs.Queues.{queue_limit, report_at, oldest_taken}
use Prim.Native.Nat.{suc}
use native.Mathlib.Numerals.{add-one}
use borrow.Author.Rules.{rules}
use Rattle.mail.proofs.oldest_taken.Goals as goal

pub returns : goal.returns
unfolding oldest_taken
returns c =
    let e = made_each _ (λ i r. report_at c.args.q (suc i)) _ c.args.q.reports _ zero_report queue_limit (search (rules, mapped_long)) c.from_fn.ensures.items (λ i y q l k. search (rules, add-one)) in
    λ j. record { reports = e j; len = c.saturating_sub.ensures j }
