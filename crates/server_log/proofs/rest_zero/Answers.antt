-- `server_log::rest_zero` meets its contract. Assumes nothing.
use Rattle.clock.specs.Times.{same_time}
use Rattle.server_log.specs.Entries.{zero_entry, same_entry}
use Rattle.server_log.specs.Order.{all_zero}
use Rattle.server_log.specs.Logs.{log_limit}
use Rattle.server_log.proofs.Placed.{all_zero_listed, rest_cut}
use Rattle.base.proofs.Facts.{mapped_long}
use Rattle.std.proofs.lemmas.Iterator.{YieldsList-from_slice}
use Rattle.std.proofs.lemmas.Iterator.Search.{all_from_yields_List}
use borrow.Author.Rules.{rules}
use borrow.Author.Tests.{tests}
use native.Mathlib.Omega.{arith}
use lib.ListN.{length, drop, length-drop}
use lib.Seq.{take_all}
use mathlib.Core.Path.{◌≡◌, sym, ap, ◌∙◌}
use Prim.Native.Nat.{ℕ}
use Rattle.server_log.proofs.rest_zero.Goals as goal

pub returns : goal.returns
unfolding same_entry same_time
returns c =
    let h : length c.args.g.entries ≡ log_limit = search (rules, mapped_long) in
    all_from_yields_List (λ e. same_entry e zero_entry) _ _ _ c.all.ensures.ran (YieldsList-from_slice (drop c.min.result c.args.g.entries) (c.iter.ensures.rest ∙ take_all _ (drop c.min.result c.args.g.entries) (omega (arith, length-drop c.min.result c.args.g.entries)))) (λ x b q k. search (rules, tests))
    ∙ sym (all_zero_listed (drop c.min.result c.args.g.entries)) ∙ ap (λ (n : ℕ). all_zero (drop n c.args.g.entries)) c.min.ensures ∙ rest_cut c.args.g c.args.k log_limit h
