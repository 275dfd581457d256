-- `wholes::elects::all_may_vote` meets its contract. Assumes nothing.
use Rattle.base.proofs.Facts.{mapped_long}
use Rattle.base.proofs.Numbered.{every_first}
use Rattle.base.specs.Numbers.{every}
use Rattle.cluster.specs.Servers.{past_server, server_at}
use Rattle.cluster.specs.declared.Server.{Server}
use Rattle.std.proofs.lemmas.Iterator.{YieldsList-from_slice, YieldsList-from_take}
use Rattle.std.proofs.lemmas.Iterator.Consumers.{YieldsList-from_enumerate}
use Rattle.std.proofs.lemmas.Iterator.Search.{all_from_yields_List}
use Rattle.wholes.specs.Elects.{all_may_vote, vote_ok}
use lib.ListN.{length}
use mathlib.Core.Path.{◌≡◌, ap, ◌∙◌}
use native.Mathlib.Omega.{arith}
use Prim.Native.Nat.{ℕ}
use borrow.Author.Tests.{tests}
use borrow.Author.Rules.{rules}
use Rattle.wholes.proofs.elects.all_may_vote.Goals as goal

pub returns : goal.returns
unfolding all_may_vote
returns c =
    let xs = c.args.c.servers in
    let n = c.server_count-size.result in
    let ok = λ (i : ℕ) (t : Server). vote_ok c.args.s t c.args.set i in
    let long : length xs ≡ 7 = search (rules, mapped_long) in
    all_from_yields_List (λ p. ok p.0 p.1) _ _ _ c.all.ensures.ran (YieldsList-from_enumerate (YieldsList-from_take n (YieldsList-from_slice xs (cc)) (cc)) (cc)) (λ x b q k. search (rules, tests))
    ∙ every_first ok n xs past_server (omega (arith, c.server_count-size.ensures)) ∙ ap (λ (k : ℕ). every k (λ i. ok i (server_at c.args.c i))) c.server_count-size.ensures
