-- `cluster::well_formed` meets its contract. Assumes nothing.
use Rattle.base.proofs.Bools.{said_yes}
use Rattle.base.proofs.Facts.{mapped_long}
use Rattle.base.proofs.Numbered.{every_numbered}
use Rattle.base.specs.Numbers.{every}
use Rattle.cluster.specs.Servers.{past_server, server_at}
use Rattle.cluster.specs.WellFormed.{server_ok, well_formed}
use Rattle.std.proofs.lemmas.Iterator.{YieldsList-from_slice}
use Rattle.std.proofs.lemmas.Iterator.Consumers.{YieldsList-from_enumerate}
use Rattle.std.proofs.lemmas.Iterator.Search.{all_from_yields_List}
use lib.ListN.{length}
use mathlib.Core.Path.{◌≡◌, ap, ◌∙◌}
use Prim.Native.Nat.{ℕ}
use borrow.Author.Tests.{tests}
use borrow.Author.Rules.{rules}
use Rattle.cluster.specs.declared.Server.{Server}
use Rattle.cluster.proofs.well_formed.Goals as goal

pub returns-then-size_ok : goal.returns-then-size_ok
unfolding well_formed
returns-then-size_ok c =
    let xs = c.args.c.servers in
    let ok = λ (i : ℕ) (s : Server). server_ok c.args.c.count c.args.c.followers i s in
    let long : length xs ≡ 7 = search (rules, mapped_long) in
    rw (said_yes _ _ c.size_ok.ensures c.if-size_ok.true)
    (all_from_yields_List (λ p. ok p.0 p.1) _ _ _ c.all.ensures.ran (YieldsList-from_enumerate (YieldsList-from_slice xs (cc)) (cc)) (λ x b q k. search (rules, tests))
    ∙ every_numbered ok xs past_server ∙ ap (λ (n : ℕ). every n (λ i. ok i (server_at c.args.c i))) long)
