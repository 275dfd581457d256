-- `wholes::clocks_agree::greatest_clock` meets its contract. Assumes nothing.
use Rattle.base.proofs.Facts.{mapped_long}
use Rattle.base.proofs.Numbered.{greatest_first}
use Rattle.base.specs.Numbers.{greatest}
use Rattle.cluster.specs.Servers.{past_server, server_at}
use Rattle.cluster.specs.declared.Server.{Server}
use Rattle.std.proofs.lemmas.Iterator.{YieldsList-from_slice, YieldsList-from_take, YieldsList-from_map}
use Rattle.std.proofs.lemmas.Iterator.Adapters.{option_map_id}
use Rattle.std.proofs.lemmas.Iterator.Consumers.{YieldsList-at, max_from_yields_List}
use Rattle.std.specs.Prelude.{Option, unwrap_or}
use lib.ListN.{length}
use mathlib.Core.Path.{◌≡◌, ap, sym, ◌∙◌}
use native.Mathlib.Omega.{arith}
use Prim.Native.Nat.{ℕ}
use borrow.Author.Tests.{tests}
use borrow.Author.Rules.{rules}
use Rattle.wholes.proofs.clocks_agree.greatest_clock.Goals as goal

pub returns : goal.returns
returns c =
    let xs = c.args.c.servers in
    let n = c.server_count-size.result in
    let wall = λ (s : Server). s.head.wall in
    let long : length xs ≡ 7 = search (rules, mapped_long) in
    let most =
    sym (option_map_id c.max.result)
    ∙ max_from_yields_List c.map.result c.max.result c.max.ensures.ran (YieldsList-from_map _ wall (YieldsList-at c.map.ensures.source (YieldsList-from_take n (YieldsList-from_slice xs (cc)) (cc))) c.map.ensures.closure (λ x r q k. search (rules, tests))) in
    c.unwrap_or.ensures ∙ ap (λ (o : Option ℕ). unwrap_or o 0) most ∙ greatest_first wall past_server n xs (omega (arith, c.server_count-size.ensures))
    ∙ ap (λ (k : ℕ). greatest k (λ i. (server_at c.args.c i).head.wall)) c.server_count-size.ensures
