-- `saved::allows` meets its contract. Assumes nothing.
use mathlib.Core.Path.{◌≡◌, sym, ap, ◌∙◌}
use mathlib.Core.Bool.{Bool, true, false, ◌&&◌}
use borrow.Author.Rules.{rules}
use borrow.Author.Tests.{tests}
use Rattle.std.proofs.lemmas.Iterator.{YieldsList-from_slice}
use Rattle.std.proofs.lemmas.Iterator.Search.{all_from_yields_List}
use Rattle.base.specs.Numbers.{every}
use Rattle.base.proofs.Facts.{mapped_long}
use Rattle.cluster.specs.declared.Cluster.{Cluster}
use Rattle.cluster.specs.Servers.{most_servers, past_server, server_at}
use Rattle.saved.specs.Editions.{Edition, editions, edition_numbered, allows_server, allows_followers, allows}
use Rattle.saved.proofs.Listed.{all_places}
use Rattle.saved.proofs.allows.Goals as goal

-- the followers, and then server by server
module _ (e : Edition) (c : Cluster) where
  not-these : allows_followers e.widths c.followers ≡ false → false ≡ allows e c
  unfolding allows
  not-these f = sym (rw f)

  by-servers : {b : Bool} → allows_followers e.widths c.followers ≡ true → b ≡ every most_servers (λ i. allows_server e (server_at c i)) → b ≡ allows e c
  unfolding allows
  by-servers f p = p ∙ sym (ap (λ (x : Bool). x && every most_servers (λ i. allows_server e (server_at c i))) f)

pub returns-else-allows_followers : goal.returns-else-allows_followers
returns-else-allows_followers c = c.if-allows_followers.false ∙ not-these _ _ (sym c.allows_followers.ensures ∙ c.if-allows_followers.false)

pub returns-then-allows_followers : goal.returns-then-allows_followers
returns-then-allows_followers c =
    let e = edition_numbered editions c.args.edition in
    by-servers e c.args.c (sym c.allows_followers.ensures ∙ c.if-allows_followers.true)
    (all_from_yields_List (allows_server e) _ _ _ c.all.ensures.ran (YieldsList-from_slice c.args.c.servers cc) (λ x b q k. search (rules, tests))
    ∙ all_places (allows_server e) c.args.c.servers past_server most_servers (search (rules, mapped_long)))
