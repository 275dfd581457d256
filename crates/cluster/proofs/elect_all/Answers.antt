-- `cluster::elect_all` meets its contract. Assumes nothing.
use Rattle.base.proofs.Made.{made_each}
use Rattle.base.proofs.Facts.{mapped_long}
use Rattle.cluster.specs.Servers.{past_server, voted_of}
use borrow.Author.Rules.{rules}
use Rattle.cluster.proofs.elect_all.Goals as goal

pub returns : goal.returns
returns c =
    let e = made_each _ (voted_of c.args.a c.args.set c.args.term) _ c.args.c.servers _ past_server 7 (search (rules, mapped_long)) c.from_fn.ensures.items (λ i y q l k. search rules) in
    λ j. record { count = c.args.c.count; followers = c.args.c.followers; servers = e j }
