-- `cluster::fresh_cluster` meets its contract. Assumes nothing.
use Rattle.base.proofs.Made.{made_each}
use Rattle.cluster.specs.Servers.{past_server, started_of, zero_server, zero_cluster}
use mathlib.Core.Path.{refl}
use lib.ListN.{get_or-replicate}
use borrow.Author.Rules.{rules}
use Rattle.cluster.proofs.fresh_cluster.Goals as goal

pub returns : goal.returns
returns c =
    let e = made_each _ (started_of c.args.n) _ zero_cluster.servers _ past_server 7 refl c.from_fn.ensures.items (λ i y q l k. let z = get_or-replicate 7 i zero_server past_server l in rw z (search rules)) in
    λ j. record { count = c.args.n; followers = c.args.followers; servers = e j }
