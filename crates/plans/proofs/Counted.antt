-- A test of every counted server. Assumes nothing.
use mathlib.Core.Path.{◌≡◌, ap, ◌∙◌}
use mathlib.Core.Bool.{Bool}
use Prim.Native.Nat.{ℕ}
use native.Mathlib.Omega.{arith}
use lib.ListN.{length, get_or, take}
use lib.Seq.{length-take-le, get_or-take}
use Rattle.std.specs.List.{list_all}
use Rattle.base.specs.Numbers.{every}
use Rattle.base.proofs.Every.{every_listed, every_same}
use Rattle.cluster.specs.declared.Cluster.{Cluster}
use Rattle.cluster.specs.declared.Server.{Server}
use Rattle.cluster.specs.Servers.{most_servers, server_count, past_server, server_at}

pub every_counted : (p : Server → Bool) (c : Cluster) (n : ℕ) → n ≡ server_count c → length c.servers ≡ most_servers
    → list_all p (take n c.servers) ≡ every (server_count c) (λ i. p (server_at c i))
every_counted p c n e long =
    let ss = take n c.servers in
    every_listed p ss past_server
    ∙ ap (λ (m : ℕ). every m (λ i. p (get_or ss i past_server))) (length-take-le n c.servers (omega (arith, e, long)))
    ∙ every_same (λ i. p (get_or ss i past_server)) (λ i. p (server_at c i)) n (λ i l. ap p (get_or-take n c.servers i past_server l))
    ∙ ap (λ (m : ℕ). every m (λ i. p (server_at c i))) e
