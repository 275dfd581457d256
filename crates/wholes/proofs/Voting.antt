-- Kind 1: who takes part in an election, as facts. Assumes nothing.
use mathlib.Core.Path.{◌≡◌}
use mathlib.Core.Bool.{true, false}
use Prim.Native.Nat.{ℕ, ◌<◌}
use lib.Dec.{ltb}
use borrow.Author.Tests.{ltb-true, not-true}
use Rattle.base.proofs.Bools.{and_left, and_right}
use Rattle.cluster.specs.declared.Cluster.{Cluster}
use Rattle.cluster.specs.Servers.{server_count}
use Rattle.cluster.specs.Sets.{member, is_within, is_apart, votes}
use Rattle.wholes.specs.Elects.{are_voters}

pub record Taking (c : Cluster) (a m : ℕ) : Type 0 where
  pub counted : a < server_count c
  pub votes_itself : member c.followers a ≡ false
  pub within : is_within m (server_count c) ≡ true
  pub apart : is_apart m c.followers ≡ true

pub taking : {c : Cluster} {a m : ℕ} → are_voters c a m ≡ true → Taking c a m
unfolding are_voters
taking {c} {a} {m} h =
    let h2 = and_right (ltb a (server_count c)) _ h in
    let h3 = and_right (votes c.followers a) _ h2 in
    record {
      counted = ltb-true a (server_count c) (and_left _ _ h);
      votes_itself = not-true _ (and_left _ _ h2);
      within = and_left _ _ h3;
      apart = and_right (is_within m (server_count c)) _ h3;
    }
