-- A step that leaves the logs and needs no count keeps the invariant (kinds 2, 3, 9 and 17).
-- Assumes nothing.
use mathlib.Core.Logic.{inl}
use Prim.Native.Nat.{ℕ}
use native.Mathlib.Omega.{arith}
use Rattle.safety.specs.Quorum.{Quorums}
use Rattle.safety.specs.Cluster.{Seen}
use Rattle.safety.specs.Steps.{Settles, stays, restarts, hears, Marks, unmoved, drops, Quiet}
use Rattle.safety.proofs.Leads.{Leads}
use Rattle.safety.proofs.Inv.{Acks, Settled, Inv}
use Rattle.safety.proofs.Moves.{moves_inv}

module _ {𝓠 : Quorums} {v : Seen} {g : Leads} {ack : Acks} (inv : Inv 𝓠 v g ack) where
  settle : (i k : ℕ) → Settles v i k → Settled 𝓠 ack (v i) k
  settle i k (stays e) = rw e (inv.settled i)
  settle i k (restarts e) = rw e (inv.marked i)
  settle i k (hears b e u l q) = record { within = l; chosen = rw (q, e) (inv.settled b).chosen }

  -- who acknowledged the entry at the commit point acknowledged those of its term before it
  settle_mark : (i k : ℕ) → Marks v i k → Settled 𝓠 ack (v i) k
  settle_mark i k (unmoved e) = rw e (inv.marked i)
  settle_mark i k (drops u h q) =
      let c = inv.settled i in
      record { within = omega (arith, c.within); chosen = rw q (𝓠.more _ _ (λ j x. omega arith) c.chosen) }

  pub quiet_inv : {v' : Seen} → ((i : ℕ) → Quiet v i (v' i)) → Inv 𝓠 v' g ack
  quiet_inv {v'} h =
      moves_inv inv
      (record {
        rests = λ i. (h i).rests;
        acks_grow = λ i t. omega arith;
        acks_own = λ i t. inl (omega arith);
        settled = λ i. settle i (v' i).commit (h i).settles;
        marked = λ i. settle_mark i (v' i).mark (h i).marks;
      })
