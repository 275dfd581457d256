-- After each step every server acknowledges the log that it has; so all that was ever told has been acknowledged.
-- Assumes nothing.
use mathlib.Core.Logic.Dec
use mathlib.Core.Logic.{◌⊎◌, inl, inr, by_cases, ite}
use Prim.Native.Nat.{ℕ, suc, ◌≤◌, ◌<◌, max}
use native.Mathlib.Decide.{dec_le, ℕ_discrete}
use native.Mathlib.Omega.{arith}
use Rattle.safety.specs.Quorum.{Quorums}
use Rattle.safety.specs.Cluster.{ServerSeen, Seen, last_term_seen}
use Rattle.safety.specs.Told.{ReportSeen, Place, Told, Says, Said, Tells, before, unused, own}
use Rattle.safety.proofs.Leads.{Leads}
use Rattle.safety.proofs.Inv.{Acks, Settled, Inv}
use Rattle.safety.proofs.Moves.{In, moves_inv, rests_refl}

in? : (s : ServerSeen) (t : ℕ) → Dec (In s t)
in? s t = Dec.and (ℕ_discrete s.term t) (ℕ_discrete (last_term_seen s) t)

-- every server acknowledges the log that it has
pub acked : Seen → Acks → Acks
acked v ack i t = ite (in? (v i) t) (max (ack i t) (suc (v i).len)) (ack i t)

module _ (v : Seen) (ack : Acks) (i t : ℕ) where
  acked_by : (P : ℕ → Type 0) → (In (v i) t → P (max (ack i t) (suc (v i).len))) → (¬ In (v i) t → P (ack i t)) → P (acked v ack i t)
  unfolding acked
  acked_by P x y = go (in? (v i) t)
    where
      go : (d : Dec (In (v i) t)) → P (ite d (max (ack i t) (suc (v i).len)) (ack i t))
      go (yes h) = x h
      go (no h) = y h

  pub acked_grow : ack i t ≤ acked v ack i t
  acked_grow = acked_by (λ x. ack i t ≤ x) (λ h. omega arith) (λ h. omega arith)

  pub acked_own : (acked v ack i t ≤ ack i t) ⊎ (In (v i) t × (acked v ack i t ≤ suc (v i).len))
  acked_own =
      acked_by (λ x. (x ≤ ack i t) ⊎ (In (v i) t × (x ≤ suc (v i).len)))
      (λ h. by_cases (dec_le (ack i t) (suc (v i).len)) (λ y. inr (h, omega arith)) (λ y. inl (omega arith)))
      (λ h. inl (omega arith))

  acked_now : In (v i) t → (v i).len < acked v ack i t
  acked_now now = acked_by (λ x. (v i).len < x) (λ h. omega arith) (λ h. absurd (h now))

pub acked_inv : {𝓠 : Quorums} {v : Seen} {g : Leads} {ack : Acks} → Inv 𝓠 v g ack → Inv 𝓠 v g (acked v ack)
acked_inv {𝓠} {v} {ack = ack} inv =
    moves_inv inv
    (record {
      rests = λ i. rests_refl;
      acks_grow = acked_grow v ack;
      acks_own = acked_own v ack;
      settled = λ i. still (inv.settled i);
      marked = λ i. still (inv.marked i);
    })
  where
    -- what is settled stays so
    still : {i k : ℕ} → Settled 𝓠 ack (v i) k → Settled 𝓠 (acked v ack) (v i) k
    still {i} {k} c =
        let t = ((v i).log k).term in
        record { within = c.within; chosen = 𝓠.more _ _ (λ j h. omega (arith, acked_grow v ack j t)) c.chosen }

-- servers have acknowledged what they have, and whatever anybody was told of them
pub record Vouched (m : Told) (v : Seen) (ack : Acks) : Type 0 where
  pub now : (i t : ℕ) → In (v i) t → (v i).len < ack i t
  pub said : (i t n : ℕ) → Said m i t n → n < ack i t

-- a report that is made after a step says what its server acknowledges then; any other was vouched for
module _ {m m' : Told} {v v' : Seen} {ack ack' : Acks} (k : Vouched m v ack) (grow : (i t : ℕ) → ack i t ≤ ack' i t)
    (tells : (p : Place) → Tells m v' (m' p)) where
  told_now : {r : ReportSeen} → Tells m v' r → (i t n : ℕ) → Says r i t n → n < acked v' ack' i t
  told_now (before p e) i t n s =
      let old : Says (m p) i t n = rw e at s in
      omega (arith, k.said i t n (record { place = p; says = old }), grow i t, acked_grow v' ack' i t)
  told_now (unused e) i t n s = absurd (omega (arith, s.long, s.some))
  told_now {r} (own o) i t n s =
      let now : In (v' r.who) t = (omega (arith, o.term, s.term), omega (arith, o.last, s.last)) in
      rw (← s.who) (omega (arith, o.len, s.long, acked_now v' ack' r.who t now))

  pub acked_vouched : Vouched m' v' (acked v' ack')
  acked_vouched = record { now = acked_now v' ack'; said = λ i t n s. told_now (tells s.place) i t n s.says }
