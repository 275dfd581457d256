-- Every view that a walk from a fresh cluster reaches has ghosts that keep the invariant, and they only grow.
-- Assumes nothing.
use mathlib.Core.Path.{◌≡◌, refl, sym, ◌∙◌}
use mathlib.Core.Logic.{⊎_elim}
use mathlib.Core.Bool.{true, false}
use Prim.Native.Nat.{ℕ, zero, suc, ◌≤◌, ◌<◌}
use native.Mathlib.Nat.{not-suc-le-zero}
use native.Mathlib.Omega.{arith}
use Rattle.safety.specs.Quorum.{Quorums}
use Rattle.safety.specs.Cluster.{root, Seen}
use Rattle.safety.specs.Told.{Told, ClusterSeen}
use Rattle.safety.specs.Steps.{Goes, elects, writes, takes, quiet, passes, StepSeen, FreshServers, Fresh, Walk, stop, go}
use Rattle.safety.proofs.Leads.{Leads, Grown, grown_refl, grown_trans}
use Rattle.safety.proofs.Inv.{Acks, Settled, Onward, Inv, onward_trans}
use Rattle.safety.proofs.Moves.{rests_refl, rests_onward}
use Rattle.safety.proofs.Quiet.{quiet_inv}
use Rattle.safety.proofs.Acked.{acked, acked_grow, acked_own, acked_inv, Vouched, acked_vouched}
use Rattle.safety.proofs.Passes.{passes_rests, passes_inv}
use Rattle.safety.proofs.Elects.{elects_inv, elects_grown, elects_onward}
use Rattle.safety.proofs.Writes.{writes_inv, writes_grown, writes_onward}
use Rattle.safety.proofs.Takes.{takes_inv, takes_onward}

-- ghosts that go with v
pub record Known (𝓠 : Quorums) (v : Seen) : Type 0 where
  pub leads : Leads
  pub ack : Acks
  pub inv : Inv 𝓠 v leads ack

-- and with what was told
pub record KnownAll (𝓠 : Quorums) (x : ClusterSeen) : Type 0 where
  pub known : Known 𝓠 x.servers
  pub vouched : Vouched x.told x.servers known.ack

-- what was led or acknowledged stays so, and a server that has left a term acknowledges nothing more in it
pub record Later {𝓠 : Quorums} {v v' : Seen} (K : Known 𝓠 v) (K' : Known 𝓠 v') : Type 0 where
  pub grown : Grown K.leads K'.leads
  pub onward : Onward K.leads v v'
  pub acks : (i t : ℕ) → K.ack i t ≤ K'.ack i t
  pub frozen : (i t : ℕ) → t < (v i).term → K'.ack i t ≤ K.ack i t

-- ---- a fresh cluster: term 0 has the empty log for its lead, and everybody has acknowledged that

abbrev first : ℕ → ℕ
first zero = 1
first (suc u) = 0

first_only : (u n : ℕ) → n < first u → (u ≡ 0) × (n ≡ 0)
first_only zero n h = (refl, omega arith)
first_only (suc u) n h = absurd (not-suc-le-zero h)

module _ (𝓠 : Quorums) {v : Seen} (f : FreshServers v) where
  no_primary : (i : ℕ) → (v i).primary ≡ true → ⊥
  no_primary i p = let q : false ≡ true = sym (f.role i) ∙ p in let z : ◌≡◌ {A = ℕ} 0 1 = cc in omega arith

  begins : (i k : ℕ) → k ≤ 0 → (v i).log k ≡ root
  begins i k h = let e : k ≡ 0 = omega arith in rw e (f.log i)

  pub fresh_known : Known 𝓠 v
  fresh_known =
      record {
        leads = record { size = first; lead = λ u k. root };
        ack = λ i. first;
        inv =
            record {
              tree =
                  record {
                    begins = λ u h. refl;
                    below = λ u n h. omega arith;
                    rooted = λ u n h. record { inside = omega (arith, first_only u n h); along = λ k kn. refl };
                    times = λ u m n mn h. absurd (omega (arith, first_only u n h));
                  };
              behind = λ u h. 𝓠.more _ _ (λ i x. omega (arith, first_only u 0 h)) 𝓠.all;
              own = λ i. rw (f.len i) (record { inside = rw (f.log i) (omega arith); along = begins i });
              terms = λ i. rw (f.len i, f.log i) (omega arith);
              rule = λ i p. absurd (no_primary i p);
              one = λ i j p. absurd (no_primary i p);
              acks = λ i t. omega arith;
              kept = λ t n u o lt h. absurd (omega (arith, first_only u 0 h));
              held = λ t n i o h. record { le = omega (arith, first_only t n h); eq = λ k. omega (arith, first_only t n h) };
              settled = λ i. empty i (f.commit i);
              marked = λ i. empty i (f.mark i);
            };
      }
    where
      -- the empty log is settled everywhere
      empty : (i : ℕ) {k : ℕ} → k ≡ 0 → Settled 𝓠 (λ j. first) (v i) k
      empty i e = rw e (record { within = omega arith; chosen = rw (f.log i) (𝓠.more _ _ (λ j x. omega arith) 𝓠.all) })

fresh_all : (𝓠 : Quorums) {x : ClusterSeen} → Fresh x → KnownAll 𝓠 x
unfolding fresh_known
fresh_all 𝓠 f =
    record {
      known = fresh_known 𝓠 f.servers;
      vouched =
          record {
            now = λ i t h. rw (← h.0, f.servers.term i, f.servers.len i) (omega arith);
            said = λ i t n s. absurd (omega (arith, s.says.long, s.says.some, f.told s.place));
          };
    }

-- ---- each step and each walk

abbrev Next : {𝓠 : Quorums} {v : Seen} → Known 𝓠 v → Seen → Type 0
Next {𝓠} K v' = (K' : Known 𝓠 v') × Later K K'

later_leads : {𝓠 : Quorums} {v v' : Seen} (K : Known 𝓠 v) {g : Leads} → Grown K.leads g → Onward K.leads v v' → Inv 𝓠 v' g K.ack
    → Next K v'
later_leads K w o i = (
  record { leads = _; ack = K.ack; inv = i },
  record { grown = w; onward = o; acks = λ i t. omega arith; frozen = λ i t h. omega arith },
)

later_refl : {𝓠 : Quorums} {v : Seen} {K : Known 𝓠 v} → Later K K
later_refl = record { grown = grown_refl; onward = rests_onward (λ i. rests_refl); acks = λ i t. omega arith; frozen = λ i t h. omega arith }

later_trans : {𝓠 : Quorums} {v v' v'' : Seen} {K : Known 𝓠 v} {K' : Known 𝓠 v'} {K'' : Known 𝓠 v''} → Later K K' → Later K' K'' → Later K K''
later_trans p q =
    record {
      grown = grown_trans p.grown q.grown;
      onward = onward_trans p.grown p.onward q.onward;
      acks = λ i t. omega (arith, p.acks i t, q.acks i t);
      frozen = λ i t h. omega (arith, p.frozen i t h, q.frozen i t (omega (arith, p.onward.raised i)));
    }

goes_known : {𝓠 : Quorums} {m : Told} {v v' : Seen} (K : Known 𝓠 v) → Vouched m v K.ack → Goes 𝓠 m v v' → Next K v'
goes_known K k (elects a m h) = later_leads K (elects_grown K.inv h) (elects_onward K.inv h) (elects_inv K.inv h)
goes_known K k (writes a e h) = later_leads K (writes_grown K.inv h) (writes_onward K.inv h) (writes_inv K.inv h)
goes_known K k (takes a b h) = later_leads K grown_refl (takes_onward K.inv h) (takes_inv K.inv h)
goes_known K k (quiet h) = later_leads K grown_refl (rests_onward (λ i. (h i).rests)) (quiet_inv K.inv h)
goes_known K k (passes a n h) = later_leads K grown_refl (rests_onward (passes_rests K.inv k h)) (passes_inv K.inv k h)

-- then every server acknowledges what it has
acked_known : {𝓠 : Quorums} {v : Seen} (K : Known 𝓠 v) → Next K v
acked_known {v = v} K = (
  record { leads = K.leads; ack = acked v K.ack; inv = acked_inv K.inv },
  record {
    grown = grown_refl;
    onward = rests_onward (λ i. rests_refl);
    acks = acked_grow v K.ack;
    frozen = λ i t l. ⊎_elim (λ x. x) (λ x. absurd (omega arith)) (acked_own v K.ack i t);
  },
)

abbrev pub NextAll : {𝓠 : Quorums} {x : ClusterSeen} → KnownAll 𝓠 x → ClusterSeen → Type 0
NextAll {𝓠} K y = (K' : KnownAll 𝓠 y) × Later K.known K'.known

step_known : {𝓠 : Quorums} {x y : ClusterSeen} (K : KnownAll 𝓠 x) → StepSeen 𝓠 x y → NextAll K y
unfolding acked_known
step_known K s =
    let n = goes_known K.known K.vouched s.goes in
    let a = acked_known n.0 in
    (record { known = a.0; vouched = acked_vouched K.vouched n.1.acks s.tells }, later_trans n.1 a.1)

pub walk_known : {𝓠 : Quorums} {x y : ClusterSeen} (K : KnownAll 𝓠 x) → Walk 𝓠 x y → NextAll K y
walk_known K stop = (K, later_refl)
walk_known K (go w s) =
    let x = walk_known K w in
    let y = step_known x.0 s in
    (y.0, later_trans x.1 y.1)

pub reached : {𝓠 : Quorums} {x y : ClusterSeen} → Fresh x → Walk 𝓠 x y → KnownAll 𝓠 y
reached {𝓠} f w = (walk_known (fresh_all 𝓠 f) w).0
