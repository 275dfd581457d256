-- The invariant that goes with a view, over two ghosts (leads and acknowledgements), and what follows from it in one view.
-- Assumes nothing.
use mathlib.Core.Path.{◌≡◌, refl, sym, ◌∙◌}
use mathlib.Core.Logic.{◌≢◌, ◌⊎◌, inl, inr, ⊎_elim, by_cases}
use mathlib.Core.Bool.{true}
use Prim.Native.Nat.{ℕ, suc, ◌≤◌, ◌<◌}
use native.Mathlib.Decide.{dec_le, ℕ_discrete}
use native.Mathlib.Omega.{arith}
use Rattle.safety.specs.Quorum.{Quorums}
use Rattle.safety.specs.Cluster.{LogSeen, Agree, ServerSeen, Seen, last_term_seen, Holds, Upto, NotBehind, Others}
use Rattle.safety.specs.Steps.{Copies, pulls, rolls_back, takes_over}
use Rattle.safety.proofs.Leads.{Leads, Rooted, Pair, Tree, term_of, rooted_pair, rooted_down, terms_rise, Grown, old_pair}

-- n < ack i t says that server i once had, while its term and its last term were t, a log of n entries or more
abbrev pub Acks : Type 0
Acks = ℕ → ℕ → ℕ

-- a quorum has acknowledged entry n in term t
abbrev pub Chosen : Quorums → Acks → ℕ → ℕ → Type 0
Chosen 𝓠 ack t n = 𝓠.Most (λ i. n < ack i t)

-- position k of s's log is settled: a commit point or a mark may stand there
pub record Settled (𝓠 : Quorums) (ack : Acks) (s : ServerSeen) (k : ℕ) : Type 0 where
  pub within : k ≤ s.len
  pub chosen : Chosen 𝓠 ack (s.log k).term k

-- a quorum has acknowledged the pair (t, n) or may still do so; open pairs only get fewer
pub record Open (𝓠 : Quorums) (v : Seen) (g : Leads) (ack : Acks) (t n : ℕ) : Type 0 where
  pub pair : Pair g t n
  pub most : 𝓠.Most (λ i. ((v i).term ≤ t) ⊎ (n < ack i t))

-- the lead L of size l is the log of s
abbrev pub LogOf : ServerSeen → LogSeen → ℕ → Type 0
LogOf s L l = (l ≡ suc s.len) × Agree s.len s.log L

-- a lead M of size m has the first n entries of L
abbrev pub Has : ℕ → LogSeen → LogSeen → ℕ → Type 0
Has n L M m = (n < m) × Agree n M L

-- s is primary as r was, in the same term
abbrev pub Still : ServerSeen → ServerSeen → Type 0
Still r s = (r.primary ≡ true) × (s.term ≡ r.term)

-- from v to v' terms only rise, and who is primary in a term that was won already was so before
pub record Onward (g : Leads) (v v' : Seen) : Type 0 where
  pub raised : (i : ℕ) → (v i).term ≤ (v' i).term
  pub primaries : (i : ℕ) → (v' i).primary ≡ true → 0 < g.size (v' i).term → Still (v i) (v' i)

pub record Inv (𝓠 : Quorums) (v : Seen) (g : Leads) (ack : Acks) : Type 0 where
  pub tree : Tree g
  -- a quorum has reached every term that was won
  pub behind : (u : ℕ) → 0 < g.size u → 𝓠.Most (λ i. u ≤ (v i).term)
  pub own : (i : ℕ) → Rooted g (v i).log (v i).len
  pub terms : (i : ℕ) → last_term_seen (v i) ≤ (v i).term
  pub rule : (i : ℕ) → (v i).primary ≡ true → LogOf (v i) (g.lead (v i).term) (g.size (v i).term)
  pub one : (i j : ℕ) → (v i).primary ≡ true → (v j).primary ≡ true → (v i).term ≡ (v j).term → i ≡ j
  pub acks : (i t : ℕ) → ack i t ≤ g.size t
  -- later leads keep an open pair, and whoever acknowledged it still reaches it
  pub kept : (t n u : ℕ) → Open 𝓠 v g ack t n → t < u → 0 < g.size u → Has n (g.lead t) (g.lead u) (g.size u)
  pub held : (t n i : ℕ) → Open 𝓠 v g ack t n → n < ack i t → Upto t n (last_term_seen (v i)) (v i).len
  pub settled : (i : ℕ) → Settled 𝓠 ack (v i) (v i).commit
  -- marks are settled too: a restart goes back to them
  pub marked : (i : ℕ) → Settled 𝓠 ack (v i) (v i).mark

-- ---- with no invariant

pub upto_trans : {t n u l w m : ℕ} → Upto t n u l → Upto u l w m → Upto t n w m
upto_trans p q =
    record { le = omega arith; eq = λ h. let x = p.eq (omega arith) in let y = q.eq (omega arith) in omega arith }

pub onward_trans : {v v' v'' : Seen} {g g' : Leads} → Grown g g' → Onward g v v' → Onward g' v' v'' → Onward g v v''
onward_trans {v} {v'' = v''} {g = g} w p q = record { raised = λ i. omega (arith, p.raised i, q.raised i); primaries = was }
  where
    was : (i : ℕ) → (v'' i).primary ≡ true → 0 < g.size (v'' i).term → Still (v i) (v'' i)
    was i h z =
        let y = q.primaries i h (omega (arith, w.bigger (v'' i).term)) in
        let x = p.primaries i y.0 (rw y.1 at z) in
        (x.0, y.1 ∙ x.1)

-- a server that holds what is settled in another's log has it settled too
pub settled_holds : {𝓠 : Quorums} {ack : Acks} {r s : ServerSeen} {k : ℕ} → Holds k r.log s → Settled 𝓠 ack r k → Settled 𝓠 ack s k
settled_holds {k = k} h c = record { within = h.long; chosen = rw (h.same k (omega arith)) c.chosen }

-- open pairs get fewer: terms rise, and an acknowledgement is won only by a server that counted already
pub still_open : {𝓠 : Quorums} {v v' : Seen} {g g' : Leads} {ack ack' : Acks} {t n : ℕ} → ((i : ℕ) → (v i).term ≤ (v' i).term)
    → ((i : ℕ) → (ack' i t ≤ ack i t) ⊎ ((v i).term ≤ t)) → Pair g t n → Open 𝓠 v' g' ack' t n → Open 𝓠 v g ack t n
still_open {𝓠} {v} {v'} {ack = ack} {ack' = ack'} {t = t} {n = n} raised won p o =
    record { pair = p; most = 𝓠.more _ _ (λ i. counted i (won i)) o.most }
  where
    counted : (i : ℕ) → (ack' i t ≤ ack i t) ⊎ ((v i).term ≤ t) → ((v' i).term ≤ t) ⊎ (n < ack' i t) → ((v i).term ≤ t) ⊎ (n < ack i t)
    counted i x (inl h) = inl (omega (arith, raised i))
    counted i (inl x) (inr h) = inr (omega arith)
    counted i (inr x) (inr h) = inl x

-- a quorum that is past t has a server that acknowledged an open pair of t
pub acknowledged : {𝓠 : Quorums} {v : Seen} {g : Leads} {ack : Acks} {t n : ℕ} {R : ℕ → Type 0} → Open 𝓠 v g ack t n
    → ((i : ℕ) → R i → t < (v i).term) → 𝓠.Most R → (i : ℕ) × (n < ack i t) × R i
acknowledged {𝓠} o past q =
    let m = 𝓠.meet _ _ o.most q in
    (m.0, ⊎_elim (λ h. absurd (omega (arith, past m.0 m.2))) (λ h. h) m.1, m.2)

-- what holds of a afterwards, and held of each other server before, holds of each server afterwards
pub replaced : {v v' : Seen} {a : ℕ} → Others v v' a → (P : ℕ → ServerSeen → Type 0) → P a (v' a) → (i : ℕ) → (i ≢ a → P i (v i))
    → P i (v' i)
replaced {v} {v'} {a} o P x i y = go (ℕ_discrete i a)
  where
    go : Dec (i ≡ a) → P i (v' i)
    go (yes e) = rw e x
    go (no ne) = rw (o i ne) (y ne)

-- a server whose log is not behind what it was reaches what it reached
pub reaches : {v v' : Seen} {a : ℕ} → Others v v' a → NotBehind (v' a) (v a) → (t n i : ℕ) → Upto t n (last_term_seen (v i)) (v i).len
    → Upto t n (last_term_seen (v' i)) (v' i).len
reaches {v} o x t n i =
    replaced o (λ j s. Upto t n (last_term_seen (v j)) (v j).len → Upto t n (last_term_seen s) s.len) (λ h. upto_trans h x) i (λ ne h. h)

-- ---- in one view

module _ {𝓠 : Quorums} {v : Seen} {g : Leads} {ack : Acks} (inv : Inv 𝓠 v g ack) where
  pub rooted_at : (i k : ℕ) → k ≤ (v i).len → Rooted g (v i).log k
  rooted_at i k h = rooted_down inv.tree (inv.own i) k h

  -- a quorum stays at or past each term that was won, since terms only rise
  pub still_behind : (v' : Seen) → ((i : ℕ) → (v i).term ≤ (v' i).term) → (u : ℕ) → 0 < g.size u → 𝓠.Most (λ i. u ≤ (v' i).term)
  still_behind v' raised u z = 𝓠.more _ _ (λ i h. omega (arith, raised i)) (inv.behind u z)

  -- where leads only grow and terms only rise, an open pair that somebody acknowledged was open before
  pub open_before : {v' : Seen} {g' : Leads} {t n : ℕ} → Grown g g' → ((i : ℕ) → (v i).term ≤ (v' i).term) → (i : ℕ) → n < ack i t
      → Open 𝓠 v' g' ack t n → Open 𝓠 v g ack t n
  open_before {t = t} w raised i h o = still_open raised (λ j. inl (omega arith)) (old_pair w (omega (arith, inv.acks i t)) o.pair) o

  pub chosen_open : {t n : ℕ} → Pair g t n → Chosen 𝓠 ack t n → Open 𝓠 v g ack t n
  chosen_open p c = record { pair = p; most = 𝓠.more _ _ (λ i h. inr h) c }

  pub settled_open : (i k : ℕ) → Settled 𝓠 ack (v i) k → Open 𝓠 v g ack ((v i).log k).term k
  settled_open i k c = chosen_open (rooted_pair (rooted_at i k c.within)) c.chosen

  -- an open pair stands in every lead of its term or a later one
  pub kept_lead : (t n u : ℕ) → Open 𝓠 v g ack t n → t ≤ u → 0 < g.size u → Has n (g.lead t) (g.lead u) (g.size u)
  kept_lead t n u o h z =
      by_cases (ℕ_discrete u t) (λ e. rw e (o.pair.inside, λ k kn. refl)) (λ ne. inv.kept t n u o (omega arith) z)

  -- a log that ends before an open pair is of no later term: a lead of such a term has the pair, and up to it no term above the pair's
  ends_before : (t n i : ℕ) → Open 𝓠 v g ack t n → (v i).len < n → last_term_seen (v i) ≤ t
  ends_before t n i o l = by_cases (dec_le (last_term_seen (v i)) t) (λ y. y) (λ y. past (omega arith))
    where
      own_lead : Rooted g (v i).log (v i).len
      own_lead = inv.own i

      past : t < last_term_seen (v i) → last_term_seen (v i) ≤ t
      past lt =
          let K = inv.kept t n (last_term_seen (v i)) o lt (omega (arith, own_lead.inside)) in
          let e = term_of (own_lead.along (v i).len (omega arith) ∙ K.1 (v i).len (omega arith)) in
          omega (arith, inv.tree.below t (v i).len (omega (arith, o.pair.inside)))

  -- a server holds an open pair where its last term and length say so
  pub reach : (t n i : ℕ) → Open 𝓠 v g ack t n → Upto t n (last_term_seen (v i)) (v i).len → Holds n (g.lead t) (v i)
  reach t n i o h =
      let own_lead = inv.own i in
      let K = kept_lead t n (last_term_seen (v i)) o h.le (omega (arith, own_lead.inside)) in
      record { long = long; same = λ k kn. own_lead.along k (omega (arith, long)) ∙ K.1 k kn }
    where
      long : n ≤ (v i).len
      long = by_cases (dec_le n (v i).len) (λ y. y) (λ y. h.eq (ends_before t n i o (omega arith)))

  -- two chosen beginnings agree on the shorter
  pub chosen_agree : (t n u m k : ℕ) → Open 𝓠 v g ack t n → Open 𝓠 v g ack u m → k ≤ n → k ≤ m → Agree k (g.lead t) (g.lead u)
  chosen_agree t n u m k o p kn km =
      by_cases (dec_le t u)
      (λ y j jk. sym ((kept_lead t n u o y (omega (arith, p.pair.inside))).1 j (omega arith)))
      (λ y j jk. (kept_lead u m t p (omega arith) (omega (arith, o.pair.inside))).1 j (omega arith))

  -- b holds what is settled in a's log wherever b is not behind a: a rollback past a commit point is never asked for
  pub not_lost : (a b k : ℕ) → NotBehind (v b) (v a) → Settled 𝓠 ack (v a) k → Holds k (v a).log (v b)
  not_lost a b k may c =
      let up = terms_rise inv.tree (inv.own a) k c.within in
      let H = reach _ k b (settled_open a k c) (upto_trans (record { le = up; eq = λ h. c.within }) may) in
      record { long = H.long; same = λ j jk. H.same j jk ∙ sym ((rooted_at a k c.within).along j jk) }

  -- entries of one term at n have the same past
  pub matching : (a b n : ℕ) → n ≤ (v a).len → n ≤ (v b).len → ((v a).log n).term ≡ ((v b).log n).term → Agree n (v a).log (v b).log
  matching a b n ha hb e k kn = (rooted_at a n ha).along k kn ∙ rw e (sym ((rooted_at b n hb).along k kn))

  -- what lets a take b's log: b is not behind it
  pub may_copy : (a b : ℕ) → Copies (v a) (v b) → NotBehind (v b) (v a)
  may_copy a b (pulls h e) =
      record { le = omega (arith, term_of e, terms_rise inv.tree (inv.own b) (v a).len h); eq = λ k. h }
  may_copy a b (rolls_back h) = record { le = omega arith; eq = λ k. absurd (omega arith) }
  may_copy a b (takes_over h) =
      let c = inv.marked b in
      let low = ends_before _ (v b).mark a (settled_open b (v b).mark c) h in
      let up = terms_rise inv.tree (inv.own b) (v b).mark c.within in
      record { le = omega arith; eq = λ k. omega (arith, c.within) }
