-- A write keeps the invariant (kind 6, and kind 14, whose entry writes nothing).
-- Assumes nothing.
use mathlib.Core.Path.{◌≡◌, refl, sym, ◌∙◌}
use mathlib.Core.Logic.{◌≢◌, ◌⊎◌, inl, inr, by_cases}
use mathlib.Core.Bool.{true}
use Prim.Native.Nat.{ℕ, suc, ◌≤◌, ◌<◌}
use native.Mathlib.Decide.{dec_le, ℕ_discrete}
use native.Mathlib.Omega.{arith}
use Rattle.safety.specs.Quorum.{Quorums}
use Rattle.safety.specs.Cluster.{EntrySeen, Seen, last_term_seen, NotBehind}
use Rattle.safety.specs.Steps.{Writes}
use Rattle.safety.proofs.Leads.{Leads, Rooted, rooted_agree, terms_rise, times_rise, log_begins, Grown, grown_rooted}
use Rattle.safety.proofs.Leads.{Leading, led, led_lead, led_own, led_grown, led_rooted, led_tree}
use Rattle.safety.proofs.Inv.{Acks, Settled, Open, LogOf, Has, Onward, Inv, settled_holds, acknowledged, replaced, reaches}
use Rattle.safety.proofs.Inv.{rooted_at, still_behind, open_before}

module _ {𝓠 : Quorums} {v v' : Seen} {g : Leads} {ack : Acks} (inv : Inv 𝓠 v g ack) {a : ℕ} {e : EntrySeen} (w : Writes v v' a e) where
  -- the term of the entry
  abbrev t : ℕ
  t = (v a).term

  -- the leads afterwards: the primary's log is again the lead of its term
  abbrev g' : Leads
  g' = led g t (v' a)

  size_t : g.size t ≡ suc (v a).len
  size_t = (inv.rule a w.primary).0

  -- what holds of a's old entries and of the new one holds of all
  along : (n : ℕ) (P : EntrySeen → Type 0) → (n ≤ (v a).len → P ((v a).log n)) → (n ≡ suc (v a).len → P e)
      → n ≤ (v' a).len → P ((v' a).log n)
  along n P x y h = by_cases (dec_le n (v a).len) (λ k. rw (w.kept n k) (x k)) (λ k. last (omega (arith, w.len)))
    where
      last : n ≡ suc (v a).len → P ((v' a).log n)
      last q = rw (q, w.entry) (y q)

  -- every time in a's log is before the new one
  later : (m : ℕ) → m ≤ (v a).len → ((v a).log m).time < e.time
  later m h =
      by_cases (ℕ_discrete m (v a).len) (λ q. rw q (omega (arith, w.later)))
      (λ ne. omega (arith, w.later, times_rise inv.tree (inv.own a) m (v a).len (omega arith) (omega arith)))

  leading : Leading g t (v' a)
  leading =
      record {
        long = omega (arith, size_t, w.len);
        same = λ k h. w.kept k (omega (arith, size_t)) ∙ (inv.rule a w.primary).1 k (omega (arith, size_t));
        begins = w.kept 0 (omega arith) ∙ log_begins inv.tree (inv.own a);
        below = λ n. along n (λ x. x.term ≤ t) (below n) (λ q. omega (arith, w.current));
        rooted = λ n. along n (λ x. Rooted g (v' a).log n ⊎ (x.term ≡ t)) (λ h. inl (rooted n h)) (λ q. inr w.current);
        times =
            λ m n mn.
            along n (λ x. ((v' a).log m).time < x.time) (times m n mn) (λ q. rw (w.kept m (omega arith)) (later m (omega arith)));
      }
    where
      below : (n : ℕ) → n ≤ (v a).len → ((v a).log n).term ≤ t
      below n h = omega (arith, terms_rise inv.tree (inv.own a) n h, inv.terms a)

      rooted : (n : ℕ) → n ≤ (v a).len → Rooted g (v' a).log n
      rooted n h = rooted_agree (λ k kn. w.kept k (omega arith)) (rooted_at inv a n h)

      times : (m n : ℕ) → m < n → n ≤ (v a).len → ((v' a).log m).time < ((v a).log n).time
      times m n mn h = rw (w.kept m (omega arith)) (times_rise inv.tree (inv.own a) m n mn h)

  pub writes_grown : Grown g g'
  writes_grown = led_grown leading

  terms_same : (i : ℕ) → (v' i).term ≡ (v i).term
  terms_same i = replaced w.others (λ j s. s.term ≡ (v j).term) w.term i (λ ne. refl)

  roles_same : (i : ℕ) → (v' i).primary ≡ (v i).primary
  roles_same i = replaced w.others (λ j s. s.primary ≡ (v j).primary) w.role i (λ ne. refl)

  raised : (i : ℕ) → (v i).term ≤ (v' i).term
  raised i = omega (arith, terms_same i)

  pub writes_onward : Onward g v v'
  writes_onward = record { raised = raised; primaries = λ i p z. (rw (roles_same i) at p, terms_same i) }

  -- a term that is won now was won before
  won : (u : ℕ) → 0 < g'.size u → 0 < g.size u
  won u = led_lead g t (v' a) (λ L l. 0 < l → 0 < g.size u) u (λ q z. rw q (omega (arith, size_t))) (λ ne z. z)

  behind' : (u : ℕ) → 0 < g'.size u → 𝓠.Most (λ i. u ≤ (v' i).term)
  behind' u z = still_behind inv v' raised u (won u z)

  -- nobody has acknowledged the new entry, so no later term was won while it is open
  kept' : (s n u : ℕ) → Open 𝓠 v' g' ack s n → s < u → 0 < g'.size u → Has n (g'.lead s) (g'.lead u) (g'.size u)
  kept' s n u o lt z = (omega (arith, K.0, writes_grown.bigger u), λ k kn. later_u k kn ∙ K.1 k kn ∙ sym (later_s k kn))
    where
      was : Open 𝓠 v g ack s n
      was = let m = acknowledged o (λ i h. omega arith) (behind' u z) in open_before inv writes_grown raised m.0 m.1 o

      K : Has n (g.lead s) (g.lead u) (g.size u)
      K = inv.kept s n u was lt (won u z)

      later_u : (k : ℕ) → k ≤ n → g'.lead u k ≡ g.lead u k
      later_u k kn = writes_grown.same u k (omega (arith, K.0))

      later_s : (k : ℕ) → k ≤ n → g'.lead s k ≡ g.lead s k
      later_s k kn = writes_grown.same s k (omega (arith, was.pair.inside))

  last_a : last_term_seen (v' a) ≡ t
  last_a = rw (w.len, w.entry) w.current

  -- a's log has only become longer
  longer : NotBehind (v' a) (v a)
  longer = rw last_a (record { le = inv.terms a; eq = λ h. omega (arith, w.len) })

  -- another primary has another term
  rule' : (i : ℕ) → (v i).primary ≡ true → LogOf (v' i) (g'.lead (v i).term) (g'.size (v i).term)
  rule' i p =
      replaced w.others (λ j s. (v j).primary ≡ true → LogOf s (g'.lead (v j).term) (g'.size (v j).term))
      (λ q. led_own g t (v' a) (LogOf (v' a)) (refl, λ k kn. refl)) i (λ ne q. old ne) p
    where
      old : i ≢ a → LogOf (v i) (g'.lead (v i).term) (g'.size (v i).term)
      old ne =
          led_lead g t (v' a) (LogOf (v i)) (v i).term (λ q. absurd (ne (inv.one i a p w.primary q))) (λ x. inv.rule i p)

  -- what is settled in a's log stays so
  settled_a : {k : ℕ} → Settled 𝓠 ack (v a) k → Settled 𝓠 ack (v' a) k
  settled_a c = settled_holds (record { long = omega (arith, c.within, w.len); same = λ j jk. w.kept j (omega (arith, c.within)) }) c

  own_a : Rooted g' (v' a).log (v' a).len
  own_a = led_rooted leading (v' a).len (omega arith) last_a

  pub writes_inv : Inv 𝓠 v' g' ack
  writes_inv =
      record {
        tree = led_tree leading inv.tree;
        behind = behind';
        own = λ i. replaced w.others (λ j s. Rooted g' s.log s.len) own_a i (λ ne. grown_rooted writes_grown (inv.own i));
        terms = λ i. replaced w.others (λ j s. last_term_seen s ≤ s.term) (omega (arith, last_a, w.term)) i (λ ne. inv.terms i);
        rule = λ i p. rw (terms_same i) (rule' i (rw (roles_same i) at p));
        one = λ i j. rw (terms_same i, terms_same j, roles_same i, roles_same j) (inv.one i j);
        acks = λ i u. omega (arith, inv.acks i u, writes_grown.bigger u);
        kept = kept';
        held = λ u n i o h. reaches w.others longer u n i (inv.held u n i (open_before inv writes_grown raised i h o) h);
        settled =
            λ i. replaced w.others (λ j s. Settled 𝓠 ack s s.commit) (settled_a (rw w.commit (inv.settled a))) i (λ ne. inv.settled i);
        marked =
            λ i. replaced w.others (λ j s. Settled 𝓠 ack s s.mark) (settled_a (rw w.mark (inv.marked a))) i (λ ne. inv.marked i);
      }
