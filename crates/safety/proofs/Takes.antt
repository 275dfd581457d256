-- A pull or a rollback keeps the invariant (kinds 4 and 5).
-- Assumes nothing.
use mathlib.Core.Path.{◌≡◌, refl, ap, sym, ◌∙◌}
use mathlib.Core.Logic.{◌⊎◌, inl, inr, by_cases}
use mathlib.Core.Bool.{true, false}
use Prim.Native.Nat.{ℕ, ◌≤◌}
use native.Mathlib.Decide.{dec_le}
use native.Mathlib.Omega.{arith}
use Rattle.safety.specs.Quorum.{Quorums}
use Rattle.safety.specs.Cluster.{LogSeen, ServerSeen, Seen, last_term_seen, Holds, NotBehind}
use Rattle.safety.specs.Steps.{Takes}
use Rattle.safety.proofs.Leads.{Leads, Rooted, term_of, rooted_agree}
use Rattle.safety.proofs.Inv.{Acks, Settled, Open, Onward, Inv, settled_holds, still_open, replaced, reaches}
use Rattle.safety.proofs.Inv.{still_behind, not_lost, may_copy}

module _ {𝓠 : Quorums} {v v' : Seen} {g : Leads} {ack : Acks} (inv : Inv 𝓠 v g ack) {a b : ℕ} (h : Takes v v' a b) where
  raised : (i : ℕ) → (v i).term ≤ (v' i).term
  raised i = replaced h.others (λ j s. (v j).term ≤ s.term) (omega (arith, h.term)) i (λ ne. omega arith)

  last_a : last_term_seen (v' a) ≡ last_term_seen (v b)
  last_a = rw h.len (term_of (h.log (v b).len (omega arith)))

  -- what b holds a holds afterwards
  handed : {k : ℕ} {L : LogSeen} → Holds k L (v b) → Holds k L (v' a)
  handed H = record { long = omega (arith, H.long, h.len); same = λ j jk. h.log j (omega (arith, H.long)) ∙ H.same j jk }

  terms_a : last_term_seen (v' a) ≤ (v' a).term
  terms_a = omega (arith, last_a, h.term, inv.terms b)

  own_a : Rooted g (v' a).log (v' a).len
  own_a = rw h.len (rooted_agree h.log (inv.own b))

  was : {t n : ℕ} → Open 𝓠 v' g ack t n → Open 𝓠 v g ack t n
  was o = still_open raised (λ i. inl (omega arith)) o.pair o

  -- b is not behind a
  longer : NotBehind (v' a) (v a)
  longer = rw (last_a, h.len) (may_copy inv a b h.may)

  -- what was settled in a's log or is in b's is settled in a's afterwards, since b holds both
  settled_a : {i j k : ℕ} → Settled 𝓠 ack (v a) i → Settled 𝓠 ack (v b) j → (k ≡ i) ⊎ (k ≡ j) → Settled 𝓠 ack (v' a) k
  settled_a {i} x y (inl q) = rw q (settled_holds (handed (not_lost inv a b i (may_copy inv a b h.may) x)) x)
  settled_a x y (inr q) = rw q (settled_holds (handed (record { long = y.within; same = λ n l. refl })) y)

  commit_a : ((v' a).commit ≡ (v a).commit) ⊎ ((v' a).commit ≡ (v b).commit)
  commit_a =
      let e = h.commit in
      by_cases (dec_le (v a).commit (v b).commit) (λ y. inr (omega arith)) (λ y. inl (omega arith))

  -- a is no primary, and every primary is unchanged
  primaries : (i : ℕ) → (v' i).primary ≡ true → v' i ≡ v i
  primaries i = replaced h.others (λ j s. s.primary ≡ true → s ≡ v j) (λ p. absurd (clash p)) i (λ ne p. refl)
    where
      clash : (v' a).primary ≡ true → ⊥
      clash p = let q : true ≡ false = sym p ∙ h.role ∙ h.secondary in let z : ◌≡◌ {A = ℕ} 0 1 = cc in omega arith

  pub takes_onward : Onward g v v'
  takes_onward =
      record {
        raised = raised;
        primaries = λ i p z. (rw (primaries i p) at p, ap (λ (s : ServerSeen). s.term) (primaries i p));
      }

  pub takes_inv : Inv 𝓠 v' g ack
  takes_inv =
      record {
        tree = inv.tree;
        behind = still_behind inv v' raised;
        own = λ i. replaced h.others (λ j s. Rooted g s.log s.len) own_a i (λ ne. inv.own i);
        terms = λ i. replaced h.others (λ j s. last_term_seen s ≤ s.term) terms_a i (λ ne. inv.terms i);
        rule = λ i p. rw (primaries i p) (inv.rule i (rw (primaries i p) at p));
        one = λ i j p q. rw (primaries i p, primaries j q) (inv.one i j (rw (primaries i p) at p) (rw (primaries j q) at q));
        acks = inv.acks;
        kept = λ t n u o. inv.kept t n u (was o);
        held = λ t n i o k. reaches h.others longer t n i (inv.held t n i (was o) k);
        settled =
            λ i. replaced h.others (λ j s. Settled 𝓠 ack s s.commit) (settled_a (inv.settled a) (inv.settled b) commit_a) i (λ ne. inv.settled i);
        marked = λ i. replaced h.others (λ j s. Settled 𝓠 ack s s.mark) (settled_a (inv.marked a) (inv.marked b) h.mark) i (λ ne. inv.marked i);
      }
