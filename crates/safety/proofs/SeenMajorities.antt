-- Kinds 1 and 7 as the view shows them: a majority elects a primary, and a majority backs a position by what it told.
-- Assumes nothing.
use mathlib.Core.Path.{◌≡◌, refl, ap, sym, ◌∙◌, subst}
use mathlib.Core.Bool.{Bool, true, false, not, ◌&&◌, ◌||◌}
use mathlib.Core.Logic.{◌⊎◌, inl, inr, ⊎_elim}
use Prim.Native.Nat.{ℕ, suc, ◌^◌, ◌≤◌, ◌<◌}
use native.Mathlib.Omega.{arith}
use lib.Dec.{eqb, ltb, leb}
use borrow.Author.Tests.{ltb-true, leb-true, eqb-true, not-true}
use Rattle.base.proofs.Bools.{and_left, and_right, or_cases, not_both}
use Rattle.base.proofs.Every.{every_at}
use Rattle.base.proofs.Highest.{highest_passes}
use Rattle.server_log.specs.Entries.{entry_at, last_term}
use Rattle.server_log.specs.Logs.{live, length_of}
use Rattle.mail.specs.declared.Note.{Note}
use Rattle.mail.specs.Mails.{note_at}
use Rattle.cluster.specs.declared.Server.{Server}
use Rattle.cluster.specs.declared.Cluster.{Cluster}
use Rattle.cluster.specs.Ranges.{Fits}
use Rattle.cluster.specs.Servers.{server_count, server_at, voted_of, elected_all}
use Rattle.cluster.specs.Sets.{member, bits, votes, voters, most_of}
use Rattle.cluster.proofs.Changed.{changed_at}
use Rattle.cluster.proofs.Masks.{within_member, voters_members}
use Rattle.steps.specs.declared.Stepped.{Stepped}
use Rattle.steps.specs.declared.Answer.TheVariants.{Reached}
use Rattle.steps.specs.declared.Step.TheVariants.{Elect, Advances}
use Rattle.steps.specs.Answers.{answering}
use Rattle.wholes.specs.Elects.{not_behind, may_vote, all_may_vote, new_term}
use Rattle.wholes.proofs.Voting.{taking}
use Rattle.counts.specs.Advances.{backs, backers, passes, highest_passing, reached_by, committed_of}
use Rattle.rules.specs.Rules.{delivered, row_of}
use Rattle.safety.specs.Quorum.{Quorums, Majority}
use Rattle.safety.specs.Cluster.{ServerSeen, NotBehind}
use Rattle.safety.specs.Told.{note}
use Rattle.safety.specs.Steps.{Voted, Counts, itself, reported, elects}
use Rattle.safety.specs.Steps as T
use Rattle.safety.specs.View.{seen_server, view, told_in}
use Rattle.safety.proofs.Views.{here, others, changed_view}
use Rattle.safety.proofs.SeenQuiet.{Sees}

-- ---- kind 1

not_behind_lem : (s t : Server) → not_behind s t ≡ true → NotBehind (seen_server s) (seen_server t)
unfolding not_behind
not_behind_lem s t e = go (or_cases (ltb (last_term (live t.log)) (last_term (live s.log))) _ e)
  where
    go : (ltb (last_term (live t.log)) (last_term (live s.log)) ≡ true)
        ⊎ ((eqb (last_term (live t.log)) (last_term (live s.log)) && leb (length_of t.log) (length_of s.log)) ≡ true)
        → NotBehind (seen_server s) (seen_server t)
    go (inl h) = let l = ltb-true (last_term (live t.log)) (last_term (live s.log)) h in record { le = omega arith; eq = λ x. absurd (omega arith) }
    go (inr h) =
        let l = eqb-true (last_term (live t.log)) (last_term (live s.log)) (and_left _ _ h) in
        let k = leb-true (length_of t.log) (length_of s.log) (and_right (eqb (last_term (live t.log)) (last_term (live s.log))) _ h) in
        record { le = omega arith; eq = λ x. k }

-- where the test of a member is passed
of_member : (m i : ℕ) (b : Bool) → member m i ≡ true → (not (member m i) || b) ≡ true → b ≡ true
of_member m i b e h = ⊎_elim (λ x. not_both (member m i) e (not-true (member m i) x)) (λ x. x) (or_cases (not (member m i)) b h)

module _ (a m t i : ℕ) (s : Server) where
  voted_in : member m i ≡ true → Voted (seen_server s) (seen_server (voted_of a m t i s)) t
  unfolding voted_of
  voted_in e = rw e (record { keeps = record { len = refl; log = refl }; commit = refl; mark = refl; term = refl })

  voted_role : member m i ≡ true → (voted_of a m t i s).head.primary ≡ true → i ≡ a
  unfolding voted_of
  voted_role e p = eqb-true i a (rw e at p)

  voted_out : member m i ≡ false → seen_server (voted_of a m t i s) ≡ seen_server s
  unfolding voted_of
  voted_out e = rw e

-- ---- kind 7

-- a counts itself, and whom its note says enough of
backing : (c : Cluster) (a n i : ℕ) → 1 ≤ n → backs (server_at c a) a n i ≡ true → Counts (told_in c) (view c) a n i
unfolding backs
backing c a n i some e = go (or_cases (eqb i a) _ e)
  where
    t : ℕ
    t = (server_at c a).head.term

    d : Note
    d = note_at (server_at c a).mail i

    go : (eqb i a ≡ true) ⊎ ((eqb d.term t && (eqb d.last t && leb n d.len)) ≡ true) → Counts (told_in c) (view c) a n i
    go (inl h) = itself (eqb-true i a h)
    go (inr h) =
        let r = and_right (eqb d.term t) _ h in
        reported
        (record {
          place = note a i;
          says =
              record {
                who = refl;
                term = eqb-true d.term t (and_left _ _ h);
                last = eqb-true d.last t (and_left _ _ r);
                long = leb-true n d.len (and_right (eqb d.last t) _ r);
                some = some;
              };
        })

-- a position that passes, as facts
record Passing (size f : ℕ) (s : Server) (a n : ℕ) : Type 0 where
  above : s.head.commit < n
  within : n ≤ length_of s.log
  current : (entry_at (live s.log) n).term ≡ s.head.term
  enough : most_of (voters size f) (backers size f s a n) ≡ true

passing : {size f : ℕ} {s : Server} {a n : ℕ} → passes size f s a n ≡ true → Passing size f s a n
unfolding passes
passing {s = s} {n = n} e =
    let r = and_right (ltb s.head.commit n) _ e in
    let q = and_right (leb n (length_of s.log)) _ r in
    record {
      above = ltb-true s.head.commit n (and_left _ _ e);
      within = leb-true n (length_of s.log) (and_left _ _ r);
      current = eqb-true (entry_at (live s.log) n).term s.head.term (and_left _ _ q);
      enough = and_right (eqb (entry_at (live s.log) n).term s.head.term) _ q;
    }

-- ---- the steps

module _ {𝓠 : Quorums} (c : Cluster) (f : Fits c) (most : (P : ℕ → Type 0) → Majority (server_count c) c.followers P → 𝓠.Most P) where
  pub sees_elect : (a m : ℕ) → m < 2 ^ bits → Sees 𝓠 c (Elect a m)
  unfolding row_of all_may_vote may_vote
  sees_elect a m fits h =
      elects a (member m)
      (record {
        quorum = most _ (record {
          members = member m;
          enough = rw (← voters_members m c.followers (server_count c) fits (omega arith) (taking h.0).within (taking h.0).apart) h.1.0;
          hold = λ i l e. and_right (votes c.followers i) _ e;
        });
        low = λ i e. leb-true _ _ (and_left _ _ (may i e));
        ahead = λ i e. not_behind_lem (server_at c a) (server_at c i) (and_right (leb (server_at c i).head.term (server_at c a).head.term) _ (may i e));
        voted = λ i e. subst (λ (s : Server). Voted (view c i) (seen_server s) (suc (server_at c a).head.term)) (sym (changed i e))
            (rw risen (voted_in a m (new_term c a) i (server_at c i) e));
        winner = λ i e p. voted_role a m (new_term c a) i (server_at c i) e (ap (λ (s : Server). s.head.primary) (sym (changed i e)) ∙ p);
        others = λ i e. changed_view _ c i (voted_out a m _ i (server_at c i) e);
      })
    where
      risen : suc (server_at c a).head.term ≡ new_term c a
      risen = omega arith

      below : (i : ℕ) → member m i ≡ true → i < server_count c
      below i e = within_member m (server_count c) i fits (taking h.0).within e

      may : (i : ℕ) → member m i ≡ true → may_vote (server_at c a) (server_at c i) ≡ true
      may i e = of_member m i _ e (every_at _ (server_count c) i h.1.1.1.0 (below i e))

      changed : (i : ℕ) → member m i ≡ true → server_at (elected_all c a m (new_term c a)) i ≡ voted_of a m (new_term c a) i (server_at c i)
      changed i e = changed_at (voted_of a m (new_term c a)) c i (omega (arith, below i e, f.slots))

  pub sees_advance : (a : ℕ) → Sees 𝓠 c (Advances a)
  unfolding row_of highest_passing delivered
  sees_advance a h =
      let s = server_at c a in
      let n = reached_by c a in
      let p = passing {f = c.followers} (highest_passes (passes (server_count c) c.followers s a) (length_of s.log) (leb-true 1 n h.1.1.0)) in
      let o : Stepped = answering (committed_of s n) (Reached n) in
      let q = here c f a h.0 o in
      T.passes a n
      (record {
        within = p.within;
        above = omega (arith, p.above);
        current = p.current;
        quorum = most _ (record { members = backs s a n; enough = p.enough; hold = λ i l e. backing c a n i (omega (arith, p.above)) (and_right (votes c.followers i) _ e) });
        keeps = record { len = ap (λ (x : ServerSeen). x.len) q; log = ap (λ (x : ServerSeen). x.log) q };
        term = ap (λ (x : ServerSeen). x.term) q;
        role = ap (λ (x : ServerSeen). x.primary) q;
        commit = ap (λ (x : ServerSeen). x.commit) q;
        mark = ap (λ (x : ServerSeen). x.mark) q;
        others = others c f a h.0 o;
      })
