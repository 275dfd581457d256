-- The chosen server covers all of its log, and each other that hears it does so too. Assumes nothing.
use mathlib.Core.Path.{◌≡◌, refl, ap, sym, ◌∙◌}
use mathlib.Core.Bool.{Bool, true, false, cond, not, ◌&&◌}
use mathlib.Core.List.{List}
use mathlib.Core.Logic.{◌≢◌, by_cases}
use Prim.Native.Nat.{ℕ, suc, ◌*◌, ◌≤◌, ◌<◌}
use native.Mathlib.Decide.{ℕ_discrete}
use native.Mathlib.Omega.{arith}
use lib.Dec.{eqb, ltb, leb}
use lib.ListN.{length}
use borrow.Author.Tests.{lt-ltb, le-leb, eq-eqb, ne_eqb, ltb-false}
use Rattle.base.proofs.Bools.{and_both, or_left, or_right}
use Rattle.base.proofs.Counting.{count_mono}
use Rattle.base.proofs.Highest.{highest_here}
use Rattle.server_log.specs.declared.Entry.{Entry}
use Rattle.server_log.specs.Entries.{last_term, equal_at}
use Rattle.server_log.specs.Logs.{live, length_of}
use Rattle.server_log.proofs.Tidy.{tidy_length}
use Rattle.mail.specs.declared.Note.{Note}
use Rattle.mail.specs.Mails.{note_at}
use Rattle.cluster.specs.declared.Server.{Server}
use Rattle.cluster.specs.declared.Cluster.{Cluster}
use Rattle.cluster.specs.Servers.{server_count, server_at}
use Rattle.cluster.specs.Sets.{votes, voters, voters_with, most_of}
use Rattle.cluster.proofs.Changed.{replaced_here, replaced_others}
use Rattle.steps.specs.declared.Step.TheVariants.{Advances, Hears}
use Rattle.steps.specs.Reasons.{Clear}
use Rattle.pairs.specs.Hears.{takes_commit, heard_commit, heard_of}
use Rattle.counts.specs.Advances.{backs, backers, passes, highest_passing, reached_by, committed_of}
use Rattle.rules.specs.Rules.{delivered, row_of, rules_of}
use Rattle.plans.specs.Moves.{other}
use Rattle.recovery.specs.Promise.{held_by}
use Rattle.recovery.proofs.Getting.{Steps, other_not, other_below, other_apart, other_every}
use Rattle.recovery.proofs.Standing.{steps_clear, some_vote, counts_n, in_count, place, put_each}
use Rattle.recovery.proofs.Leading.{Task, Leads, Level, note_from}
use Rattle.recovery.proofs.Taking.{Taking}

-- ---- after j of them

pub record Hearing (m f : ℕ) (a t : ℕ) (es : List Entry) (j : ℕ) (c : Cluster) : Type 0 where
  pub leads : Leads m f a t es c
  pub level : (i : ℕ) → i < suc m → Level t es (held_by c i)
  pub commit : (server_at c a).head.commit ≡ length es
  -- where it has an equal entry there
  pub heard : (k : ℕ) → k < j → equal_at (held_by c (other a k)) es (length es) ≡ true → (server_at c (other a k)).head.commit ≡ length es

module _ {m f : ℕ} {a t : ℕ} {es : List Entry} (task : Task m a t es) where
  -- ---- the chosen server advances

  module _ {c : Cluster} (h : Taking m f a t es m c) where
    abbrev s : Server
    s = server_at c a

    long : length_of s.log ≡ length es
    long = ap length h.leads.held

    own : s.head.term ≡ t
    own = h.leads.own

    -- every server backs the last position: a itself, and the others by their notes
    backs_each : (i : ℕ) → i < suc m → backs s a (length_of s.log) i ≡ true
    unfolding backs
    backs_each i l = by_cases (ℕ_discrete i a) (λ e. or_left _ _ (eq-eqb i a e)) (λ ne. or_right (eqb i a) _ (by_note ne))
      where
        by_note : i ≢ a → (eqb (note_at s.mail i).term s.head.term && (eqb (note_at s.mail i).last s.head.term && leb (length_of s.log) (note_at s.mail i).len)) ≡ true
        by_note ne =
            let o = other_every a m i (omega (arith, task.below)) l ne in
            let e : note_at s.mail i ≡ note_from t es = ap (note_at s.mail) (sym o.is) ∙ h.noted o.number o.below in
            and_both _ _ (eq-eqb _ _ (ap (λ (x : Note). x.term) e ∙ sym own))
            (and_both _ _ (eq-eqb _ _ (ap (λ (x : Note). x.last) e ∙ sym own)) (le-leb (length_of s.log) (note_at s.mail i).len (omega (arith, long, ap (λ (x : Note). x.len) e))))

    -- and so do all that vote
    most : most_of (voters (server_count c) c.followers) (backers (server_count c) c.followers s a (length_of s.log)) ≡ true
    most =
        let n = suc m in
        let b = backs s a (length_of s.log) in
        rw (counts_n h.leads.stands, h.leads.stands.follows)
        (lt-ltb (voters n f) (voters_with n f b * 2)
        (omega (arith, some_vote h.leads.stands, count_mono (votes f) (λ i. votes f i && b i) n (λ i l e. and_both _ _ e (backs_each i l)))))

    passes_last : passes (server_count c) c.followers s a (length_of s.log) ≡ true
    unfolding passes
    passes_last =
        and_both _ _ (lt-ltb s.head.commit (length_of s.log) (omega (arith, h.commit, long)))
        (and_both _ _ (le-leb (length_of s.log) (length_of s.log) (omega arith))
        (and_both _ _ (eq-eqb _ _ (ap (λ (xs : List Entry). last_term xs) h.leads.held ∙ task.last ∙ sym own)) most))

    highest_is : reached_by c a ≡ length es
    unfolding highest_passing
    highest_is = highest_here (passes (server_count c) c.followers s a) (length_of s.log) (λ z. omega (arith, long, task.some)) passes_last ∙ long

    clear : Clear (rules_of c (Advances a))
    unfolding row_of
    clear = (in_count h.leads.stands a task.below, (h.leads.primary, (le-leb 1 (reached_by c a) (omega (arith, highest_is, task.some)), tt)))

    pa : a < length c.servers
    pa = place h.leads.stands a task.below

    pub advances_steps : Steps (Hearing m f a t es 0) c (Advances a)
    unfolding row_of
    advances_steps =
        steps_clear h.leads.stands (Advances a) (omega (arith, h.leads.stands.few, task.below)) refl clear
        (λ stands.
        let at_a = replaced_here c a (committed_of s (reached_by c a)) pa in
        record {
          leads = record {
            stands = stands;
            primary = ap (λ (x : Server). x.head.primary) at_a ∙ h.leads.primary;
            held = ap (λ (x : Server). live x.log) at_a ∙ h.leads.held;
            own = ap (λ (x : Server). x.head.term) at_a ∙ h.leads.own;
            terms = put_each c a _ pa (λ k x. k < suc m → x.head.term ≤ t) (h.leads.terms a) (λ k ne. h.leads.terms k);
            secondary = put_each c a _ pa (λ k x. k < suc m → k ≢ a → x.head.primary ≡ false) (h.leads.secondary a) (λ k ne. h.leads.secondary k);
          };
          level = put_each c a _ pa (λ k x. k < suc m → Level t es (live x.log)) (h.level a) (λ k ne. h.level k);
          commit = ap (λ (x : Server). x.head.commit) at_a ∙ highest_is;
          heard = λ k l. absurd (omega arith);
        })

  -- ---- each other hears it

  module _ {j : ℕ} (l : j < m) {c : Cluster} (h : Hearing m f a t es j c) where
    abbrev i : ℕ
    i = other a j

    li : i < suc m
    li = other_below a j m l

    abbrev x : Server
    x = server_at c i

    abbrev y : Server
    y = server_at c a

    heard_clear : Clear (rules_of c (Hears i a))
    unfolding row_of
    heard_clear = (in_count h.leads.stands i li, (in_count h.leads.stands a task.below, (ap not (ne_eqb i a (other_not a j)), tt)))

    -- with an equal entry at the chosen one's commit point it takes that, or has it
    covers : equal_at (live x.log) es (length es) ≡ true → heard_commit x y ≡ length es
    unfolding takes_commit
    covers equal = rw (h.leads.held, h.commit, equal) (go (ltb x.head.commit (length es)) refl)
      where
        go : (b : Bool) → ltb x.head.commit (length es) ≡ b → cond (b && true) (length es) x.head.commit ≡ length es
        go true e = refl
        go false e =
            let g = h.leads.stands.good.counted i (omega (arith, h.leads.stands.counted, li)) in
            omega (arith, ltb-false x.head.commit (length es) e, g.commit_point, tidy_length g.log.tidy, (h.level i li).len)

    pi : i < length c.servers
    pi = place h.leads.stands i li

    pub hears_steps : Steps (Hearing m f a t es (suc j)) c (Hears i a)
    unfolding row_of delivered heard_of
    hears_steps =
        steps_clear h.leads.stands (Hears i a) (omega (arith, h.leads.stands.few, task.below, li)) refl heard_clear
        (λ stands.
        let at_i = replaced_here c i (heard_of x y) pi in
        let at_a = replaced_others c i (heard_of x y) a (λ e. other_not a j (sym e)) in
        record {
          leads = record {
            stands = stands;
            primary = ap (λ (z : Server). z.head.primary) at_a ∙ h.leads.primary;
            held = ap (λ (z : Server). live z.log) at_a ∙ h.leads.held;
            own = ap (λ (z : Server). z.head.term) at_a ∙ h.leads.own;
            terms = put_each c i _ pi (λ k z. k < suc m → z.head.term ≤ t) (λ lk. omega (arith, h.leads.terms i li, h.leads.own)) (λ k ne. h.leads.terms k);
            secondary = put_each c i _ pi (λ k z. k < suc m → k ≢ a → z.head.primary ≡ false) (λ lk ne. rw (h.leads.secondary i li ne)) (λ k ne. h.leads.secondary k);
          };
          level = put_each c i _ pi (λ k z. k < suc m → Level t es (live z.log)) (h.level i) (λ k ne. h.level k);
          commit = ap (λ (z : Server). z.head.commit) at_a ∙ h.commit;
          heard = λ k lk. by_cases (ℕ_discrete k j) (λ e. rw (e, at_i) covers)
              (λ ne. rw (replaced_others c i (heard_of x y) (other a k) (other_apart a k j ne)) (h.heard k (omega arith)));
        })
