-- From a server of a higher last term a pull is clear or else a rollback: the log is a beginning, or it is not. Assumes nothing.
use mathlib.Core.Path.{◌≡◌, refl, ap, sym, ◌∙◌}
use mathlib.Core.Bool.{Bool, true, false, not}
use mathlib.Core.List.{List, [], ◌∷◌}
use mathlib.Core.Logic.{◌≢◌, ◌⊎◌, inl, inr, ⊎_elim}
use Prim.Native.Nat.{ℕ, ◌≤◌, ◌<◌}
use native.Mathlib.Omega.{arith}
use lib.Dec.{eqb, leb}
use lib.ListN.{length, take}
use lib.Seq.{take-length}
use borrow.Author.Tests.{lt-ltb, le-leb, eq-eqb, ne_eqb}
use Rattle.base.proofs.Bools.{and_both, or_left, or_right, not_both}
use Rattle.base.proofs.Facts.{lt_or_le}
use Rattle.server_log.specs.declared.Entry.{Entry}
use Rattle.server_log.specs.Entries.{entry_at, same_entry, last_term, equal_at, is_beginning}
use Rattle.server_log.specs.Logs.{length_of}
use Rattle.server_log.proofs.Common.{Beginning, beginning, beginning_at, is_beginning_lem}
use Rattle.server_log.proofs.Equal.{same_entry_refl}
use Rattle.cluster.specs.declared.Server.{Server}
use Rattle.cluster.specs.declared.Cluster.{Cluster}
use Rattle.cluster.specs.Servers.{server_at}
use Rattle.steps.specs.declared.Step.TheVariants.{Pulls, RollsBack}
use Rattle.steps.specs.Reasons.{Clear, Broken, later, here as broken-here}
use Rattle.steps.specs.declared.Refusal.TheVariants.{BelowCommitPoint}
use Rattle.pairs.specs.Pulls.{may_join}
use Rattle.pairs.specs.RollsBack.{common}
use Rattle.rules.specs.Rules.{row_of, rules_of}
use Rattle.recovery.specs.Promise.{held_by}
use Rattle.recovery.proofs.Standing.{Stands, in_count}

-- ---- a pull or else a rollback is clear, from a server of a higher last term

module _ {n f : ℕ} {c : Cluster} (h : Stands n f c) (i a : ℕ) (li : i < n) (la : a < n) (ne : i ≢ a)
    (secondary : (server_at c i).head.primary ≡ false) (low : last_term (held_by c i) < last_term (held_by c a)) where
  abbrev s : Server
  s = server_at c i

  abbrev t : Server
  t = server_at c a

  apart : not (eqb i a) ≡ true
  apart = ap not (ne_eqb i a ne)

  role : not s.head.primary ≡ true
  role = ap not secondary

  -- a beginning of a's log that isn't all of it is shorter, and its last entry is a's
  begins_shorter : Beginning (held_by c i) (held_by c a) → length (held_by c i) < length (held_by c a)
  begins_shorter b = ⊎_elim (λ l. l) (λ l. absurd (whole l)) (lt_or_le (length (held_by c i)) (length (held_by c a)))
    where
      whole : length (held_by c a) ≤ length (held_by c i) → ⊥
      whole l =
          let e : length (held_by c i) ≡ length (held_by c a) = omega (arith, b.long) in
          let q : held_by c i ≡ held_by c a = sym b.same ∙ ap (λ (k : ℕ). take k (held_by c a)) e ∙ take-length (held_by c a) in
          omega (arith, ap (λ (es : List Entry). last_term es) q)

  begins_joins : Beginning (held_by c i) (held_by c a) → may_join s.log t.log (length_of s.log) ≡ true
  unfolding equal_at
  begins_joins b = ⊎_elim meets (λ l. or_left _ _ (eq-eqb (length_of s.log) 0 (omega arith))) (lt_or_le 0 (length_of s.log))
    where
      meets : 0 < length_of s.log → may_join s.log t.log (length_of s.log) ≡ true
      meets l =
          or_right (eqb (length_of s.log) 0) _
          (and_both _ _ (le-leb 1 (length_of s.log) l)
          (and_both _ _ (le-leb (length_of s.log) (length_of s.log) (omega arith))
          (and_both _ _ (le-leb (length_of s.log) (length_of t.log) b.long)
          (ap (same_entry (entry_at (held_by c i) (length_of s.log))) (beginning_at b (length_of s.log) (omega arith)) ∙ same_entry_refl _))))

  begins_clear : is_beginning (held_by c i) (held_by c a) ≡ true → Clear (rules_of c (Pulls i a))
  unfolding row_of
  begins_clear e =
      let b = beginning (held_by c i) (held_by c a) e in
      (in_count h i li, (in_count h a la, (apart, (role, (lt-ltb _ _ (begins_shorter b), (begins_joins b, tt))))))

  -- an empty log is a beginning of any
  other_some : is_beginning (held_by c i) (held_by c a) ≡ false → 1 ≤ length_of s.log
  other_some e = ⊎_elim (λ l. l) (λ l. not_both (is_beginning (held_by c i) (held_by c a)) (empty l) e) (lt_or_le 0 (length_of s.log))
    where
      empty : length_of s.log ≤ 0 → is_beginning (held_by c i) (held_by c a) ≡ true
      empty l = is_beginning_lem (record { long = omega arith; same = none (held_by c i) l })
        where
          none : (es : List Entry) → length es ≤ 0 → take (length es) (held_by c a) ≡ es
          none [] k = refl
          none (x ∷ es) k = absurd (omega arith)

  -- a rollback's list is clear, but for the common beginning that has to cover the commit point
  other_clear : is_beginning (held_by c i) (held_by c a) ≡ false → (x : Bool) → leb s.head.commit (common s t) ≡ x
      → Clear (rules_of c (RollsBack i a)) ⊎ Broken (rules_of c (RollsBack i a)) BelowCommitPoint
  unfolding row_of
  other_clear e true q = inl (in_count h i li, (in_count h a la, (apart, (role, (le-leb 1 (length_of s.log) (other_some e), (lt-ltb _ _ low, (ap not e, (q, tt))))))))
  other_clear e false q =
      inr (later (in_count h i li) (later (in_count h a la) (later apart (later role (later (le-leb 1 (length_of s.log) (other_some e)) (later (lt-ltb _ _ low) (later (ap not e) (broken-here q))))))))

  -- so where a pull isn't clear a rollback is, or it gets refusal 9
  pub pull_or_roll : Clear (rules_of c (Pulls i a)) ⊎ (Clear (rules_of c (RollsBack i a)) ⊎ Broken (rules_of c (RollsBack i a)) BelowCommitPoint)
  pull_or_roll = go (is_beginning (held_by c i) (held_by c a)) refl
    where
      go : (b : Bool) → is_beginning (held_by c i) (held_by c a) ≡ b
          → Clear (rules_of c (Pulls i a)) ⊎ (Clear (rules_of c (RollsBack i a)) ⊎ Broken (rules_of c (RollsBack i a)) BelowCommitPoint)
      go true e = inl (begins_clear e)
      go false e = inr (other_clear e (leb s.head.commit (common s t)) refl)
