-- Each answer of the check is given exactly when what it says holds: accepted where every record obeys the rules, a record named where
-- it is the first that breaks one, and each refusal just where it applies. Assumes nothing.
use mathlib.Core.Path.{◌≡◌, refl, ap, sym, subst, ◌∙◌}
use mathlib.Core.List.{List}
use mathlib.Core.Bool.{Bool, true, false, cond}
use mathlib.Core.Logic.{inl, inr, ⊎_elim}
use native.Mathlib.Nat.{le_of_lt}
use native.Mathlib.Omega.{arith}
use lib.ListN.{length}
use Rattle.base.proofs.Bools.{not_both}
use Rattle.base.proofs.Facts.{lt_or_le}
use Rattle.steps.specs.declared.Refusal.{Refusal}
use Rattle.steps.specs.declared.Refusal.TheVariants.{IllFormed, OutOfRange}
use Rattle.histories.specs.declared.PhoneRecord.{PhoneRecord}
use Rattle.histories.specs.declared.Checked.{Checked}
use Rattle.histories.specs.declared.Checked.TheVariants.{Accepted, Breaks, Refused}
use Rattle.histories.specs.Committed.{Committed, entries_of, could_hold}
use Rattle.histories.specs.Checking.{obeys_at, first_breaker, list_ok, checked_of, check_of}
use Rattle.histories.proofs.Breakers.{Found, breaker_found}
use Rattle.histories.specs.Obeying.{LogFits, ListFits, Refuses, CheckSays}
use Rattle.histories.proofs.Judged.{obeys_fact, fact_obeys, log_fits, fits_log, list_fits, fits_list}

module _ (g : Committed) (rs : List PhoneRecord) where
  -- what the search finds, where log and list are in range
  found : (a : Checked) → LogFits g → ListFits rs → Found (length rs) (obeys_at (entries_of g) rs) a → CheckSays g rs a
  found Accepted log list f = record { log = log; list = list; all = λ i l. obeys_fact (entries_of g) rs i (le_of_lt l) (f i l) }
  found (Breaks n) log list f =
      record {
        log = log;
        list = list;
        below = f.below;
        breaks = λ o. not_both (obeys_at (entries_of g) rs n) (fact_obeys (entries_of g) rs n (le_of_lt f.below) (list.each n f.below) o) f.fails;
        before = λ i l. let b = f.below in obeys_fact (entries_of g) rs i (omega arith) (f.before i l);
      }
  found (Refused x) log list f = absurd f

  -- the answer says what holds
  says : CheckSays g rs (check_of rs g)
  unfolding checked_of
  says = go (could_hold g) (list_ok rs (length rs)) refl refl
    where
      go : (h l : Bool) → could_hold g ≡ h → list_ok rs (length rs) ≡ l
          → CheckSays g rs (cond h (cond l (first_breaker (length rs) (obeys_at (entries_of g) rs)) (Refused OutOfRange)) (Refused IllFormed))
      go true true a b = found (first_breaker (length rs) (obeys_at (entries_of g) rs)) (log_fits g a) (list_fits rs b) (breaker_found (length rs) (obeys_at (entries_of g) rs))
      go true false a b = inr (refl, log_fits g a, λ f. not_both (list_ok rs (length rs)) (fits_list rs f) b)
      go false l a b = inl (refl, λ f. not_both (could_hold g) (fits_log g f) a)

  -- no two answers say what holds
  refusal_apart : {A : Type 0} (x : Refusal) → LogFits g → ListFits rs → Refuses g rs x → A
  refusal_apart x log list = ⊎_elim (λ r. absurd (r.1 log)) (λ r. absurd (r.2 list))

  one_meaning : (a b : Checked) → CheckSays g rs a → CheckSays g rs b → a ≡ b
  one_meaning Accepted Accepted p q = refl
  one_meaning Accepted (Breaks n) p q = absurd (q.breaks (p.all n q.below))
  one_meaning Accepted (Refused x) p q = refusal_apart x p.log p.list q
  one_meaning (Breaks n) Accepted p q = absurd (p.breaks (q.all n p.below))
  one_meaning (Breaks n) (Breaks m) p q =
      ⊎_elim (λ l. absurd (p.breaks (q.before n l)))
      (λ l. ⊎_elim (λ k. absurd (q.breaks (p.before m k))) (λ k. let e : n ≡ m = omega arith in ap Breaks e) (lt_or_le m n)) (lt_or_le n m)
  one_meaning (Breaks n) (Refused x) p q = refusal_apart x p.log p.list q
  one_meaning (Refused x) Accepted p q = refusal_apart x q.log q.list p
  one_meaning (Refused x) (Breaks n) p q = refusal_apart x q.log q.list p
  one_meaning (Refused x) (Refused y) p q =
      ⊎_elim (λ r. ⊎_elim (λ s. ap Refused (r.0 ∙ sym s.0)) (λ s. absurd (r.1 s.1)) q)
      (λ r. ⊎_elim (λ s. absurd (s.1 r.1)) (λ s. ap Refused (r.0 ∙ sym s.0)) q) p

  pub given_only : (a : Checked) → check_of rs g ≡ a → CheckSays g rs a
  given_only a e = subst (CheckSays g rs) e says

  pub given_when : (a : Checked) → CheckSays g rs a → check_of rs g ≡ a
  given_when a s = one_meaning (check_of rs g) a says s
