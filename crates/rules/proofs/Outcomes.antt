-- A step is done exactly where no rule is broken, and otherwise refused by the first that is; a refusal changes nothing. Assumes nothing.
use mathlib.Core.Path.{◌≡◌, refl, ap, sym, ◌∙◌, subst}
use mathlib.Core.Bool.{Bool, true, false, ◌||◌}
use mathlib.Core.Logic.{◌⊎◌, inl, inr, ⊎_elim}
use Rattle.base.proofs.Bools.{not_both}
use Rattle.cluster.specs.declared.Cluster.{Cluster}
use Rattle.cluster.specs.WellFormed.{well_formed}
use Rattle.steps.specs.declared.Answer.{Answer}
use Rattle.steps.specs.declared.Answer.TheVariants as A
use Rattle.steps.specs.declared.Outcome.{Outcome}
use Rattle.steps.specs.declared.Refusal.{Refusal}
use Rattle.steps.specs.declared.Refusal.TheVariants.{IllFormed}
use Rattle.steps.specs.declared.Step.{Step}
use Rattle.steps.specs.declared.Step.TheVariants.{Start, Elect, StepDown, Hears, Pulls, RollsBack, Writes, Advances, WallClock, Restarts, LocalRead, MajorityRead, Acknowledged, ClocksAgree, WritesNothing, NewestRead, TakesReport}
use Rattle.steps.specs.Answers.{refusing_all, is_refused}
use Rattle.steps.specs.Reasons.{Clear, Broken}
use Rattle.steps.proofs.Decided.{clear_or_broken, decided_clear, decided_broken}
use Rattle.rules.specs.Rules.{row_of, rules_of, done_of, core_of, is_start, step_of}
use Rattle.rules.specs.Statements.{Why, ill_formed, broken}

-- ---- done or refused

pub step_done : (c : Cluster) (s : Step) → (is_start s || well_formed c) ≡ true → Clear (rules_of c s) → step_of c s ≡ done_of c s
unfolding step_of core_of
step_done c s seen k = rw seen (decided_clear (refusing_all c) (done_of c s) (rules_of c s) k)

pub step_refused : (c : Cluster) (s : Step) (r : Refusal) → (is_start s || well_formed c) ≡ true → Broken (rules_of c s) r → step_of c s ≡ refusing_all c r
unfolding step_of core_of
step_refused c s r seen b = rw seen (decided_broken (refusing_all c) (done_of c s) b)

pub step_ill_formed : (c : Cluster) (s : Step) → (is_start s || well_formed c) ≡ false → step_of c s ≡ refusing_all c IllFormed
unfolding step_of
step_ill_formed c s e = rw e

-- a step that is done, with all that let it be done
pub record StepDone (c : Cluster) (s : Step) : Type 0 where
  pub seen : (is_start s || well_formed c) ≡ true
  pub clear : Clear (rules_of c s)
  pub is : step_of c s ≡ done_of c s

pub record StepRefused (c : Cluster) (s : Step) : Type 0 where
  pub refusal : Refusal
  pub why : Why c s refusal
  pub is : step_of c s ≡ refusing_all c refusal

pub step_cases : (c : Cluster) (s : Step) → StepDone c s ⊎ StepRefused c s
step_cases c s = go (is_start s || well_formed c) refl (clear_or_broken (rules_of c s))
  where
    go : (b : Bool) → (is_start s || well_formed c) ≡ b → Clear (rules_of c s) ⊎ ((r : Refusal) × Broken (rules_of c s) r) → StepDone c s ⊎ StepRefused c s
    go true e (inl k) = inl (record { seen = e; clear = k; is = step_done c s e k })
    go true e (inr b) = inr (record { refusal = b.0; why = broken e b.1; is = step_refused c s b.0 e b.1 })
    go false e w = inr (record { refusal = IllFormed; why = ill_formed e; is = step_ill_formed c s e })

-- ---- a refusal changes nothing

-- what is done answers no refusal
pub done_not_refused : (c : Cluster) (s : Step) → is_refused (done_of c s).answer ≡ false
unfolding row_of
done_not_refused c (Start n f) = refl
done_not_refused c (Elect a m) = refl
done_not_refused c (StepDown a) = refl
done_not_refused c (Hears a b) = refl
done_not_refused c (Pulls a b) = refl
done_not_refused c (RollsBack a b) = refl
done_not_refused c (Writes a key value client) = refl
done_not_refused c (Advances a) = refl
done_not_refused c (WallClock a) = refl
done_not_refused c (Restarts a) = refl
done_not_refused c (LocalRead a key asked) = refl
done_not_refused c (MajorityRead a key asked) = refl
done_not_refused c (Acknowledged a k n term) = refl
done_not_refused c ClocksAgree = refl
done_not_refused c (WritesNothing a) = refl
done_not_refused c (NewestRead a key n term) = refl
done_not_refused c (TakesReport a) = refl

-- a step that answers a refusal is the refused one
pub done_no_refusal : (c : Cluster) (s : Step) (r : Refusal) → (done_of c s).answer ≡ A.Refused r → ⊥
done_no_refusal c s r e = not_both (is_refused (done_of c s).answer) (ap is_refused e) (done_not_refused c s)

refused_case : (c : Cluster) (s : Step) (r : Refusal) → (step_of c s).answer ≡ A.Refused r → StepRefused c s
refused_case c s r e = ⊎_elim (λ d. absurd (done_no_refusal c s r (sym (ap (λ (o : Outcome). o.answer) d.is) ∙ e))) (λ d. d) (step_cases c s)

-- the record after a refusal is the record before, whatever that is
pub refused_unchanged : (c : Cluster) (s : Step) (r : Refusal) → (step_of c s).answer ≡ A.Refused r → (step_of c s).cluster ≡ c
refused_unchanged c s r e = ap (λ (o : Outcome). o.cluster) (refused_case c s r e).is

-- and a refusal is given only for its reason
pub refused_why : (c : Cluster) (s : Step) (r : Refusal) → (step_of c s).answer ≡ A.Refused r → Why c s r
refused_why c s r e =
    let d = refused_case c s r e in
    let q : ◌≡◌ {A = Answer} (A.Refused d.refusal) (A.Refused r) = sym (ap (λ (o : Outcome). o.answer) d.is) ∙ e in
    let z : d.refusal ≡ r = cc in
    subst (Why c s) z d.why

-- ---- an answer that is no refusal

-- a step that is done and answers so, with all that let it be done
pub record DoneWith (c : Cluster) (s : Step) (a : Answer) : Type 0 where
  pub seen : (is_start s || well_formed c) ≡ true
  pub clear : Clear (rules_of c s)
  pub is : step_of c s ≡ done_of c s
  pub answers : (done_of c s).answer ≡ a

pub answered_done : (c : Cluster) (s : Step) {a : Answer} → (step_of c s).answer ≡ a → is_refused a ≡ false → DoneWith c s a
answered_done c s {a} e told = ⊎_elim done (λ d. absurd (refused d)) (step_cases c s)
  where
    as_told : {o : Outcome} → step_of c s ≡ o → o.answer ≡ a
    as_told q = sym (ap (λ (o : Outcome). o.answer) q) ∙ e

    done : StepDone c s → DoneWith c s a
    done d = record { seen = d.seen; clear = d.clear; is = d.is; answers = as_told d.is }

    refused : StepRefused c s → ⊥
    refused d = not_both (is_refused a) (ap is_refused (sym (as_told d.is))) told
