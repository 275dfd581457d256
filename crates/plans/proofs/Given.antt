-- What is given, of any record at all: frames that are done when they are run, or one refusal and no frame. Assumes nothing.
use mathlib.Core.Path.{◌≡◌, refl, ap, sym, ◌∙◌}
use mathlib.Core.Bool.{Bool, true, false, cond}
use mathlib.Core.List.{List, [], ◌∷◌}
use mathlib.Core.Logic.{◌⊎◌, inl, inr, ⊎_elim}
use Prim.Native.Nat.{ℕ}
use Rattle.base.proofs.Bools.{not_both}
use Rattle.cluster.specs.declared.Cluster.{Cluster}
use Rattle.steps.specs.declared.Answer.{Answer}
use Rattle.steps.specs.declared.Answer.TheVariants.{Done, Refused}
use Rattle.steps.specs.declared.Step.{Step}
use Rattle.steps.specs.Answers.{is_refused}
use Rattle.steps.proofs.Decided.{clear_or_broken, decided_clear, decided_broken}
use Rattle.rules.specs.Rules.{step_of}
use Rattle.plans.specs.declared.Planned.{Planned}
use Rattle.plans.specs.Moves.{NoneRefused, first_refused}
use Rattle.plans.specs.Plan.{plan_for}
use Rattle.plans.specs.Making.{no_frames, with_step, with_steps, frames_by, plan_rules, planned_of}

first_none : (c : Cluster) (ss : List Step) → is_refused (first_refused c ss) ≡ false → NoneRefused c ss
first_none c [] e = tt
first_none c (s ∷ ss) e = go (is_refused (step_of c s).answer) refl (first_none (step_of c s).cluster ss) e
  where
    go : (b : Bool) → is_refused (step_of c s).answer ≡ b → (is_refused (first_refused (step_of c s).cluster ss) ≡ false → NoneRefused (step_of c s).cluster ss)
        → is_refused (cond b (step_of c s).answer (first_refused (step_of c s).cluster ss)) ≡ false → NoneRefused c (s ∷ ss)
    go true q more f = not_both (is_refused (step_of c s).answer) q f
    go false q more f = (q, more f)

steps_answer : (p : Planned) (ss : List Step) → (with_steps p ss).answer ≡ p.answer
steps_answer p [] = refl
steps_answer p (s ∷ ss) = steps_answer (with_step p s) ss

module _ (c : Cluster) (key value : ℕ) where
  -- either none of the steps is refused, and that is the answer; or there are no frames, and the answer is a refusal
  abbrev Either : Type 0
  Either =
      (NoneRefused c (plan_for c key value) × ((planned_of c key value).answer ≡ Done))
      ⊎ ((a : Answer) × (is_refused a ≡ true) × (planned_of c key value ≡ no_frames a))

  either : Either
  unfolding planned_of frames_by
  either =
      ⊎_elim (λ k. all (is_refused first) refl (decided_clear (λ r. no_frames (Refused r)) _ (plan_rules c key value) k))
      (λ b. inr (Refused b.0, refl, decided_broken (λ r. no_frames (Refused r)) _ b.1)) (clear_or_broken (plan_rules c key value))
    where
      first : Answer
      first = first_refused c (plan_for c key value)

      all : (b : Bool) → is_refused first ≡ b → planned_of c key value ≡ frames_by first (no_frames Done) (plan_for c key value) → Either
      all true e q = inr (first, e, q ∙ rw e)
      all false e q =
          let z : planned_of c key value ≡ with_steps (no_frames Done) (plan_for c key value) = q ∙ rw e in
          inl (first_none c (plan_for c key value) e, ap (λ (p : Planned). p.answer) z ∙ steps_answer (no_frames Done) (plan_for c key value))

  pub frames_done : (planned_of c key value).answer ≡ Done → NoneRefused c (plan_for c key value)
  frames_done e = ⊎_elim (λ n. n.0) (λ x. not_both (is_refused x.0) x.1 (ap is_refused (sym (ap (λ (p : Planned). p.answer) x.2) ∙ e))) either

  pub refused_empty : is_refused (planned_of c key value).answer ≡ true → planned_of c key value ≡ no_frames (planned_of c key value).answer
  refused_empty e =
      ⊎_elim (λ n. not_both (is_refused (planned_of c key value).answer) e (ap is_refused n.1))
      (λ x. x.2 ∙ ap no_frames (sym (ap (λ (p : Planned). p.answer) x.2))) either
