-- Refusal 9 is given to no line: a record comes from the last start that succeeded, or there was none. Before the first start every line is refused.
-- Assumes nothing.
use mathlib.Core.Path.{◌≡◌, refl, ap, sym, ◌∙◌, subst}
use mathlib.Core.Logic.{◌≢◌, ◌⊎◌, inl, inr, ⊎_elim}
use mathlib.Core.Bool.{Bool, true, false, ◌||◌}
use mathlib.Core.List.{List, []}
use Prim.Native.Nat.{ℕ}
use native.Mathlib.Omega.{arith}
use Rattle.base.proofs.Bools.{or_cases, not_both}
use Rattle.cluster.specs.declared.Cluster.{Cluster}
use Rattle.cluster.specs.Servers.{zero_cluster}
use Rattle.cluster.specs.WellFormed.{size_ok, well_formed}
use Rattle.steps.specs.declared.Answer.TheVariants.{Refused}
use Rattle.steps.specs.declared.Outcome.{Outcome}
use Rattle.steps.specs.declared.Refusal.{Refusal}
use Rattle.steps.specs.declared.Refusal.TheVariants.{NotAFrame, OutOfRange, BelowCommitPoint}
use Rattle.steps.specs.declared.Step.{Step}
use Rattle.steps.specs.declared.Step.TheVariants.{Start}
use Rattle.steps.specs.Answers.{refusing_all}
use Rattle.steps.specs.Ranges.{FitsStep}
use Rattle.steps.specs.Reasons.{Clear, Broken, here, later}
use Rattle.wholes.specs.Starts.{start_rules}
use Rattle.rules.specs.Rules.{row_of, rules_of, is_start, step_of}
use Rattle.rules.specs.Statements.{Why, ill_formed, broken}
use Rattle.rules.proofs.Outcomes.{StepDone, step_done, step_cases, refused_why}
use Rattle.std.proofs.Common.{Option, Some, None}
use Rattle.frames.specs.Steps.{read_step}
use Rattle.frames.proofs.Steps.{read_step_fits}
use Rattle.replay.specs.Texts.{respond, answer_to}
use Rattle.promises.specs.Runs.{comes, FromFresh}
use Rattle.promises.specs.Texts.{Begins, FreshOf}
use Rattle.promises.proofs.Turns.{leads_next, fresh_on}
use Rattle.promises.proofs.Demand3.{demand_3}
use Rattle.promises.proofs.Starts.{start_of, answer_is, answer_of, clear_fresh, opening_of}

-- ---- where a record comes from

-- the record of a new program, or one that comes from fresh
abbrev pub Came : Cluster → Type 0
Came c = (c ≡ zero_cluster) ⊎ FromFresh c

-- before the first start every step but a start is refused
not_formed : well_formed zero_cluster ≡ false
unfolding size_ok well_formed
not_formed = refl

only_start : (s : Step) → (is_start s || well_formed zero_cluster) ≡ true → is_start s ≡ true
only_start s e = ⊎_elim (λ y. y) (λ w. not_both (well_formed zero_cluster) w not_formed) (or_cases (is_start s) (well_formed zero_cluster) e)

-- a start that succeeds begins anew, any other step that is done goes on, and a refused one changes nothing
came_fresh : {c : Cluster} {n f : ℕ} → FreshOf c n f → Came c
came_fresh o =
    inr (record { opening = opening_of o; leads = record { events = []; onward = tt; ends = sym o.is } })

came_start : (c : Cluster) (s : Step) (n f : ℕ) → s ≡ Start n f → FitsStep s → StepDone c s → Came (step_of c s).cluster
unfolding row_of
came_start c s n f e fits d =
    came_fresh
    (subst (λ (t : Step). FreshOf (step_of c t).cluster n f) (sym e)
    (clear_fresh c n f (subst FitsStep e fits) (subst (λ (t : Step). Clear (rules_of c t)) e d.clear)))

came_done : (c : Cluster) (s : Step) → FitsStep s → StepDone c s → Came c → Came (step_of c s).cluster
came_done c s f d = go (is_start s) refl
  where
    go : (b : Bool) → is_start s ≡ b → Came c → Came (step_of c s).cluster
    go true e m = let t = start_of s e in came_start c s t.0 t.1 t.2 f d
    go false e (inl z) = not_both (is_start s) (only_start s (rw z at d.seen)) e
    go false e (inr m) = inr (fresh_on m (leads_next (comes s) (f, λ y. not_both (is_start s) y e)))

came_step : (c : Cluster) (s : Step) → FitsStep s → Came c → Came (step_of c s).cluster
came_step c s f m =
    ⊎_elim (λ d. came_done c s f d m) (λ d. subst Came (sym (ap (λ (o : Outcome). o.cluster) d.is)) m) (step_cases c s)

-- ---- refusal 9

-- a start gives refusal 3 alone
third : (n f : ℕ) {r : Refusal} → Broken (start_rules n f) r → r ≡ OutOfRange
third n f (here e) = refl
third n f (later _ k) = elim k [ ]

before_start : (s : Step) → (step_of zero_cluster s).answer ≢ Refused BelowCommitPoint
unfolding row_of
before_start s nine = go (refused_why zero_cluster s BelowCommitPoint nine) refl
  where
    go : {r : Refusal} → Why zero_cluster s r → r ≡ BelowCommitPoint → ⊥
    go (ill_formed e) q = let z : ◌≡◌ {A = ℕ} 0 1 = cc in omega arith
    go {r} (broken e b) q =
        let t = start_of s (only_start s e) in
        let q' : r ≡ OutOfRange = third t.0 t.1 (subst (λ (x : Step). Broken (rules_of zero_cluster x) r) t.2 b) in
        let z : ◌≡◌ {A = ℕ} 0 1 = cc in omega arith

step_9 : (c : Cluster) (s : Step) → Came c → (step_of c s).answer ≢ Refused BelowCommitPoint
step_9 c s (inl z) = rw z (before_start s)
step_9 c s (inr m) = (demand_3 c c m (record { events = []; onward = tt; ends = refl })).never_9 s

-- ---- along a text

pub came_line : (c : Cluster) (l : List ℕ) → Came c → Came (answer_to c l).cluster
unfolding answer_to respond
came_line c l m = go (read_step l) refl
  where
    go : (r : Option Step) → read_step l ≡ r → Came (respond c r).cluster
    go (Some s) e = came_step c s (read_step_fits l s e) m
    go None e = m

pub line_9 : (c : Cluster) (l : List ℕ) → Came c → (answer_to c l).answer ≢ Refused BelowCommitPoint
unfolding answer_to respond
line_9 c l m = go (read_step l)
  where
    go : (r : Option Step) → (respond c r).answer ≢ Refused BelowCommitPoint
    go (Some s) = step_9 c s m
    go None = λ e. let z : ◌≡◌ {A = ℕ} 0 1 = cc in omega arith

-- ---- before the first start

-- a line that begins no cluster there is refused: it is no frame, no start, or a start that is refused
pub refused_line : (l : List ℕ) → ((n f : ℕ) → Begins zero_cluster l n f → ⊥) → (r : Refusal) × (answer_to zero_cluster l ≡ refusing_all zero_cluster r)
unfolding answer_to respond row_of
refused_line l none = go (read_step l) refl
  where
    done_begins : (s : Step) → read_step l ≡ Some s → StepDone zero_cluster s → ⊥
    done_begins s e d =
        let m = start_of s (only_start s d.seen) in
        let e' = e ∙ ap Some m.2 in
        none m.0 m.1 (record { reads = e'; done = answer_of (answer_is zero_cluster l (Start m.0 m.1) e') ∙ ap (λ (o : Outcome). o.answer) (step_done zero_cluster (Start m.0 m.1) refl (subst (λ (t : Step). Clear (rules_of zero_cluster t)) m.2 d.clear)) })

    go : (r : Option Step) → read_step l ≡ r → (q : Refusal) × (respond zero_cluster r ≡ refusing_all zero_cluster q)
    go (Some s) e = ⊎_elim (λ d. absurd (done_begins s e d)) (λ d. (d.refusal, d.is)) (step_cases zero_cluster s)
    go None e = (NotAFrame, refl)
