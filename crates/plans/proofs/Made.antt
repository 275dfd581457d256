-- What is made of moves: the frames of their steps where none is refused, and otherwise none and the refusal of the first that is; and how many
-- the plan has. Assumes nothing.
use mathlib.Core.Path.{◌≡◌, refl, ap, sym, ◌∙◌}
use mathlib.Core.Bool.{Bool, true, false, cond}
use mathlib.Core.List.{List, [], ◌∷◌}
use Prim.Native.Nat.{ℕ, zero, suc, ◌+◌, ◌*◌, ◌≤◌}
use native.Mathlib.Omega.{arith}
use lib.Dec.{ltb}
use lib.ListN.{length, length-append}
use Rattle.clock.specs.Times.{zero_time}
use Rattle.cluster.specs.declared.Cluster.{Cluster}
use Rattle.cluster.specs.Servers.{server_at}
use Rattle.steps.specs.declared.Answer.{Answer}
use Rattle.steps.specs.declared.Answer.TheVariants.{Done}
use Rattle.steps.specs.declared.Outcome.{Outcome}
use Rattle.steps.specs.declared.Step.{Step}
use Rattle.steps.specs.declared.Step.TheVariants.{Elect, Hears, Writes, Advances, TakesReport}
use Rattle.steps.specs.Answers.{is_refused}
use Rattle.steps.specs.Fields.{frame_for}
use Rattle.rules.specs.Rules.{step_of}
use Rattle.plans.specs.declared.Work.{Work}
use Rattle.plans.specs.Moves.{Move, steps_by, turns, once, one_by_one, first_refused, other}
use Rattle.plans.specs.Plan.{others, chosen, newest_server, all_voters, hearing, copies, plan_lines, plan_for}
use Rattle.plans.specs.Making.{most_frames, no_frames, with_step, frames_by}
use Rattle.plans.specs.Working.{tried_of, work_of, begun_of}
use Rattle.plans.proofs.Trying.{tried_over, tried_refused, tried_done}

-- a plan that is refused stays so
over : (w : Work) (ms : List Move) → is_refused w.plan.answer ≡ true → work_of w ms ≡ w
over w [] e = refl
over w (m ∷ ms) e =
    let q = tried_over w (m w.cluster) e in
    ap (λ (x : Work). work_of x ms) (sym q) ∙ over w ms e

pub work_made : (w : Work) (ms : List Move) → is_refused w.plan.answer ≡ false → w.plan.count + length ms ≤ most_frames
    → (work_of w ms).plan ≡ frames_by (first_refused w.cluster (steps_by w.cluster ms)) w.plan (steps_by w.cluster ms)
unfolding frames_by
work_made w [] live room = refl
work_made w (m ∷ ms) live room = go (is_refused first) refl (work_made next ms live (omega arith))
  where
    s : Step
    s = m w.cluster

    o : Outcome
    o = step_of w.cluster s

    next : Work
    next = record { cluster = o.cluster; plan = with_step w.plan s }

    rest : List Step
    rest = steps_by o.cluster ms

    first : Answer
    first = o.answer

    go : (b : Bool) → is_refused first ≡ b → (work_of next ms).plan ≡ frames_by (first_refused o.cluster rest) (with_step w.plan s) rest
        → (work_of (tried_of w s) ms).plan ≡ frames_by (cond b first (first_refused o.cluster rest)) w.plan (s ∷ rest)
    go true q more =
        let v : Work = record { cluster = w.cluster; plan = no_frames first } in
        let z : v ≡ tried_of w s = tried_refused w s live (omega arith) o refl q _ refl in
        ap (λ (x : Work). (work_of x ms).plan) (sym z) ∙ ap (λ (x : Work). x.plan) (over v ms q) ∙ rw q
    go false q more =
        let z : next ≡ tried_of w s = tried_done w s live (omega arith) o refl q (frame_for s) refl in
        ap (λ (x : Work). (work_of x ms).plan) (sym z) ∙ more

-- ---- how many they are

pub length_steps : (c : Cluster) (ms : List Move) → length (steps_by c ms) ≡ length ms
length_steps c [] = refl
length_steps c (m ∷ ms) = ap suc (length_steps (step_of c (m c)).cluster ms)

length_turns : (m : ℕ → Move) (j k : ℕ) → length (turns m j k) ≡ k
length_turns m j zero = refl
length_turns m j (suc k) = ap suc (length_turns m (suc j) k)

hearing_short : (c : Cluster) (a : ℕ) → length (hearing c a) ≤ 1
unfolding hearing
hearing_short c a = go (ltb (server_at c a).head.term (server_at c (newest_server c)).head.term)
  where
    go : (x : Bool) → length (cond x (once (λ d. Hears a (newest_server c))) []) ≤ 1
    go true = omega arith
    go false = omega arith

pub lines_short : (c : Cluster) (a key value : ℕ) → length (one_by_one (plan_lines c a key value)) ≤ 3 * others c + 4
lines_short c a key value =
    let m = others c in
    let last : List (List Move) = once (λ d. Advances a) ∷ turns (λ k d. Hears (other a k) a) 0 m ∷ [] in
    let more : List (List Move) = turns (λ k d. TakesReport a) 0 m ∷ last in
    let copying = turns (λ k. copies (other a k) a) 0 m in
    omega (
      arith,
      hearing_short c a,
      length-append (hearing c a) (one_by_one (once (λ d. Elect a (all_voters c)) ∷ once (λ d. Writes a key value zero_time) ∷ copying ∷ more)),
      length-append copying (one_by_one more),
      length-append (turns (λ k d. TakesReport a) 0 m) (one_by_one last),
      length-append (turns (λ k d. Hears (other a k) a) 0 m) [],
      length_turns (λ k. copies (other a k) a) 0 m,
      length_turns (λ k d. TakesReport a) 0 m,
      length_turns (λ k d. Hears (other a k) a) 0 m,
    )

-- the plan, as it is worked out
pub plan_made : (c : Cluster) (key value : ℕ)
    → (work_of (begun_of c) (one_by_one (plan_lines c (chosen c) key value))).plan
    ≡ frames_by (first_refused c (plan_for c key value)) (no_frames Done) (plan_for c key value)
plan_made c key value =
    work_made (begun_of c) (one_by_one (plan_lines c (chosen c) key value)) refl (omega (arith, lines_short c (chosen c) key value))
