-- Laws of a step that is tried, of a copy, and of moves in turn. Assumes nothing.
use mathlib.Core.Path.{◌≡◌, refl, ap, sym, ◌∙◌}
use mathlib.Core.Bool.{Bool, true, false, cond}
use mathlib.Core.List.{List, [], ◌∷◌, ◌++◌}
use Prim.Native.Nat.{ℕ, suc, ◌+◌, ◌-◌, ◌≤◌, ◌<◌}
use native.Mathlib.Omega.{arith}
use lib.Dec.{leb, ltb}
use lib.ListN.{set}
use borrow.Author.Tests.{le-leb, lt-leb}
use Rattle.base.proofs.Bools.{or_left, or_right}
use Rattle.cluster.specs.declared.Cluster.{Cluster}
use Rattle.steps.specs.declared.Frame.{Frame}
use Rattle.steps.specs.declared.Outcome.{Outcome}
use Rattle.steps.specs.declared.Step.{Step}
use Rattle.steps.specs.declared.Step.TheVariants.{Pulls, RollsBack}
use Rattle.steps.specs.Answers.{is_refused}
use Rattle.steps.specs.Fields.{frame_for}
use Rattle.rules.specs.Rules.{step_of}
use Rattle.plans.specs.declared.Planned.{Planned}
use Rattle.plans.specs.declared.Work.{Work}
use Rattle.plans.specs.Moves.{Move, turns, other}
use Rattle.plans.specs.Plan.{copies}
use Rattle.plans.specs.Making.{most_frames, no_frames}
use Rattle.plans.specs.Working.{is_over, tried_of, work_of}

module _ (w : Work) (s : Step) where
  pub tried_over : is_refused w.plan.answer ≡ true → w ≡ tried_of w s
  unfolding tried_of is_over
  tried_over e = rw (or_left _ (leb most_frames w.plan.count) e)

  pub tried_full : most_frames ≤ w.plan.count → w ≡ tried_of w s
  unfolding tried_of is_over
  tried_full h = rw (or_right (is_refused w.plan.answer) _ (le-leb most_frames w.plan.count h))

  module _ (live : is_refused w.plan.answer ≡ false) (room : w.plan.count < most_frames) (o : Outcome) (is : o ≡ step_of w.cluster s) where
    pub tried_refused : is_refused o.answer ≡ true → (p : Planned) → p ≡ no_frames o.answer → ◌≡◌ {A = Work} (record { cluster = w.cluster; plan = p }) (tried_of w s)
    unfolding tried_of is_over
    tried_refused e p q = rw (live, lt-leb most_frames w.plan.count room, ← is, e, q)

    pub tried_done : is_refused o.answer ≡ false → (f : Frame) → f ≡ frame_for s
        → ◌≡◌ {A = Work} (record { cluster = o.cluster; plan = record { frames = set w.plan.frames w.plan.count f; count = w.plan.count + 1; answer = w.plan.answer } }) (tried_of w s)
    unfolding tried_of is_over
    tried_done e f q = rw (live, lt-leb most_frames w.plan.count room, ← is, e, q)

-- ---- a copy that is tried

module _ (a b : ℕ) (c : Cluster) (o : Outcome) (is : o ≡ step_of c (Pulls a b)) (r : Bool) (says : r ≡ is_refused o.answer) where
  pub copies_rolls : r ≡ true → RollsBack a b ≡ copies a b c
  copies_rolls e = rw (ap (λ (x : Outcome). is_refused x.answer) (sym is) ∙ sym says ∙ e)

  pub copies_pulls : r ≡ false → Pulls a b ≡ copies a b c
  copies_pulls e = rw (ap (λ (x : Outcome). is_refused x.answer) (sym is) ∙ sym says ∙ e)

-- ---- moves in turn

pub work_more : (m : ℕ → Move) (w v : Work) (k n : ℕ) → k < n → work_of w (turns m k (n - k)) ≡ v → work_of (tried_of w (m k w.cluster)) (turns m (k + 1) (n - (k + 1))) ≡ v
work_more m w v k n l e =
    let z : n - k ≡ suc (n - (k + 1)) = omega arith in
    let y : k + 1 ≡ suc k = omega arith in
    let f : work_of w (turns m k (suc (n - (k + 1)))) ≡ v = ap (λ (x : ℕ). work_of w (turns m k x)) (sym z) ∙ e in
    ap (λ (x : ℕ). work_of (tried_of w (m k w.cluster)) (turns m x (n - (k + 1)))) y ∙ f

pub work_none : (m : ℕ → Move) (w v : Work) (k n : ℕ) → n ≤ k → k ≤ n → work_of w (turns m k (n - k)) ≡ v → w ≡ v
work_none m w v k n l h e = let z : n - k ≡ 0 = omega arith in ap (λ (x : ℕ). work_of w (turns m k x)) (sym z) ∙ e

pub work_start : (m : ℕ → Move) (w : Work) (n : ℕ) → work_of w (turns m 0 (n - 0)) ≡ work_of w (turns m 0 n)
work_start m w n = let z : n - 0 ≡ n = omega arith in ap (λ (x : ℕ). work_of w (turns m 0 x)) z

pub work_both : (w : Work) (ms ns : List Move) → work_of w (ms ++ ns) ≡ work_of (work_of w ms) ns
work_both w [] ns = refl
work_both w (m ∷ ms) ns = work_both (tried_of w (m w.cluster)) ms ns

-- ---- the servers but a

pub other_small : (a k : ℕ) → k < 7 → other a k < 256
unfolding other
other_small a k l = go (ltb k a)
  where
    go : (b : Bool) → cond b k (suc k) < 256
    go true = omega arith
    go false = omega arith
