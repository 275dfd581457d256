-- The lines as the code has them, who leads, who has the greatest term, and what has to hold before a plan is made. Assumes nothing.
use mathlib.Core.Path.{◌≡◌, ap, sym, ◌∙◌}
use mathlib.Core.Bool.{Bool, true, false}
use mathlib.Core.List.{[]}
use Prim.Native.Nat.{ℕ, ◌≤◌, ◌<◌}
use native.Mathlib.Omega.{arith}
use borrow.Author.Tests.{le-leb, lt-leb, lt-ltb, le-ltb, leb-true, leb-false}
use Rattle.clock.specs.Times.{zero_time}
use Rattle.server_log.specs.Order.{highest_key}
use Rattle.cluster.specs.declared.Cluster.{Cluster}
use Rattle.cluster.specs.Servers.{most_servers, server_at}
use Rattle.cluster.specs.WellFormed.{well_formed}
use Rattle.steps.specs.declared.Answer.TheVariants.{Done, Refused}
use Rattle.steps.specs.declared.Refusal.TheVariants.{IllFormed, OutOfRange, LogFull, AtLimit}
use Rattle.steps.specs.declared.Step.TheVariants.{Elect, Hears, Writes, Advances, TakesReport}
use Rattle.plans.specs.declared.Work.{Work}
use Rattle.plans.specs.Moves.{turns, one_by_one, first_refused, other, best}
use Rattle.plans.specs.Plan.{others, not_older, chosen, copies, newest_server, all_voters, hearing, plan_lines, plan_for}
use Rattle.plans.specs.Making.{no_frames, frames_by, all_room, all_low, planned_of}
use Rattle.plans.specs.Working.{tried_of, work_of, begun_of, opened_of, closed_of}
use Rattle.plans.proofs.Best.{best_within}
use Rattle.plans.proofs.Trying.{work_both}
use Rattle.plans.proofs.Made.{plan_made}

-- ---- who leads

-- the best is among the seven
pub best_small : (h : ℕ → ℕ → Bool) (c : Cluster) → best h (others c) < most_servers
best_small h c = omega (arith, best_within h (others c))

-- ---- the first line

pub hearing_no : (c : Cluster) (a : ℕ) → not_older c a (newest_server c) ≡ true → begun_of c ≡ work_of (begun_of c) (hearing c a)
unfolding hearing not_older
hearing_no c a h =
    let l = leb-true (server_at c (newest_server c)).head.term (server_at c a).head.term h in
    rw (le-ltb (server_at c a).head.term (server_at c (newest_server c)).head.term l)

pub hearing_yes : (c : Cluster) (a : ℕ) → not_older c a (newest_server c) ≡ false → tried_of (begun_of c) (Hears a (newest_server c)) ≡ work_of (begun_of c) (hearing c a)
unfolding hearing not_older
hearing_yes c a h =
    let l = leb-false (server_at c (newest_server c)).head.term (server_at c a).head.term h in
    rw (lt-ltb (server_at c a).head.term (server_at c (newest_server c)).head.term l)

-- ---- all of them

pub lines_work : (c : Cluster) (a key value : ℕ) → work_of (begun_of c) (one_by_one (plan_lines c a key value)) ≡ closed_of (opened_of c a key value) a (others c)
unfolding closed_of opened_of
lines_work c a key value =
    let m = others c in
    let w = work_of (begun_of c) (hearing c a) in
    let v = tried_of (tried_of w (Elect a (all_voters c))) (Writes a key value zero_time) in
    let u = work_of v (turns (λ k. copies (other a k) a) 0 m) in
    let t = work_of u (turns (λ k d. TakesReport a) 0 m) in
    let s = tried_of t (Advances a) in
    work_both (begun_of c) (hearing c a) _
    ∙ work_both v (turns (λ k. copies (other a k) a) 0 m) _
    ∙ work_both u (turns (λ k d. TakesReport a) 0 m) _
    ∙ work_both s (turns (λ k d. Hears (other a k) a) 0 m) []

-- ---- before a plan is made

module _ (c : Cluster) (key value : ℕ) where
  pub planned_ill : well_formed c ≡ false → no_frames (Refused IllFormed) ≡ planned_of c key value
  unfolding planned_of
  planned_ill w = rw w

  module _ (w : well_formed c ≡ true) where
    pub planned_key : highest_key < key → no_frames (Refused OutOfRange) ≡ planned_of c key value
    unfolding planned_of
    planned_key k = rw (w, lt-leb key highest_key k)

    module _ (k : key ≤ highest_key) where
      pub planned_value : value < 1 → no_frames (Refused OutOfRange) ≡ planned_of c key value
      unfolding planned_of
      planned_value v = rw (w, le-leb key highest_key k, lt-leb 1 value v)

      module _ (v : 1 ≤ value) where
        pub planned_full : all_room c ≡ false → no_frames (Refused LogFull) ≡ planned_of c key value
        unfolding planned_of
        planned_full r = rw (w, le-leb key highest_key k, le-leb 1 value v, r)

        module _ (r : all_room c ≡ true) where
          pub planned_limit : all_low c ≡ false → no_frames (Refused AtLimit) ≡ planned_of c key value
          unfolding planned_of
          planned_limit l = rw (w, le-leb key highest_key k, le-leb 1 value v, r, l)

          module _ (l : all_low c ≡ true) where
            pub planned_is : planned_of c key value ≡ frames_by (first_refused c (plan_for c key value)) (no_frames Done) (plan_for c key value)
            unfolding planned_of
            planned_is = rw (w, le-leb key highest_key k, le-leb 1 value v, r, l)

            pub planned_made : (closed_of (opened_of c (chosen c) key value) (chosen c) (others c)).plan ≡ planned_of c key value
            planned_made = ap (λ (x : Work). x.plan) (sym (lines_work c (chosen c) key value)) ∙ plan_made c key value ∙ sym planned_is
