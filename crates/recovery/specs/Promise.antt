-- How to get going again: from every record that a run reaches, where no log is full and no number at its limit, the plan's steps are all done, and
-- afterwards the cluster is going; from every well-formed record the first that is refused gets refusal 9.
-- Assumes nothing.
use Rattle.std.specs.Prelude.{◌≡◌, ◌≢◌, ◌⊎◌, true, false, List, [], ◌∷◌, map, ℕ, ◌≤◌, ◌<◌, ◌*◌, length}
use Rattle.clock.specs.Times.{limit}
use Rattle.server_log.specs.declared.Entry.{Entry}
use Rattle.server_log.specs.Logs.{live}
use Rattle.server_log.specs.Order.{highest_key}
use Rattle.cluster.specs.declared.Cluster.{Cluster}
use Rattle.cluster.specs.Ranges.{Fits}
use Rattle.cluster.specs.Servers.{server_at}
use Rattle.cluster.specs.WellFormed.{well_formed}
use Rattle.steps.specs.declared.Answer.TheVariants.{Done, Refused}
use Rattle.steps.specs.declared.Refusal.TheVariants.{BelowCommitPoint}
use Rattle.steps.specs.Answers.{is_refused}
use Rattle.frames.specs.Steps.{write_step}
use Rattle.replay.specs.Texts.{answer_to, record_after}
use Rattle.plans.specs.Moves.{NoneRefused}
use Rattle.plans.specs.Plan.{chosen, plan_for}
use Rattle.plans.specs.Making.{no_frames, with_steps, all_room, all_low, planned_of}
use Rattle.promises.specs.Runs.{Event, comes, run_to, Onward, FromFresh}
use Rattle.promises.specs.Demand3.{entry_of}

-- ---- where the cluster is going

-- the entries that server i holds; servers hold the same entries
abbrev pub held_by : Cluster → ℕ → List Entry
held_by c i = live (server_at c i).log

abbrev pub HoldSame : Cluster → ℕ → ℕ → Type 0
HoldSame c i j = held_by c i ≡ held_by c j

-- server a is primary, alone, in the highest term; all hold the same entries, and every commit point covers all of them; the last is the write
pub record Going (c : Cluster) (a key value : ℕ) : Type 0 where
  pub counted : a < c.count
  pub primary : (server_at c a).head.primary ≡ true
  pub alone : (i : ℕ) → i < c.count → i ≢ a → (server_at c i).head.primary ≡ false
  pub highest : (i : ℕ) → i < c.count → (server_at c i).head.term ≤ (server_at c a).head.term
  pub same : (i : ℕ) → i < c.count → HoldSame c i a
  pub covered : (i : ℕ) → i < c.count → (server_at c i).head.commit ≡ length (held_by c i)
  pub wrote_key : (entry_of c a (length (held_by c a))).key ≡ key
  pub wrote_value : (entry_of c a (length (held_by c a))).value ≡ value

-- ---- what may be asked for

-- a key and a value, a record in which no counted log is full, and no counted term, wall clock or number of a cluster time at 65,535
pub record Asked (c : Cluster) (key value : ℕ) : Type 0 where
  pub a_key : key ≤ highest_key
  pub a_value : 1 ≤ value
  pub fits : value ≤ limit
  pub room : all_room c ≡ true
  pub low : all_low c ≡ true

-- ---- from every reached record

-- the plan's steps as events, and as lines
abbrev pub plan_events : Cluster → ℕ → ℕ → List Event
plan_events c key value = map comes (plan_for c key value)

abbrev pub plan_text : Cluster → ℕ → ℕ → List (List ℕ)
plan_text c key value = map write_step (plan_for c key value)

-- none of the lines from c on is answered with a refusal
abbrev pub NoLineRefused : Cluster → List (List ℕ) → Type 0
NoLineRefused c [] = Unit {0}
NoLineRefused c (l ∷ ls) = (is_refused (answer_to c l).answer ≡ false) × NoLineRefused (answer_to c l).cluster ls

-- at most four frames a server are given, those of the steps
pub record PlanGiven (c : Cluster) (key value : ℕ) : Type 0 where
  pub frames : planned_of c key value ≡ with_steps (no_frames Done) (plan_for c key value)
  pub short : length (plan_for c key value) ≤ 4 * c.count
  pub none_refused : NoneRefused c (plan_for c key value)

pub record Recovers (c : Cluster) (key value : ℕ) : Type 0 where
  pub given : PlanGiven c key value
  -- its lines are not refused either, and do what its steps do
  pub no_line_refused : NoLineRefused c (plan_text c key value)
  pub lines_lead : record_after c (plan_text c key value) ≡ run_to c (plan_events c key value)
  -- what was promised before goes on, and the cluster is going
  pub onward : Onward c (plan_events c key value)
  pub going : Going (run_to c (plan_events c key value)) (chosen c) key value

abbrev pub RecoveryPromised : Type 0
RecoveryPromised = (c : Cluster) (key value : ℕ) → FromFresh c → Asked c key value → Recovers c key value

-- ---- from every well-formed record

-- the frames are given, and none is refused; or none are given, and the first that is refused gets refusal 9
abbrev pub OnlyNine : Type 0
OnlyNine =
    (c : Cluster) (key value : ℕ) → Fits c → well_formed c ≡ true → Asked c key value
    → PlanGiven c key value ⊎ (planned_of c key value ≡ no_frames (Refused BelowCommitPoint))
