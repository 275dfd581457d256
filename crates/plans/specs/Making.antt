-- What is given of a plan: its frames, or one refusal and none. Assumes nothing.
use Rattle.std.specs.Prelude.{Bool, cond, ◌&&◌, List, [], ◌∷◌, ℕ, ◌+◌, leb, ltb, set, replicate}
use Rattle.base.specs.Numbers.{every}
use Rattle.clock.specs.Times.{limit, zero_time}
use Rattle.server_log.specs.Logs.{has_room}
use Rattle.server_log.specs.Order.{highest_key}
use Rattle.cluster.specs.declared.Head.{Head}
use Rattle.cluster.specs.declared.Cluster.{Cluster}
use Rattle.cluster.specs.Servers.{server_count, server_at}
use Rattle.cluster.specs.WellFormed.{well_formed}
use Rattle.steps.specs.declared.Answer.{Answer}
use Rattle.steps.specs.declared.Answer.TheVariants.{Done, Refused}
use Rattle.steps.specs.declared.Refusal.TheVariants.{IllFormed, OutOfRange, LogFull, AtLimit}
use Rattle.steps.specs.declared.Step.{Step}
use Rattle.steps.specs.Answers.{is_refused}
use Rattle.steps.specs.Fields.{fields, frame_for}
use Rattle.steps.specs.Refusals.{Rules, decided}
use Rattle.plans.specs.declared.Planned.{Planned}
use Rattle.plans.specs.Moves.{first_refused}
use Rattle.plans.specs.Plan.{plan_for}

-- four times seven servers
abbrev pub most_frames : ℕ
most_frames = 28

-- no frames, all zero, and an answer
abbrev pub no_frames : Answer → Planned
no_frames answer = record { frames = replicate most_frames (fields 0 0 0 0 0 0 0 zero_time); count = 0; answer = answer }

-- the frame of one step more, and of each of several
abbrev pub with_step : Planned → Step → Planned
with_step p s = record { frames = set p.frames p.count (frame_for s); count = p.count + 1; answer = p.answer }

abbrev pub with_steps : Planned → List Step → Planned
with_steps p [] = p
with_steps p (s ∷ ss) = with_steps (with_step p s) ss

-- by the answer of the first that is refused: none, or all
unfoldable pub frames_by : Answer → Planned → List Step → Planned
frames_by first p ss = cond (is_refused first) (no_frames first) (with_steps p ss)

-- a term, a wall clock and both numbers of a cluster time are below 65,535
unfoldable pub is_low : Head → Bool
is_low h = ltb h.term limit && (ltb h.wall limit && (ltb h.time.p limit && ltb h.time.l limit))

-- every counted log has room, and every counted server such numbers
unfoldable pub all_room : Cluster → Bool
all_room c = every (server_count c) (λ i. has_room (server_at c i).log)

unfoldable pub all_low : Cluster → Bool
all_low c = every (server_count c) (λ i. is_low (server_at c i).head)

-- what has to hold before a plan is made
abbrev pub plan_rules : Cluster → ℕ → ℕ → Rules
plan_rules c key value =
    (well_formed c, IllFormed)
    ∷ (leb key highest_key, OutOfRange)
    ∷ (leb 1 value, OutOfRange)
    ∷ (all_room c, LogFull)
    ∷ (all_low c, AtLimit)
    ∷ []

-- the frames of the plan, where none of its steps is refused; otherwise none, and why
unfoldable pub planned_of : Cluster → ℕ → ℕ → Planned
planned_of c key value =
    decided (λ r. no_frames (Refused r)) (frames_by (first_refused c (plan_for c key value)) (no_frames Done) (plan_for c key value)) (plan_rules c key value)
