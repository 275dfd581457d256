-- How the frames are made: the steps are tried on the record, one after the other, until one is refused. Nobody has to believe this: by
-- `work_made` it gives what `planned_of` says. Assumes nothing.
use Rattle.std.specs.Prelude.{◌≡◌, Bool, cond, ◌||◌, List, [], ◌∷◌, ℕ, ◌<◌, leb}
use Rattle.clock.specs.Times.{zero_time}
use Rattle.cluster.specs.declared.Cluster.{Cluster}
use Rattle.cluster.specs.Servers.{most_servers}
use Rattle.steps.specs.declared.Answer.TheVariants.{Done}
use Rattle.steps.specs.declared.Step.{Step}
use Rattle.steps.specs.declared.Step.TheVariants.{Elect, Hears, Writes, Advances, TakesReport}
use Rattle.steps.specs.Answers.{is_refused}
use Rattle.rules.specs.Rules.{step_of}
use Rattle.plans.specs.declared.Planned.{Planned}
use Rattle.plans.specs.declared.Work.{Work}
use Rattle.plans.specs.Moves.{Move, turns, other}
use Rattle.plans.specs.Plan.{all_voters, hearing, copies}
use Rattle.plans.specs.Making.{most_frames, no_frames, with_step}

-- a plan that was refused, or has no room, stays as it is
unfoldable pub is_over : Planned → Bool
is_over p = is_refused p.answer || leb most_frames p.count

-- the step is tried on the record: refused, it leaves no frames and the refusal; otherwise its frame is one more
unfoldable pub tried_of : Work → Step → Work
tried_of w s =
    cond (is_over w.plan) w
    (cond (is_refused (step_of w.cluster s).answer) (record { cluster = w.cluster; plan = no_frames (step_of w.cluster s).answer })
    (record { cluster = (step_of w.cluster s).cluster; plan = with_step w.plan s }))

-- each move in turn
abbrev pub work_of : Work → List Move → Work
work_of w [] = w
work_of w (m ∷ ms) = work_of (tried_of w (m w.cluster)) ms

-- what is called for two servers says what h says of them
abbrev pub AnswersAs : (ℕ → ℕ → Bool → Type 0) → (ℕ → ℕ → Bool) → Type 0
AnswersAs post h = (i k : ℕ) (b : Bool) → i < most_servers → k < most_servers → post i k b → b ≡ h i k

-- what is called for a number tries the move of that number
abbrev pub Tries : (Work → ℕ → Work → Type 0) → (ℕ → Move) → Type 0
Tries post move = (v : Work) (k : ℕ) (r : Work) → k < most_servers → post v k r → r ≡ tried_of v (move k v.cluster)

-- before the first step
abbrev pub begun_of : Cluster → Work
begun_of c = record { cluster = c; plan = no_frames Done }

-- the first three lines, and the other four
unfoldable pub opened_of : Cluster → ℕ → ℕ → ℕ → Work
opened_of c a key value = tried_of (tried_of (work_of (begun_of c) (hearing c a)) (Elect a (all_voters c))) (Writes a key value zero_time)

unfoldable pub closed_of : Work → ℕ → ℕ → Work
closed_of w a m =
    work_of (tried_of (work_of (work_of w (turns (λ k. copies (other a k) a) 0 m)) (turns (λ k d. TakesReport a) 0 m)) (Advances a)) (turns (λ k d. Hears (other a k) a) 0 m)
