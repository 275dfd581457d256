-- The refusals' numbers, and a kind's ordered list of tests: the first that fails gives its refusal. Assumes nothing.
use Rattle.std.specs.Prelude.{◌≡◌, ◌<◌, List, [], ◌∷◌, Bool, cond, ℕ, Result, MatchResult}
use Rattle.steps.specs.declared.NoRefusal.{NoRefusal}
use Rattle.steps.specs.declared.Refusal.{Refusal}
use Rattle.steps.specs.declared.Refusal.TheVariants.{NotAFrame, IllFormed, OutOfRange, WrongRole, ConditionUnmet, LogFull, AtLimit, NotYet, BelowCommitPoint, NoSuchEntry, ClockAhead, Retired}

abbrev pub refusal_number : Refusal → ℕ
refusal_number NotAFrame = 1
refusal_number IllFormed = 2
refusal_number OutOfRange = 3
refusal_number WrongRole = 4
refusal_number ConditionUnmet = 5
refusal_number LogFull = 6
refusal_number AtLimit = 7
refusal_number NotYet = 8
refusal_number BelowCommitPoint = 9
refusal_number NoSuchEntry = 10
refusal_number ClockAhead = 11
refusal_number Retired = 12

-- the refusal that has the number n, or n itself where none has it: 0, or above 12
abbrev pub NamesRefusal : ℕ → Result Refusal NoRefusal → Type 0
NamesRefusal n named = MatchResult named (λ r. refusal_number r ≡ n) (λ e. (e.0 ≡ n) × (0 < n → 12 < n))

-- what has to hold, each with the refusal that is given where it doesn't
abbrev pub Rules : Type 0
Rules = List (Bool × Refusal)

module _ {A : Type 0} where
  -- the first rule that is broken refuses; otherwise it is done
  abbrev pub decided : (Refusal → A) → A → Rules → A
  decided refuse done [] = done
  decided refuse done (r ∷ rs) = cond r.0 (decided refuse done rs) (refuse r.1)
