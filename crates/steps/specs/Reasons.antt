-- Why a list of rules lets a step be done or refuses it: the words of what is claimed of refusals. Assumes nothing.
use Rattle.std.specs.Prelude.{◌≡◌, [], ◌∷◌, Bool, true, false, ℕ}
use Rattle.steps.specs.declared.Refusal.{Refusal}
use Rattle.steps.specs.declared.Refusal.TheVariants.{NotAFrame, IllFormed, OutOfRange, WrongRole, ConditionUnmet, LogFull, AtLimit, NotYet, BelowCommitPoint, NoSuchEntry, ClockAhead, Retired}
use Rattle.steps.specs.Refusals.{Rules}

-- every test passes: each fact is a part
abbrev pub Clear : Rules → Type 0
Clear [] = Unit {0}
Clear (r ∷ rs) = (r.0 ≡ true) × Clear rs

-- one that fails, after all before it pass
pub data Broken : Rules → Refusal → Type 0 where
  here : {b : Bool} {r : Refusal} {rs : Rules} → b ≡ false → Broken ((b, r) ∷ rs) r
  later : {b : Bool} {n r : Refusal} {rs : Rules} → b ≡ true → Broken rs r → Broken ((b, n) ∷ rs) r

-- a rule that is broken, wherever it stands in the list
pub data Applies : Rules → Refusal → Type 0 where
  first : {b : Bool} {r : Refusal} {rs : Rules} → b ≡ false → Applies ((b, r) ∷ rs) r
  among : {b : Bool} {n r : Refusal} {rs : Rules} → Applies rs r → Applies ((b, n) ∷ rs) r

-- the order in which refusals are considered, one for all kinds: 1, 2, 3, 11, 12, 4, 5, 6, 7, 10, 8, 9
abbrev pub rank_of : Refusal → ℕ
rank_of NotAFrame = 1
rank_of IllFormed = 2
rank_of OutOfRange = 3
rank_of ClockAhead = 4
rank_of Retired = 5
rank_of WrongRole = 6
rank_of ConditionUnmet = 7
rank_of LogFull = 8
rank_of AtLimit = 9
rank_of NoSuchEntry = 10
rank_of NotYet = 11
rank_of BelowCommitPoint = 12
