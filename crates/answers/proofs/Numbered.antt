-- The refusal of each number from 1 to 12, and of no other. Assumes nothing.
use mathlib.Core.Path.{◌≡◌, refl, sym, ap, ◌∙◌}
use mathlib.Core.Bool.{Bool, true, false, cond}
use mathlib.Core.List.{List, [], ◌∷◌}
use Prim.Native.Nat.{ℕ, zero, suc, ◌≤◌, ◌<◌}
use native.Mathlib.Omega.{arith}
use borrow.Author.Tests.{ne_eqb, eqb-true}
use lib.Dec.{eqb}
use lib.ListN.{length}
use Rattle.steps.specs.declared.Refusal.{Refusal}
use Rattle.steps.specs.declared.Refusal.TheVariants.{NotAFrame, IllFormed, OutOfRange, WrongRole, ConditionUnmet, LogFull, AtLimit, NotYet, BelowCommitPoint, NoSuchEntry, ClockAhead, Retired}
use Rattle.steps.specs.declared.NoRefusal.{NoRefusal}
use Rattle.steps.specs.Refusals.{refusal_number, NamesRefusal}
use Rattle.steps.specs.Answers.{Telling}
use Rattle.std.proofs.Common.{Some, None, Ok, Err}
use Rattle.std.proofs.lemmas.Option.{none-some, same_Some}
use Rattle.answers.specs.Answers.{refusals, numbered, refusal_of}

-- a refusal's number is from 1 to as many as there are
pub number_low : (r : Refusal) → (1 ≤ refusal_number r) × (refusal_number r ≤ length refusals)
number_low NotAFrame = omega arith
number_low IllFormed = omega arith
number_low OutOfRange = omega arith
number_low WrongRole = omega arith
number_low ConditionUnmet = omega arith
number_low LogFull = omega arith
number_low AtLimit = omega arith
number_low NotYet = omega arith
number_low BelowCommitPoint = omega arith
number_low NoSuchEntry = omega arith
number_low ClockAhead = omega arith
number_low Retired = omega arith

pub refusal_of_number : (r : Refusal) → refusal_of (refusal_number r) ≡ Some (Err r)
unfolding refusal_of
refusal_of_number NotAFrame = refl
refusal_of_number IllFormed = refl
refusal_of_number OutOfRange = refl
refusal_of_number WrongRole = refl
refusal_of_number ConditionUnmet = refl
refusal_of_number LogFull = refl
refusal_of_number AtLimit = refl
refusal_of_number NotYet = refl
refusal_of_number BelowCommitPoint = refl
refusal_of_number NoSuchEntry = refl
refusal_of_number ClockAhead = refl
refusal_of_number Retired = refl

none_numbered : (n : ℕ) (rs : List Refusal) → length refusals < n → numbered n rs ≡ None
none_numbered n [] h = refl
none_numbered n (r ∷ rs) h = rw (ne_eqb n (refusal_number r) (λ e. omega (arith, (number_low r).1))) (none_numbered n rs h)

pub no_refusal : (n : ℕ) → length refusals < n → refusal_of n ≡ None
unfolding refusal_of
no_refusal n h = none_numbered n refusals h

-- t is the refusal that has the number n
abbrev pub Found : ℕ → Telling → Type 0
Found n t = (r : Refusal) × ((t ≡ Err r) × (n ≡ refusal_number r))

pub found : (n : ℕ) (rs : List Refusal) (t : Telling) → numbered n rs ≡ Some t → Found n t
found n [] t e = absurd (none-some t e)
found n (r ∷ rs) t e = go (eqb n (refusal_number r)) refl e (found n rs t)
  where
    go : (b : Bool) → eqb n (refusal_number r) ≡ b → cond b (Some (Err r)) (numbered n rs) ≡ Some t → (numbered n rs ≡ Some t → Found n t)
        → Found n t
    go true q e later = (r, (sym (same_Some _ _ e), eqb-true _ _ q))
    go false q e later = later e

-- by what the number names
pub named_lem : (n : ℕ) (r : Refusal) → NamesRefusal n (Ok r) → Some (Err r) ≡ refusal_of n
named_lem n r e = sym (refusal_of_number r) ∙ ap refusal_of e

pub unnamed : (n : ℕ) (e : NoRefusal) → NamesRefusal n (Err e) → None ≡ refusal_of n
unfolding refusal_of
unnamed zero e h = refl
unnamed (suc n) e h = sym (no_refusal (suc n) (h.1 (omega arith)))
