-- Records of which one more is kept than a list may have: no more are needed. Assumes nothing.
use mathlib.Core.Path.{◌≡◌, ap, sym, ◌∙◌}
use mathlib.Core.List.{List}
use mathlib.Core.Bool.{cond}
use mathlib.Core.Logic.{⊎_elim}
use Prim.Native.Nat.{ℕ, ◌≤◌, ◌<◌}
use native.Mathlib.Omega.{arith}
use lib.ListN.{length, take, length-take}
use lib.Seq.{take_all}
use borrow.Author.Tests.{lt-leb}
use Rattle.base.proofs.Facts.{lt_or_le}
use Rattle.steps.specs.declared.Refusal.TheVariants.{IllFormed, OutOfRange}
use Rattle.histories.specs.declared.PhoneRecord.{PhoneRecord}
use Rattle.histories.specs.declared.Checked.TheVariants.{Refused}
use Rattle.histories.specs.Committed.{Committed, could_hold}
use Rattle.histories.specs.Checking.{most_records, list_ok, checked_of, check_of}

-- a list too long is refused, unless its log is
too_long : (rs : List PhoneRecord) (g : Committed) → most_records < length rs → check_of rs g ≡ cond (could_hold g) (Refused OutOfRange) (Refused IllFormed)
unfolding checked_of list_ok
too_long rs g h = rw (lt-leb (length rs) most_records h)

-- the first 257 of a list are checked like the list
pub kept_enough : (rs : List PhoneRecord) (g : Committed) (n : ℕ) → most_records < n → check_of (take n rs) g ≡ check_of rs g
kept_enough rs g n h = ⊎_elim longer short (lt_or_le n (length rs))
  where
    longer : n < length rs → check_of (take n rs) g ≡ check_of rs g
    longer l = too_long (take n rs) g (omega (arith, length-take n rs)) ∙ sym (too_long rs g (omega arith))

    short : length rs ≤ n → check_of (take n rs) g ≡ check_of rs g
    short l = ap (λ (xs : List PhoneRecord). check_of xs g) (take_all n rs l)
