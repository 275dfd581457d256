-- Which records of a list a sentence names. Assumes nothing.
use Rattle.std.specs.Prelude.{◌≡◌, true, false, List, ℕ, ◌<◌, Option, Some, None}
use Rattle.histories.specs.declared.PhoneRecord.{PhoneRecord}
use Rattle.histories.specs.Rules.{record_in_range, not_before}
use Rattle.histories.specs.Checking.{record_at}
use Rattle.phones.specs.Listed.{most_kept}

-- record n is out of range, and none before it is; or all that are kept are in range
abbrev pub FirstOut : List PhoneRecord → Option ℕ → Type 0
FirstOut rs (Some n) = (n < most_kept) × ((i : ℕ) → i < n → record_in_range (record_at rs i) ≡ true) × (record_in_range (record_at rs n) ≡ false)
FirstOut rs None = (i : ℕ) → i < most_kept → record_in_range (record_at rs i) ≡ true

-- record j stands before record n, and its time is later in the same session; or there is none
abbrev pub LaterBefore : List PhoneRecord → ℕ → Option ℕ → Type 0
LaterBefore rs n (Some j) = (j < n) × (not_before (record_at rs j) (record_at rs n) ≡ false)
LaterBefore rs n None = n < most_kept → (i : ℕ) → i < n → not_before (record_at rs i) (record_at rs n) ≡ true
