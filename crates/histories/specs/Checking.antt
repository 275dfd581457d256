-- The check of a list of records against a committed log: accepted, the number of the first record that breaks a rule, or a refusal.
-- Assumes nothing.
use Rattle.std.specs.Prelude.{List, [], ◌∷◌, Bool, cond, ◌&&◌, ℕ, zero, suc, leb, length, get_or, take}
use Rattle.base.specs.Numbers.{every}
use Rattle.server_log.specs.declared.Entry.{Entry}
use Rattle.steps.specs.declared.Refusal.TheVariants.{IllFormed, OutOfRange}
use Rattle.steps.specs.Refusals.{decided}
use Rattle.histories.specs.declared.PhoneRecord.{PhoneRecord}
use Rattle.histories.specs.declared.Checked.{Checked}
use Rattle.histories.specs.declared.Checked.TheVariants.{Accepted, Breaks, Refused}
use Rattle.histories.specs.Committed.{Committed, entries_of, could_hold}
use Rattle.histories.specs.Rules.{no_record, record_in_range, obeys}

-- a list has at most 256 records
abbrev pub most_records : ℕ
most_records = 256

abbrev pub record_at : List PhoneRecord → ℕ → PhoneRecord
record_at rs i = get_or rs i no_record

-- record i obeys, given the records before it
abbrev pub obeys_at : List Entry → List PhoneRecord → ℕ → Bool
obeys_at es rs i = obeys es (take i rs) (record_at rs i)

-- the second answer counts where the first accepts
abbrev pub and_then : Checked → Checked → Checked
and_then Accepted b = b
and_then (Breaks n) b = Breaks n
and_then (Refused x) b = Refused x

-- the first number below n that fails
unfoldable pub first_breaker : ℕ → (ℕ → Bool) → Checked
first_breaker zero p = Accepted
first_breaker (suc n) p = and_then (first_breaker n p) (cond (p n) Accepted (Breaks n))

-- the first n records are not too many, and each is in range
unfoldable pub list_ok : List PhoneRecord → ℕ → Bool
list_ok rs n = leb n most_records && every n (λ i. record_in_range (record_at rs i))

-- the answer for the first n records: the first refusal that applies, else the first record that breaks a rule
unfoldable pub checked_of : Committed → List PhoneRecord → ℕ → Checked
checked_of g rs n =
    decided Refused (first_breaker n (obeys_at (entries_of g) rs)) ((could_hold g, IllFormed) ∷ (list_ok rs n, OutOfRange) ∷ [])

abbrev pub check_of : List PhoneRecord → Committed → Checked
check_of rs g = checked_of g rs (length rs)
