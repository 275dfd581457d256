-- Which of 02's rules a record breaks, once it is known to break one. Assumes nothing.
use Rattle.std.specs.Prelude.{◌≡◌, ◌≢◌, List, Bool, true, false, cond, ◌&&◌, eqb, leb, length}
use Rattle.server_log.specs.declared.Entry.{Entry}
use Rattle.server_log.specs.Entries.{entry_at}
use Rattle.histories.specs.declared.PhoneRecord.{PhoneRecord}
use Rattle.histories.specs.declared.why.Reason.{Reason}
use Rattle.histories.specs.declared.why.Reason.TheVariants.{NoSuchPosition, OtherEntry, NoSuchTime, OtherValue, TooEarly}
use Rattle.histories.specs.Rules.{write_kind, same_write, known_time, value_at, keeps_order}

-- the log has an entry at the record's position
abbrev pub has_position : List Entry → PhoneRecord → Bool
has_position es r = leb 1 r.position && leb r.position (length es)

unfoldable pub why_write : List Entry → PhoneRecord → Reason
why_write es r = cond (has_position es r) (OtherEntry (entry_at es r.position)) NoSuchPosition

unfoldable pub why_read : List Entry → PhoneRecord → Reason
why_read es r =
    cond (known_time es r.time) (cond (eqb (value_at es r.key r.time) r.value) TooEarly (OtherValue (value_at es r.key r.time))) NoSuchTime

unfoldable pub why_of : List Entry → PhoneRecord → Reason
why_of es r = cond (eqb r.kind write_kind) (why_write es r) (why_read es r)

-- what a reason says of a record, after the records before it
abbrev pub Because : List Entry → List PhoneRecord → PhoneRecord → Reason → Type 0
Because es earlier r NoSuchPosition = (r.kind ≡ write_kind) × (has_position es r ≡ false)
Because es earlier r (OtherEntry e) = (r.kind ≡ write_kind) × (has_position es r ≡ true) × (e ≡ entry_at es r.position) × (same_write e r ≡ false)
Because es earlier r NoSuchTime = (r.kind ≢ write_kind) × (known_time es r.time ≡ false)
Because es earlier r (OtherValue v) = (r.kind ≢ write_kind) × (v ≡ value_at es r.key r.time) × (v ≢ r.value)
Because es earlier r TooEarly = (r.kind ≢ write_kind) × (keeps_order earlier r ≡ false)
