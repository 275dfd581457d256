-- 02's rules for a phone's record, against the entries of a committed log and the records before it. Assumes nothing.
use Rattle.std.specs.Prelude.{List, Bool, not, cond, ◌&&◌, ◌||◌, ℕ, eqb, leb, length, get_or}
use Rattle.base.specs.Numbers.{every, highest}
use Rattle.clock.specs.declared.Time.{Time}
use Rattle.clock.specs.Times.{zero_time, is_before, same_time}
use Rattle.server_log.specs.declared.Entry.{Entry}
use Rattle.server_log.specs.Entries.{entry_at}
use Rattle.server_log.specs.Order.{highest_key}
use Rattle.histories.specs.declared.PhoneRecord.{PhoneRecord}

-- kind 6 is a write, kind 11 a majority read
abbrev pub write_kind : ℕ
write_kind = 6

abbrev pub read_kind : ℕ
read_kind = 11

abbrev pub no_record : PhoneRecord
no_record = record { session = 0; kind = 0; key = 0; value = 0; position = 0; time = zero_time }

-- a record is of kind 6 or 11, and its key is not above 15
unfoldable pub record_in_range : PhoneRecord → Bool
record_in_range r = leb r.key highest_key && (eqb r.kind write_kind || eqb r.kind read_kind)

-- the entry has the record's key, value and time
unfoldable pub same_write : Entry → PhoneRecord → Bool
same_write e r = eqb e.key r.key && (eqb e.value r.value && same_time e.time r.time)

-- a write's key, value and time are those of the entry at its position
unfoldable pub write_obeys : List Entry → PhoneRecord → Bool
write_obeys es r =
    leb 1 r.position && (leb r.position (length es) && same_write (entry_at es r.position) r)

-- the last position whose entry passes, 0 if none does
abbrev pub last_where : (Entry → Bool) → List Entry → ℕ
last_where p es = highest (λ n. p (entry_at es n)) (length es)

-- the time is (0,0) or some entry's
unfoldable pub known_time : List Entry → Time → Bool
known_time es t = same_time t zero_time || leb 1 (last_where (λ e. same_time e.time t) es)

-- the entry is for the key, and not after the time
unfoldable pub readable : ℕ → Time → Entry → Bool
readable key t e = eqb e.key key && not (is_before t e.time)

-- the value of the last entry for the key not after the time, 0 if none
unfoldable pub value_at : List Entry → ℕ → Time → ℕ
value_at es key t = (entry_at es (last_where (readable key t) es)).value

-- the time is not before that of an earlier record, unless that is of another session
unfoldable pub not_before : PhoneRecord → PhoneRecord → Bool
not_before e r = not (eqb e.session r.session && is_before r.time e.time)

-- the time is not before that of any earlier record of the session
unfoldable pub keeps_order : List PhoneRecord → PhoneRecord → Bool
keeps_order earlier r = every (length earlier) (λ j. not_before (get_or earlier j no_record) r)

unfoldable pub read_obeys : List Entry → List PhoneRecord → PhoneRecord → Bool
read_obeys es earlier r =
    known_time es r.time && (eqb (value_at es r.key r.time) r.value && keeps_order earlier r)

-- a record obeys the rule of its kind
unfoldable pub obeys : List Entry → List PhoneRecord → PhoneRecord → Bool
obeys es earlier r = cond (eqb r.kind write_kind) (write_obeys es r) (read_obeys es earlier r)
