-- A phone's record as a line of hexadecimal: session, kind, key, value, position, p and l, numbers of two bytes with the high one first.
-- Assumes nothing.
use Rattle.std.specs.Prelude.{List, ℕ, Option, Some, None}
use Rattle.words.specs.Words.{byte_at, word_at, framed}
use Rattle.histories.specs.declared.PhoneRecord.{PhoneRecord}

-- a record has twelve bytes
abbrev pub record_bytes : ℕ
record_bytes = 12

unfoldable pub record_in : List ℕ → PhoneRecord
record_in bs =
    record {
      session = word_at bs 0;
      kind = byte_at bs 2;
      key = byte_at bs 3;
      value = word_at bs 4;
      position = word_at bs 6;
      time = record { p = word_at bs 8; l = word_at bs 10 };
    }

-- any twelve bytes are a record; whether it may stand in a list is looked at apart
abbrev pub record_of : List ℕ → Option PhoneRecord
record_of bs = Some (record_in bs)

abbrev pub read_record : List ℕ → Option PhoneRecord
read_record line = framed record_bytes record_of None line
