-- A text of records line by line: the records, of which one more than a list may have is kept, and the first line that is none.
-- Assumes nothing.
use Rattle.std.specs.Prelude.{◌≡◌, cond, List, [], ◌∷◌, ◌++◌, ℕ, ◌+◌, min, ltb, set, take, replicate, Option, Some, None}
use Rattle.lines.specs.Texts.{lines, most_counted, one_more}
use Rattle.lines.specs.Folds.{over_lines}
use Rattle.lines.specs.Walks.{walk_from, walked, walked_out}
use Rattle.lines.specs.declared.walks.Walk.{Walk}
use Rattle.histories.specs.declared.PhoneRecord.{PhoneRecord}
use Rattle.histories.specs.Rules.{no_record}
use Rattle.histories.specs.Checking.{most_records}
use Rattle.phones.specs.declared.Listed.{Listed}
use Rattle.phones.specs.Records.{read_record}

-- one more is kept than a list may have
abbrev pub most_kept : ℕ
most_kept = most_records + 1

-- before the first line
abbrev pub new_list : Listed
new_list = record { records = replicate most_kept no_record; count = 0; number = 1; bad = None }

-- the records that are kept
abbrev pub records_kept : Listed → List PhoneRecord
records_kept s = take s.count s.records

-- lines are counted from 1, as far as a number goes
abbrev pub line_number : ℕ → ℕ
line_number before = min (before + 1) most_counted

-- one record more, kept where there is room
unfoldable pub with_record : Listed → PhoneRecord → Listed
with_record s r =
    cond (ltb s.count most_kept)
    (record { records = set s.records s.count r; count = s.count + 1; number = one_more s.number; bad = s.bad })
    (record { records = s.records; count = s.count; number = one_more s.number; bad = s.bad })

-- the line is the first bad one
abbrev pub spoilt : Listed → Listed
spoilt s = record { records = s.records; count = s.count; number = s.number; bad = Some s.number }

abbrev pub takes_in : Listed → Option PhoneRecord → Listed
takes_in s (Some r) = with_record s r
takes_in s None = spoilt s

-- after the first bad line no other counts
unfoldable pub list_after_read : Listed → Option PhoneRecord → Listed
list_after_read s read = elim s.bad [ Some n ↦ s | None ↦ takes_in s read ]

abbrev pub list_after_line : Listed → List ℕ → Listed
list_after_line s line = list_after_read s (read_record line)

-- the list that a text is
abbrev pub list_of : List ℕ → Listed
list_of text = over_lines list_after_line new_list (lines text)

-- each line is the line of a record
abbrev pub Reads : List (List ℕ) → List PhoneRecord → Type 0
Reads [] [] = Unit {0}
Reads [] (r ∷ rs) = ⊥
Reads (l ∷ ls) [] = ⊥
Reads (l ∷ ls) (r ∷ rs) = (read_record l ≡ Some r) × Reads ls rs

-- the first line that is no record's, and those before it, which are
pub record FirstBad (ls : List (List ℕ)) : Type 0 where
  pub before : List (List ℕ)
  pub bad : List ℕ
  pub after : List (List ℕ)
  pub records : List PhoneRecord
  pub split : ls ≡ before ++ (bad ∷ after)
  pub reads : Reads before records
  pub none : read_record bad ≡ None

-- ---- byte by byte, which by `listed_text` comes to the same

abbrev pub Listing : Type 0
Listing = Walk Listed

abbrev pub new_listing : Listing
new_listing = walk_from new_list

abbrev pub listed_by : Listing → List ℕ → Listing
listed_by l piece = walked list_after_line l piece

abbrev pub finished_list : Listing → Listed
finished_list l = walked_out list_after_line l
