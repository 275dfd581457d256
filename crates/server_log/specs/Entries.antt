-- Entries and lists of entries: what is read off a log. Positions count from 1. Assumes nothing.
use Rattle.std.specs.Prelude.{List, [], ◌∷◌, Bool, cond, ◌&&◌, ℕ, zero, suc, eqb, leb, length, get_or}
use Rattle.base.specs.Numbers.{highest}
use Rattle.clock.specs.declared.Time.{Time}
use Rattle.clock.specs.Times.{zero_time, same_time}
use Rattle.server_log.specs.declared.Entry.{Entry}

abbrev pub zero_entry : Entry
zero_entry = record { term = 0; key = 0; value = 0; time = zero_time }

-- equal in all four parts
unfoldable pub same_entry : Entry → Entry → Bool
same_entry d e = eqb d.term e.term && (eqb d.key e.key && (eqb d.value e.value && same_time d.time e.time))

-- the entry at position n; the zero entry at position 0 and past the end
unfoldable pub entry_at : List Entry → ℕ → Entry
entry_at es zero = zero_entry
entry_at es (suc i) = get_or es i zero_entry

-- the term of the last entry, 0 if none
abbrev pub last_term : List Entry → ℕ
last_term es = (entry_at es (length es)).term

-- the time of the last entry, (0,0) if none
abbrev pub applied_time : List Entry → Time
applied_time es = (entry_at es (length es)).time

-- both have an entry at position n, and equal ones
unfoldable pub equal_at : List Entry → List Entry → ℕ → Bool
equal_at xs ys n = leb 1 n && (leb n (length xs) && (leb n (length ys) && same_entry (entry_at xs n) (entry_at ys n)))

-- there is an entry of that term at position n; at position 0 stands the zero entry, of term 0, which nobody may ask for (`may_ask`)
unfoldable pub has_entry : List Entry → ℕ → ℕ → Bool
has_entry es n term = leb n (length es) && eqb (entry_at es n).term term

-- the length of the longest common beginning
unfoldable pub common_beginning : List Entry → List Entry → ℕ
common_beginning [] ys = 0
common_beginning (x ∷ xs) [] = 0
common_beginning (x ∷ xs) (y ∷ ys) = cond (same_entry x y) (suc (common_beginning xs ys)) 0

-- xs is a beginning of ys: all of it is common
abbrev pub is_beginning : List Entry → List Entry → Bool
is_beginning xs ys = eqb (common_beginning xs ys) (length xs)

-- the entry at position n is for the key
abbrev pub for_key : ℕ → List Entry → ℕ → Bool
for_key key es n = eqb (entry_at es n).key key

-- the value of the last entry for the key, 0 if none
unfoldable pub latest_value : ℕ → List Entry → ℕ
latest_value key es = (entry_at es (highest (for_key key es) (length es))).value
