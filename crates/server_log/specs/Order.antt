-- Which logs a well-formed record may hold, as 01 words it, and 02 for entries that write nothing. Assumes nothing.
use Rattle.std.specs.Prelude.{List, [], ◌∷◌, Bool, true, ◌&&◌, ◌||◌, ℕ, suc, eqb, leb, length, drop}
use Rattle.base.specs.Numbers.{every}
use Rattle.clock.specs.Times.{is_before}
use Rattle.server_log.specs.declared.Entry.{Entry}
use Rattle.server_log.specs.declared.Log.{Log}
use Rattle.server_log.specs.Entries.{zero_entry, same_entry, entry_at}
use Rattle.server_log.specs.Logs.{log_limit, kept}

-- a key is 0 to 15
abbrev pub highest_key : ℕ
highest_key = 15

-- the key of an entry that writes nothing; keys between are never used
abbrev pub no_key : ℕ
no_key = 255

-- an entry writes a value of at least 1 for a key, or it has key 255 and value 0, and writes nothing
abbrev pub writes_some : Entry → Bool
writes_some e = leb e.key highest_key && leb 1 e.value

abbrev pub writes_none : Entry → Bool
writes_none e = eqb e.key no_key && eqb e.value 0

-- an entry's term is at least 1 and never exceeds the server's term; its key and value are in range
unfoldable pub entry_ok : ℕ → Entry → Bool
entry_ok term e = leb 1 e.term && (leb e.term term && (writes_some e || writes_none e))

-- from d to the next entry e, terms never fall and times rise strictly
unfoldable pub follows : Entry → Entry → Bool
follows d e = leb d.term e.term && is_before d.time e.time

-- e may stand after the first i entries, the last of which is d
unfoldable pub place_ok : ℕ → ℕ → Entry → Entry → Bool
place_ok term i d e = entry_ok term e && (eqb i 0 || follows d e)

-- every entry may stand in its place, in a log of a server of this term
unfoldable pub in_order : ℕ → List Entry → Bool
in_order term es = every (length es) (λ i. place_ok term i (entry_at es i) (entry_at es (suc i)))

-- every entry is zero
abbrev pub all_zero : List Entry → Bool
all_zero [] = true
all_zero (e ∷ es) = same_entry e zero_entry && all_zero es

-- every slot past the first k is zero
unfoldable pub rest_zero : Log → ℕ → Bool
rest_zero g k = all_zero (drop k g.entries)

-- no entry, and every slot is zero
unfoldable pub is_empty_log : Log → Bool
is_empty_log g = eqb g.len 0 && rest_zero g 0

-- no more entries than a log keeps, slots past them zero, and the entries in order
unfoldable pub log_ok : ℕ → Log → Bool
log_ok term g = leb g.len log_limit && (rest_zero g g.len && in_order term (kept g))
