-- One log by value: its slots and its length, the entries that it keeps, the log by positions, and what makes a log. Assumes nothing.
use Rattle.std.specs.Prelude.{List, Bool, cond, ◌&&◌, ℕ, ◌+◌, ltb, leb, length, take, set, replicate}
use Rattle.base.specs.Lists.{joined_at}
use Rattle.server_log.specs.declared.Entry.{Entry}
use Rattle.server_log.specs.declared.Log.{Log}
use Rattle.server_log.specs.Entries.{zero_entry, latest_value}

-- a log keeps at most 128 entries
abbrev pub log_limit : ℕ
log_limit = 128

-- positions go to 128: those that can be asked for (kinds 12 and 15), and so the lengths in notes and reports
abbrev pub highest_position : ℕ
highest_position = 128

-- a position and a term by which an entry may be asked for
unfoldable pub may_ask : ℕ → ℕ → Bool
may_ask n term = leb 1 n && (leb n highest_position && leb 1 term)

abbrev pub empty_log : Log
empty_log = record { entries = replicate log_limit zero_entry; len = 0 }

-- the entries that a log keeps: its slots up to its length
abbrev pub kept : Log → List Entry
kept g = take g.len g.entries

-- the log by positions; as long as nothing is dropped, what is kept
abbrev pub live : Log → List Entry
live g = kept g

abbrev pub length_of : Log → ℕ
length_of g = length (live g)

-- there is room for one entry more
unfoldable pub has_room : Log → Bool
has_room g = ltb g.len log_limit

-- one entry more, in the first slot past the length; a full log stays as it is
unfoldable pub appended : Log → Entry → Log
appended g e = cond (has_room g) (record { entries = set g.entries g.len e; len = g.len + 1 }) g

-- the first k slots of a, and then the rest of b, of b's length
abbrev pub joined : Log → Log → ℕ → Log
joined a b k = record { entries = joined_at k a.entries b.entries; len = b.len }

-- the value of the last entry for the key among the first n, 0 if none
abbrev pub latest_in : Log → ℕ → ℕ → ℕ
latest_in g key n = latest_value key (take n (live g))
