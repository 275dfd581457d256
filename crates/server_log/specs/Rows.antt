-- The latest value for each of the sixteen keys, in a row: of a whole log, and of its committed beginning. Assumes nothing.
use Rattle.std.specs.Prelude.{List, [], ◌∷◌, Bool, cond, ◌&&◌, ℕ, suc, eqb, leb, get_or, take, drop, set, replicate}
use Rattle.base.specs.Numbers.{every}
use Rattle.server_log.specs.declared.Entry.{Entry}
use Rattle.server_log.specs.declared.Log.{Log}
use Rattle.server_log.specs.declared.rows.Latest.{Latest}
use Rattle.server_log.specs.declared.rows.Rows.{Rows}
use Rattle.server_log.specs.Logs.{live, length_of, latest_in}
use Rattle.server_log.specs.Order.{highest_key}

-- how many keys there are
abbrev pub keys : ℕ
keys = suc highest_key

-- no key has a value
abbrev pub zero_row : Latest
zero_row = record { values = replicate keys 0 }

abbrev pub zero_rows : Rows
zero_rows = record { whole = zero_row; committed = zero_row }

-- the value that a row has for a key, 0 for none
abbrev pub value_for : Latest → ℕ → ℕ
value_for v key = get_or v.values key 0

-- a row after one entry more: its value is its key's latest; one that writes nothing has no key and changes nothing
unfoldable pub latest_after : Latest → Entry → Latest
latest_after v e = cond (leb e.key highest_key) (record { values = set v.values e.key e.value }) v

-- after these entries, from a starting row
abbrev pub latest_over : Latest → List Entry → Latest
latest_over v [] = v
latest_over v (e ∷ es) = latest_over (latest_after v e) es

-- the entries past position k, up to position n
abbrev pub between : Log → ℕ → ℕ → List Entry
between g k n = drop k (take n (live g))

-- both rows of a log with this commit point, worked out afresh
abbrev pub rows_of : Log → ℕ → Rows
rows_of g commit = record { whole = latest_over zero_row (live g); committed = latest_over zero_row (take commit (live g)) }

-- a row has for each key what a walking read finds in the first n entries
unfoldable pub row_ok : Latest → Log → ℕ → Bool
row_ok v g n = every keys (λ key. eqb (value_for v key) (latest_in g key n))

-- and so do both, in the whole log and in its committed beginning
unfoldable pub rows_ok : Rows → Log → ℕ → Bool
rows_ok r g commit = row_ok r.whole g (length_of g) && row_ok r.committed g commit
