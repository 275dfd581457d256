-- However a text of records is cut, it is the same list. Assumes nothing.
use mathlib.Core.Path.{◌≡◌, ap}
use mathlib.Core.List.{List, ◌++◌}
use Prim.Native.Nat.{ℕ}
use native.Mathlib.Omega.{arith}
use Rattle.lines.proofs.Held.{held_framed}
use Rattle.lines.specs.Readers.{Reader, width, line_held}
use Rattle.lines.proofs.Readers.{StandsFor}
use Rattle.lines.proofs.Walked.{walked_text, walked_append}
use Rattle.std.specs.Prelude.{None}
use Rattle.phones.specs.declared.Listed.{Listed}
use Rattle.phones.specs.Records.{record_bytes, record_of}
use Rattle.phones.specs.Listed.{new_list, list_after_read, list_after_line, list_of, Listing, new_listing, listed_by, finished_list}

-- a line that is held reads as the one that it stands for
same : (s : Listed) (d : Reader) (p : List ℕ) → StandsFor d p → list_after_line s (line_held d) ≡ list_after_line s p
unfolding line_held
same s d p h = ap (list_after_read s) (held_framed record_bytes record_of None width (omega arith) d.held d.fill d.over h)

-- THE THEOREM: at the end, a text that was read is its list
pub listed_text : (text : List ℕ) → finished_list (listed_by new_listing text) ≡ list_of text
listed_text text = walked_text list_after_line same new_list text

-- two pieces are read like the text that they are
pub listed_append : (l : Listing) (x y : List ℕ) → listed_by l (x ++ y) ≡ listed_by (listed_by l x) y
listed_append l x y = walked_append list_after_line l x y
