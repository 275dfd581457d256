-- What the program is ordered: a text of twelve bytes in lower-case hexadecimal and a line feed. Of the first byte bit 0 orders to load, bit 1 to save,
-- bit 2 to list, bit 3 to write a plan, bit 4 to write a trace and bit 5 to keep that brief; then come the plan's key and value, and the two numbers of a
-- trace's stretch, four bytes each. Assumes nothing.
use Rattle.std.specs.Prelude.{List, cond, ◌&&◌, ℕ, ◌+◌, ◌*◌, eqb, length, take, get_or, replicate, Option, Some, None}
use Rattle.cluster.specs.Sets.{member, is_within}
use Rattle.words.specs.Words.{byte_at, word_at, framed}
use Rattle.lines.specs.Texts.{line_feed}
use Rattle.orders.specs.declared.Orders.{Orders}

-- how many bytes there are, how many characters they have, and how many bits of the first are orders
abbrev pub order_bytes : ℕ
order_bytes = 12

abbrev pub order_chars : ℕ
order_chars = 24

abbrev pub order_bits : ℕ
order_bits = 6

-- the number of two words, the high one first, and the one whose bytes stand from a place on
unfoldable pub long_of : ℕ → ℕ → ℕ
long_of high low = high * 65536 + low

abbrev pub long_at : List ℕ → ℕ → ℕ
long_at bs i = long_of (word_at bs i) (word_at bs (i + 2))

-- where a trace's stretch ends: with 0 it goes on to the last line
unfoldable pub end_of_stretch : ℕ → Option ℕ
end_of_stretch n = cond (eqb n 0) None (Some n)

abbrev pub orders_of : List ℕ → Orders
orders_of bs =
    record {
      load = member (byte_at bs 0) 0;
      save = member (byte_at bs 0) 1;
      list = member (byte_at bs 0) 2;
      recover = member (byte_at bs 0) 3;
      trace = member (byte_at bs 0) 4;
      brief = member (byte_at bs 0) 5;
      key = byte_at bs 1;
      value = word_at bs 2;
      before = long_at bs 4;
      last = end_of_stretch (long_at bs 8);
    }

-- no bit but those
unfoldable pub known_in : List ℕ → Option Orders
known_in bs = cond (is_within (byte_at bs 0) order_bits) (Some (orders_of bs)) None

-- an empty text orders nothing, and any other that is no such line is not known
unfoldable pub orders_in : List ℕ → Option Orders
orders_in text =
    cond (eqb (length text) 0) (Some (orders_of (replicate order_bytes 0)))
    (cond (eqb (length text) (order_chars + 1) && eqb (get_or text order_chars 0) line_feed) (framed order_bytes known_in None (take order_chars text)) None)
