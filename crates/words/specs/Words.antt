-- What both frames share: a number of two bytes, and a line of so many bytes. Assumes nothing.
use Rattle.std.specs.Prelude.{cond, ◌&&◌, List, ℕ, ◌+◌, ◌*◌, ◌/◌, ◌%◌, eqb, length, get_or}
use Rattle.base.specs.Numbers.{byte}
use Rattle.hex_text.specs.Lines.{chars, all_hex, bytes_of}

-- high byte first
unfoldable pub high_of : ℕ → ℕ
high_of n = n / byte

unfoldable pub low_of : ℕ → ℕ
low_of n = n % byte

unfoldable pub word_of : ℕ → ℕ → ℕ
word_of h l = h * byte + l

-- the byte at place i, and the number whose bytes stand there and after it
abbrev pub byte_at : List ℕ → ℕ → ℕ
byte_at bs i = get_or bs i 0

abbrev pub word_at : List ℕ → ℕ → ℕ
word_at bs i = word_of (byte_at bs i) (byte_at bs (i + 1))

-- what f makes of n bytes in lower-case hexadecimal; any other line is none
unfoldable pub framed : {A : Type 0} → ℕ → (List ℕ → A) → A → List ℕ → A
framed n f none line = cond (eqb (length line) (chars * n) && all_hex line) (f (bytes_of line)) none
