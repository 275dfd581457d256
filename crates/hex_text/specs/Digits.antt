-- Hexadecimal digits: the characters 0-9 and a-f, and the byte of two of them. Assumes nothing.
use Rattle.std.specs.Prelude.{Bool, cond, ◌&&◌, ℕ, ◌+◌, ◌-◌, ◌*◌, ◌%◌, leb, ltb}

-- how many digits there are, and how many of them are 0-9
abbrev pub radix : ℕ
radix = 16

abbrev pub ten : ℕ
ten = 10

-- the characters 0, 9, a and f
abbrev pub char0 : ℕ
char0 = 48

abbrev pub char9 : ℕ
char9 = 57

abbrev pub char_a : ℕ
char_a = 97

abbrev pub char_f : ℕ
char_f = 102

-- the value of a character 0-9 a-f, radix for any other
unfoldable pub digit_of : ℕ → ℕ
digit_of c = cond (leb char0 c && leb c char9) (c - char0) (cond (leb char_a c && leb c char_f) (c - char_a + ten) radix)

abbrev pub is_digit : ℕ → Bool
is_digit c = ltb (digit_of c) radix

-- the character of a digit
abbrev pub digit_char : ℕ → ℕ
digit_char d = cond (ltb d ten) (char0 + d) (char_a + (d - ten))

-- the character of a number's last digit
unfoldable pub char_of : ℕ → ℕ
char_of n = digit_char (n % radix)

-- the byte of two characters, the high digit first; a character that is no digit counts as 0
unfoldable pub byte_of : ℕ → ℕ → ℕ
byte_of h l = digit_of h % radix * radix + digit_of l % radix
