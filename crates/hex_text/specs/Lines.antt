-- Lines of hexadecimal: two characters a byte. Assumes nothing.
use Rattle.std.specs.Prelude.{Bool, cond, List, [], ◌∷◌, ℕ, ◌/◌, ◌%◌, min, eqb, length, get_or}
use Rattle.base.specs.Numbers.{every}
use Rattle.base.specs.Lists.{joined_at}
use Rattle.hex_text.specs.Digits.{radix, is_digit, char_of, byte_of}

-- how many characters a byte has
abbrev pub chars : ℕ
chars = 2

-- every character is 0-9 a-f
unfoldable pub all_hex : List ℕ → Bool
all_hex line = every (length line) (λ i. is_digit (get_or line i 0))

-- the bytes of a line; a last character without a second stands for none
abbrev pub bytes_of : List ℕ → List ℕ
bytes_of [] = []
bytes_of (h ∷ []) = []
bytes_of (h ∷ l ∷ line) = byte_of h l ∷ bytes_of line

-- the line of some bytes
abbrev pub hex_of : List ℕ → List ℕ
hex_of [] = []
hex_of (b ∷ bs) = char_of (b / radix) ∷ char_of (b % radix) ∷ hex_of bs

-- the character at place i of a line that has the byte b there: the high digit at even places
unfoldable pub char_at : ℕ → ℕ → ℕ
char_at b i = cond (eqb (i % chars) 0) (char_of (b / radix)) (char_of (b % radix))

-- xs written over the beginning of ys, as far as both go
abbrev pub over : List ℕ → List ℕ → List ℕ
over xs ys = joined_at (min (length xs) (length ys)) xs ys
