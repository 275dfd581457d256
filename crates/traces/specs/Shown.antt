-- A line as a trace shows it: any bytes at all, in plain characters, and cut. Assumes nothing.
use Rattle.std.specs.Prelude.{Bool, cond, not, ◌&&◌, List, [], ◌∷◌, ◌++◌, ℕ, ◌-◌, ◌^◌, min, eqb, leb, length, take}
use Rattle.io.specs.Digits.{last_digits}
use Rattle.base.specs.Numbers.{highest}
use Rattle.hex_text.specs.Lines.{hex_of}
use Rattle.lines.specs.Texts.{most_counted}

-- the backslash, an x and a plus
abbrev pub backslash : ℕ
backslash = 92

abbrev pub char_x : ℕ
char_x = 120

abbrev pub plus : ℕ
plus = 43

-- a byte from 21 to 7e is shown as it is, but the backslash
unfoldable pub is_plain : ℕ → Bool
is_plain b = leb 33 b && (leb b 126 && not (eqb b backslash))

-- any other as \x and its two digits
unfoldable pub shown_byte : ℕ → List ℕ
shown_byte b = cond (is_plain b) (b ∷ []) (backslash ∷ char_x ∷ hex_of (b ∷ []))

abbrev pub shown_bytes : List ℕ → List ℕ
shown_bytes [] = []
shown_bytes (b ∷ bs) = shown_byte b ++ shown_bytes bs

-- a number from 1 on, in decimal
abbrev pub places_of : ℕ → ℕ
places_of n = highest (λ k. leb (10 ^ (k - 1)) n) 20

abbrev pub decimal_of : ℕ → List ℕ
decimal_of n = last_digits 10 (places_of n) n

-- so many more bytes, as \+ and their number
unfoldable pub shown_more : ℕ → List ℕ
shown_more n = cond (eqb n 0) [] (backslash ∷ plus ∷ decimal_of n)

-- of a line 40 bytes are shown, and how many more there are, as far as a number goes
abbrev pub most_shown : ℕ
most_shown = 40

abbrev pub shown_line : List ℕ → List ℕ
shown_line line = shown_bytes (take most_shown line) ++ shown_more (min (length line - most_shown) most_counted)
