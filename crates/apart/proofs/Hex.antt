-- What the definitions of digits and lines give where a wrong program differs. Assumes nothing.
use mathlib.Core.Path.{◌≡◌, refl}
use mathlib.Core.Bool.{true, false}
use mathlib.Core.List.{[], ◌∷◌, ◌++◌}
use lib.ListN.{replicate}
use Rattle.base.specs.Numbers.{every}
use Rattle.hex_text.specs.Digits.{digit_of, char_of, byte_of}
use Rattle.hex_text.specs.Lines.{all_hex, bytes_of, hex_of, over}
use Rattle.std.proofs.Common.{Some, None}
use Rattle.words.specs.Words.{framed}

-- the characters 0, 1, 2, A and g are 48, 49, 50, 65 and 103

pub upper_case_is_taken : digit_of 65 ≡ 16
unfolding digit_of
upper_case_is_taken = refl

pub digit_takes_a_colon : digit_of 58 ≡ 16
unfolding digit_of
digit_takes_a_colon = refl

pub char_in_upper_case : char_of 10 ≡ 97
unfolding char_of
char_in_upper_case = refl

pub char_of_the_high_digit : char_of 26 ≡ 97
unfolding char_of
char_of_the_high_digit = refl

pub low_digit_first : byte_of 49 48 ≡ 16
unfolding digit_of byte_of
low_digit_first = refl

pub byte_drops_the_high_digit : byte_of 49 48 ≡ 16
unfolding digit_of byte_of
byte_drops_the_high_digit = refl

pub all_hex_by_the_least : all_hex (replicate 26 48 ++ (103 ∷ [])) ≡ false
unfolding every digit_of all_hex
all_hex_by_the_least = refl

pub all_hex_of_none : all_hex [] ≡ true
unfolding every all_hex
all_hex_of_none = refl

pub unhex_zeroes_the_rest : over (bytes_of (48 ∷ 49 ∷ [])) (9 ∷ 9 ∷ []) ≡ 1 ∷ 9 ∷ []
unfolding digit_of byte_of
unhex_zeroes_the_rest = refl

pub unhex_stops_early : over (bytes_of (48 ∷ 49 ∷ 48 ∷ 50 ∷ [])) (0 ∷ 0 ∷ []) ≡ 1 ∷ 2 ∷ []
unfolding digit_of byte_of
unhex_stops_early = refl

pub enhex_low_digit_first : over (hex_of (16 ∷ [])) (0 ∷ 0 ∷ []) ≡ 49 ∷ 48 ∷ []
unfolding char_of
enhex_low_digit_first = refl

pub enhex_wants_room : over (hex_of (1 ∷ [])) (0 ∷ []) ≡ 48 ∷ []
unfolding char_of
enhex_wants_room = refl

-- ---- lines of so many bytes, in words

pub reads_a_line_of_odd_length : framed 1 Some None (48 ∷ 49 ∷ 50 ∷ []) ≡ None
unfolding framed
reads_a_line_of_odd_length = refl

pub what_a_line_lacks_is_1 : over (bytes_of []) (replicate 1 0) ≡ 0 ∷ []
what_a_line_lacks_is_1 = refl

pub writes_no_bytes : over (hex_of (171 ∷ [])) (replicate 2 0) ≡ 97 ∷ 98 ∷ []
unfolding char_of
writes_no_bytes = refl
