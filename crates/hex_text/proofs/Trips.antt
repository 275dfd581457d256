-- Bytes written are read back, and a line of digits that is read is the line of its bytes. Assumes nothing.
use mathlib.Core.Path.{◌≡◌, refl, ap, ◌∙◌}
use mathlib.Core.Bool.{true}
use mathlib.Core.List.{List, [], ◌∷◌, append-nil}
use Prim.Native.Nat.{ℕ, zero, suc, ◌-◌, ◌*◌, ◌/◌, ◌%◌, ◌<◌, min}
use native.Mathlib.Omega.{arith}
use borrow.Author.Tests.{lt-ltb, ltb-true}
use lib.ListN.{length, get_or, drop, replicate, length-replicate}
use lib.Seq.{take-length, drop-length}
use Rattle.base.specs.Lists.{joined_at}
use Rattle.base.proofs.Every.{every_at, every_all}
use Rattle.hex_text.specs.Digits.{radix, digit_of, is_digit, char_of}
use Rattle.hex_text.specs.Lines.{chars, all_hex, bytes_of, hex_of, over}
use Rattle.hex_text.proofs.Places.{bytes_length, hex_length}
use Rattle.hex_text.proofs.Values.{digit_char, byte_chars, high_char, low_char, byte_fits}

-- every number of the list is a byte
abbrev pub Bytes : List ℕ → Type 0
Bytes [] = Unit {0}
Bytes (b ∷ bs) = (b < radix * radix) × Bytes bs

pub byte_below : (bs : List ℕ) → Bytes bs → (i : ℕ) → get_or bs i 0 < radix * radix
byte_below [] f i = omega arith
byte_below (b ∷ bs) f zero = f.0
byte_below (b ∷ bs) f (suc i) = byte_below bs f.1 i

-- what is read from any line are bytes
pub bytes_below : (line : List ℕ) → Bytes (bytes_of line)
bytes_below [] = tt
bytes_below (h ∷ []) = tt
bytes_below (h ∷ l ∷ line) = (byte_fits h l, bytes_below line)

-- written and read
pub bytes_hex : (bs : List ℕ) → Bytes bs → bytes_of (hex_of bs) ≡ bs
bytes_hex [] f = refl
bytes_hex (b ∷ bs) f = cc (byte_chars b f.0, bytes_hex bs f.1)

char_is_digit : (n : ℕ) → n < radix → is_digit (char_of n) ≡ true
char_is_digit n h = lt-ltb (digit_of (char_of n)) radix (omega (arith, digit_char n h))

pub hex_all : (bs : List ℕ) → Bytes bs → all_hex (hex_of bs) ≡ true
unfolding all_hex
hex_all bs f = every_all _ _ (each bs f)
  where
    each : (bs : List ℕ) → Bytes bs → (i : ℕ) → i < length (hex_of bs) → is_digit (get_or (hex_of bs) i 0) ≡ true
    each [] f i h = absurd (omega arith)
    each (b ∷ bs) f zero h = let l : b < radix * radix = f.0 in char_is_digit (b / radix) (omega arith)
    each (b ∷ bs) f (suc zero) h = char_is_digit (b % radix) (omega arith)
    each (b ∷ bs) f (suc (suc i)) h = each bs f.1 i (omega arith)

-- read and written
pub hex_bytes : (n : ℕ) (line : List ℕ) → length line ≡ chars * n → all_hex line ≡ true → hex_of (bytes_of line) ≡ line
unfolding all_hex
hex_bytes n line e a = go n line e (λ i h. ltb-true _ _ (every_at (λ k. is_digit (get_or line k 0)) _ i a h))
  where
    go : (n : ℕ) (line : List ℕ) → length line ≡ chars * n → ((i : ℕ) → i < length line → digit_of (get_or line i 0) < radix) → hex_of (bytes_of line) ≡ line
    go n [] e d = refl
    go n (h ∷ []) e d = absurd (omega arith)
    go n (h ∷ l ∷ line) e d =
        cc (high_char h l (d 0 (omega arith)), low_char h l (d 1 (omega arith)), go (n - 1) line (omega arith) (λ i k. d (suc (suc i)) (omega arith)))

-- written over a list of the same length nothing else is left
pub over_all : (xs ys : List ℕ) → length xs ≡ length ys → over xs ys ≡ xs
over_all xs ys e =
    let m : min (length xs) (length ys) ≡ length xs = omega arith in
    ap (λ (k : ℕ). joined_at k xs ys) m ∙ cc (take-length xs, ap (λ (k : ℕ). drop k ys) e, drop-length ys, append-nil xs)

-- what `unhex` and `enhex` leave in as many places as they need
pub unhexed : (n : ℕ) (line out : List ℕ) → length line ≡ chars * n → out ≡ over (bytes_of line) (replicate n 0) → out ≡ bytes_of line
unhexed n line out l e = e ∙ over_all (bytes_of line) (replicate n 0) (omega (arith, bytes_length line, length-replicate {A = ℕ} n 0))

pub enhexed : (n : ℕ) (bs out : List ℕ) → length bs ≡ n → out ≡ over (hex_of bs) (replicate (chars * n) 0) → out ≡ hex_of bs
enhexed n bs out l e = e ∙ over_all (hex_of bs) (replicate (chars * n) 0) (omega (arith, hex_length bs, length-replicate {A = ℕ} (chars * n) 0))
