-- A digit written is read back, a digit read is written back, and so with a byte. Assumes nothing.
use mathlib.Core.Path.{◌≡◌, refl, ap, ◌∙◌}
use mathlib.Core.Bool.{Bool, true, false, ◌&&◌}
use mathlib.Core.Logic.{⊎_elim}
use Prim.Native.Nat.{ℕ, ◌+◌, ◌-◌, ◌*◌, ◌/◌, ◌%◌, ◌≤◌, ◌<◌}
use native.Mathlib.Omega.{arith}
use borrow.Author.Tests.{lt-ltb, le-ltb, le-leb, lt-leb, leb-true}
use lib.Dec.{leb}
use Rattle.base.proofs.Bools.{and_left, and_right}
use Rattle.base.proofs.Facts.{lt_or_le}
use Rattle.hex_text.specs.Digits.{radix, ten, char0, char9, char_a, char_f, digit_of, char_of, byte_of}

digit_low : (c : ℕ) → char0 ≤ c → c ≤ char9 → digit_of c ≡ c - char0
unfolding digit_of
digit_low c l u = simp (le-leb char0 c l, le-leb c char9 u)

digit_high : (c : ℕ) → char_a ≤ c → c ≤ char_f → digit_of c ≡ c - char_a + ten
unfolding digit_of
digit_high c l u = simp (le-leb char0 c (omega arith), lt-leb c char9 (omega arith), le-leb char_a c l, le-leb c char_f u)

char_low : (n : ℕ) → n < ten → char_of n ≡ char0 + n
unfolding char_of
char_low n h = let e : n % radix ≡ n = omega arith in simp (e, lt-ltb n ten h)

char_high : (n : ℕ) → ten ≤ n → n < radix → char_of n ≡ char_a + (n - ten)
unfolding char_of
char_high n l u = let e : n % radix ≡ n = omega arith in simp (e, le-ltb n ten l)

pub digit_char : (n : ℕ) → n < radix → digit_of (char_of n) ≡ n
digit_char n h = ⊎_elim low high (lt_or_le n ten)
  where
    low : n < ten → digit_of (char_of n) ≡ n
    low l = ap digit_of (char_low n l) ∙ digit_low (char0 + n) (omega arith) (omega arith) ∙ omega arith

    high : ten ≤ n → digit_of (char_of n) ≡ n
    high l = ap digit_of (char_high n l h) ∙ digit_high (char_a + (n - ten)) (omega arith) (omega arith) ∙ omega arith

no_digit : (c : ℕ) → (leb char0 c && leb c char9) ≡ false → (leb char_a c && leb c char_f) ≡ false → digit_of c ≡ radix
unfolding digit_of
no_digit c e f = simp (e, f)

pub char_digit : (c : ℕ) → digit_of c < radix → char_of (digit_of c) ≡ c
char_digit c = go (leb char0 c && leb c char9) refl (leb char_a c && leb c char_f) refl
  where
    go : (p : Bool) → (leb char0 c && leb c char9) ≡ p → (q : Bool) → (leb char_a c && leb c char_f) ≡ q → digit_of c < radix → char_of (digit_of c) ≡ c
    go true e q f h =
        let l : char0 ≤ c = leb-true _ _ (and_left _ _ e) in
        let u : c ≤ char9 = leb-true _ _ (and_right (leb char0 c) _ e) in
        ap char_of (digit_low c l u) ∙ char_low (c - char0) (omega arith) ∙ omega arith
    go false e true f h =
        let l : char_a ≤ c = leb-true _ _ (and_left _ _ f) in
        let u : c ≤ char_f = leb-true _ _ (and_right (leb char_a c) _ f) in
        ap char_of (digit_high c l u) ∙ char_high (c - char_a + ten) (omega arith) (omega arith) ∙ omega arith
    go false e false f h = absurd (omega (arith, no_digit c e f))

pub byte_chars : (b : ℕ) → b < radix * radix → byte_of (char_of (b / radix)) (char_of (b % radix)) ≡ b
unfolding byte_of
byte_chars b h = rw (digit_char (b / radix) (omega arith), digit_char (b % radix) (omega arith)) (omega arith)

pub high_char : (h l : ℕ) → digit_of h < radix → char_of (byte_of h l / radix) ≡ h
unfolding byte_of
high_char h l p = let e : (digit_of h % radix * radix + digit_of l % radix) / radix ≡ digit_of h = omega arith in rw e (char_digit h p)

pub low_char : (h l : ℕ) → digit_of l < radix → char_of (byte_of h l % radix) ≡ l
unfolding byte_of
low_char h l q = let e : (digit_of h % radix * radix + digit_of l % radix) % radix ≡ digit_of l = omega arith in rw e (char_digit l q)

pub byte_fits : (h l : ℕ) → byte_of h l < radix * radix
unfolding byte_of
byte_fits h l = omega arith
