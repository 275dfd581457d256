-- What stands at each place of a line and of its bytes, and the loops that put one element after the other. Assumes nothing.
use mathlib.Core.Path.{◌≡◌, refl, ap, ◌∙◌}
use mathlib.Core.List.{List, [], ◌∷◌}
use Prim.Native.Nat.{ℕ, zero, suc, ◌+◌, ◌*◌, ◌/◌, ◌%◌, ◌≤◌, ◌<◌, min}
use native.Mathlib.Omega.{arith}
use lib.ListN.{length, get_or, set, length-set}
use Rattle.base.specs.Lists.{joined_at}
use Rattle.base.proofs.Joined.{joined_none, joined_more}
use Rattle.hex_text.specs.Digits.{byte_of}
use Rattle.hex_text.specs.Lines.{chars, bytes_of, hex_of, char_at, over}

pub bytes_length : (line : List ℕ) → length (bytes_of line) ≡ length line / chars
bytes_length [] = refl
bytes_length (h ∷ []) = refl
bytes_length (h ∷ l ∷ line) = omega (arith, bytes_length line)

pub hex_length : (bs : List ℕ) → length (hex_of bs) ≡ chars * length bs
hex_length [] = refl
hex_length (b ∷ bs) = omega (arith, hex_length bs)

pub byte_at : (line : List ℕ) (i : ℕ) → i < length line / chars → get_or (bytes_of line) i 0 ≡ byte_of (get_or line (chars * i) 0) (get_or line (chars * i + 1) 0)
byte_at [] i h = absurd (omega arith)
byte_at (a ∷ []) i h = absurd (omega arith)
byte_at (a ∷ b ∷ line) zero h = refl
byte_at (a ∷ b ∷ line) (suc i) h =
    let e : suc (suc (chars * i)) ≡ chars * suc i = omega arith in
    let f : suc (suc (chars * i + 1)) ≡ chars * suc i + 1 = omega arith in
    byte_at line i (omega arith) ∙ ap (λ (k : ℕ). byte_of (get_or (a ∷ b ∷ line) k 0) (get_or line (chars * i + 1) 0)) e
    ∙ ap (λ (k : ℕ). byte_of (get_or (a ∷ b ∷ line) (chars * suc i) 0) (get_or (a ∷ b ∷ line) k 0)) f

pub char_at_lem : (bs : List ℕ) (i : ℕ) → i / chars < length bs → get_or (hex_of bs) i 0 ≡ char_at (get_or bs (i / chars) 0) i
unfolding char_at
char_at_lem [] i h = absurd (omega arith)
char_at_lem (b ∷ bs) zero h = refl
char_at_lem (b ∷ bs) (suc zero) h = refl
char_at_lem (b ∷ bs) (suc (suc i)) h =
    let e : suc (suc i) / chars ≡ suc (i / chars) = omega arith in
    let f : suc (suc i) % chars ≡ i % chars = omega arith in
    rw (e, f) (char_at_lem bs i (omega arith))

-- out is ys with the first i of xs put over it
pub record Put (xs ys out : List ℕ) (i : ℕ) : Type 0 where
  pub long : length out ≡ length ys
  pub in_xs : i ≤ length xs
  pub in_ys : i ≤ length ys
  pub first : out ≡ joined_at i xs ys

pub put_none : (xs ys : List ℕ) → Put xs ys ys 0
put_none xs ys = record { long = refl; in_xs = omega arith; in_ys = omega arith; first = joined_none xs ys }

pub put_more : {xs ys out : List ℕ} {i v : ℕ} → Put xs ys out i → i < length xs → i < length ys → v ≡ get_or xs i 0 → Put xs ys (set out i v) (i + 1)
put_more {xs} {ys} {out} {i} {v} h p q e =
    record {
      long = length-set out i v ∙ h.long;
      in_xs = omega arith;
      in_ys = omega arith;
      first = ap (λ (l : List ℕ). set l i v) h.first ∙ ap (λ (k : ℕ). set (joined_at i xs ys) i k) e ∙ joined_more 0 i xs ys p q;
    }

-- one of both is at its end
pub put_all_lem : {xs ys out : List ℕ} {i : ℕ} → Put xs ys out i → i ≡ min (length xs) (length ys) → out ≡ over xs ys
put_all_lem {xs} {ys} h e = h.first ∙ ap (λ (k : ℕ). joined_at k xs ys) e
