-- The text of some frames: its lines are the frames in hexadecimal, and its last character is a line feed. Assumes nothing.
use mathlib.Core.Path.{◌≡◌, refl, sym, ap, ◌∙◌}
use mathlib.Core.Bool.{Bool, true, false, cond}
use mathlib.Core.List.{List, [], ◌∷◌, ◌++◌, map, append_assoc}
use Prim.Native.Nat.{ℕ, suc, ◌+◌, ◌-◌, ◌*◌, ◌%◌}
use native.Mathlib.Omega.{arith}
use borrow.Author.Tests.{ne_eqb}
use lib.Dec.{eqb, ltb}
use lib.ListN.{length, get_or, length-append}
use lib.Seq.{get_or-append_seam, get_or-append-add}
use Rattle.hex_text.specs.Digits.{radix, ten, char0, char_a, char_of}
use Rattle.hex_text.specs.Lines.{chars, bytes_of, hex_of}
use Rattle.hex_text.proofs.Places.{hex_length}
use Rattle.hex_text.proofs.Trips.{Bytes, bytes_hex}
use Rattle.lines.specs.Texts.{line_feed, lines}
use Rattle.lines.proofs.Lines.{Plain, none, more, line_first}
use Rattle.saved.specs.Saved.{text_of}

pub text_append : (xs ys : List (List ℕ)) → text_of (xs ++ ys) ≡ text_of xs ++ text_of ys
text_append [] ys = refl
text_append (f ∷ xs) ys =
    ap (λ (t : List ℕ). hex_of f ++ (line_feed ∷ t)) (text_append xs ys) ∙ sym (append_assoc (hex_of f) (line_feed ∷ text_of xs) (text_of ys))

-- one frame more is one line more
pub text_length : (f : List ℕ) (fs : List (List ℕ)) → length (text_of (f ∷ fs)) ≡ chars * length f + 1 + length (text_of fs)
text_length f fs = omega (arith, length-append (hex_of f) (line_feed ∷ text_of fs), hex_length f)

-- ---- the lines

-- a character of a digit is no line feed
char_plain : (n : ℕ) → eqb (char_of n) line_feed ≡ false
unfolding char_of
char_plain n = go (ltb (n % radix) ten)
  where
    go : (b : Bool) → eqb (cond b (char0 + n % radix) (char_a + (n % radix - ten))) line_feed ≡ false
    go true = ne_eqb (char0 + n % radix) line_feed (λ e. omega arith)
    go false = ne_eqb (char_a + (n % radix - ten)) line_feed (λ e. omega arith)

hex_plain : (bs : List ℕ) → Plain (hex_of bs)
hex_plain [] = none
hex_plain (b ∷ bs) = more (char_plain _) (more (char_plain _) (hex_plain bs))

pub text_lines : (fs : List (List ℕ)) → lines (text_of fs) ≡ map hex_of fs
text_lines [] = refl
text_lines (f ∷ fs) = line_first (text_of fs) (hex_plain f) ∙ ap (λ (ls : List (List ℕ)). hex_of f ∷ ls) (text_lines fs)

-- every frame is of bytes
pub data AllBytes : List (List ℕ) → Type 0 where
  all_none : AllBytes []
  all_more : {f : List ℕ} {fs : List (List ℕ)} → Bytes f → AllBytes fs → AllBytes (f ∷ fs)

-- and then the bytes of the lines are the frames
pub text_frames : (fs : List (List ℕ)) → AllBytes fs → map bytes_of (lines (text_of fs)) ≡ fs
text_frames fs b = ap (map bytes_of) (text_lines fs) ∙ go fs b
  where
    go : (fs : List (List ℕ)) → AllBytes fs → map bytes_of (map hex_of fs) ≡ fs
    go [] b = refl
    go (f ∷ fs) (all_more b bs) = cc (bytes_hex f b, go fs bs)

-- ---- the end

pub text_ends : (f : List ℕ) (fs : List (List ℕ)) → get_or (text_of (f ∷ fs)) (length (text_of (f ∷ fs)) - 1) 0 ≡ line_feed
text_ends f [] =
    let e : length (text_of (f ∷ [])) - 1 ≡ length (hex_of f) = omega (arith, length-append (hex_of f) (line_feed ∷ [])) in
    ap (λ (i : ℕ). get_or (text_of (f ∷ [])) i 0) e ∙ get_or-append_seam (hex_of f) line_feed [] 0
text_ends f (g ∷ gs) =
    let t = text_of (g ∷ gs) in
    let e : length (text_of (f ∷ g ∷ gs)) - 1 ≡ length (hex_of f) + suc (length t - 1) =
    omega (arith, length-append (hex_of f) (line_feed ∷ t), text_length g gs) in
    ap (λ (i : ℕ). get_or (text_of (f ∷ g ∷ gs)) i 0) e ∙ get_or-append-add (hex_of f) (line_feed ∷ t) (suc (length t - 1)) 0 ∙ text_ends g gs
