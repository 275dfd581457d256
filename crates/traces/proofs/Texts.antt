-- What is put stands in the pair, as far as it has room: all that a pair is made of. Assumes nothing.
use mathlib.Core.Path.{◌≡◌, refl, ap, sym, ◌∙◌}
use mathlib.Core.Bool.{Bool, true, false, cond}
use mathlib.Core.List.{List, [], ◌∷◌, ◌++◌, append-nil}
use Prim.Native.Nat.{ℕ, zero, suc, ◌+◌, ◌-◌, ◌*◌, ◌/◌, ◌^◌, ◌≤◌, ◌<◌}
use native.Mathlib.Numerals.{add-one}
use native.Mathlib.Omega.{arith}
use lib.Dec.{eqb, leb}
use lib.ListN.{length, set, length-set, length-append, length-take}
use lib.Seq.{append_snoc, take-suc-set}
use borrow.Author.Tests.{lt-ltb}
use Rattle.io.specs.Digits.{last_digits}
use Rattle.base.proofs.Highest.{highest_le}
use Rattle.lines.specs.Texts.{line_feed}
use Rattle.steps.specs.declared.Answer.{Answer}
use Rattle.steps.specs.Answers.{telling_of}
use Rattle.answers.specs.Answers.{write_answer}
use Rattle.answers.proofs.Lengths.{answer_line_length}
use Rattle.hex_text.specs.Lines.{hex_of}
use Rattle.traces.specs.declared.CutLine.{CutLine}
use Rattle.traces.specs.declared.Pair.{Pair}
use Rattle.traces.specs.Shown.{backslash, char_x, plus, is_plain, shown_byte, shown_bytes, places_of, decimal_of, shown_more, most_shown}
use Rattle.traces.specs.Pairs.{blank}
use Rattle.traces.specs.Writing.{held_in, pair_room, no_pair, text_in, put_of, put_all, pair_made}

module _ (p : Pair) (b : ℕ) (slots : length p.text ≡ pair_room) (room : p.fill < pair_room) where
  put_is : put_of p b ≡ record { text = set p.text p.fill b; fill = p.fill + 1 }
  unfolding put_of
  put_is = rw (lt-ltb p.fill pair_room room)

  put_text : text_in (put_of p b) ≡ text_in p ++ (b ∷ [])
  put_text = rw (put_is, add-one) (take-suc-set p.text p.fill b (omega arith))

all_text : (p : Pair) (bs : List ℕ) → length p.text ≡ pair_room → p.fill + length bs ≤ pair_room → text_in (put_all p bs) ≡ text_in p ++ bs
all_text p [] slots room = sym (append-nil (text_in p))
all_text p (b ∷ bs) slots room =
    let e = put_is p b slots (omega arith) in
    all_text (put_of p b) bs (ap (λ (q : Pair). length q.text) e ∙ length-set p.text p.fill b ∙ slots) (omega (arith, ap (λ (q : Pair). q.fill) e))
    ∙ ap (λ (xs : List ℕ). xs ++ bs) (put_text p b slots (omega arith)) ∙ append_snoc (text_in p) b bs

-- ---- there is room for all

byte_length : (b : ℕ) → length (shown_byte b) ≤ 4
unfolding shown_byte
byte_length b = go (is_plain b)
  where
    go : (x : Bool) → length (cond x (b ∷ []) (backslash ∷ char_x ∷ hex_of (b ∷ []))) ≤ 4
    go true = omega arith
    go false = omega arith

bytes_length : (bs : List ℕ) → length (shown_bytes bs) ≤ length bs * 4
bytes_length [] = omega arith
bytes_length (b ∷ bs) = omega (arith, length-append (shown_byte b) (shown_bytes bs), byte_length b, bytes_length bs)

digits_length : (k n : ℕ) → length (last_digits 10 k n) ≡ k
digits_length zero n = refl
digits_length (suc k) n = length-append (last_digits 10 k (n / 10)) _ ∙ omega (arith, digits_length k (n / 10))

more_length : (n : ℕ) → length (shown_more n) ≤ 22
unfolding shown_more
more_length n = go (eqb n 0)
  where
    go : (x : Bool) → length (cond x [] (backslash ∷ plus ∷ decimal_of n)) ≤ 22
    go true = omega arith
    go false = omega (arith, digits_length (places_of n) n, highest_le (λ k. leb (10 ^ (k - 1)) n) 20)

-- all that a pair is made of
pub pair_text : (k : CutLine) (a : Answer) → k.fill ≤ most_shown
    → text_in (pair_made k a) ≡ shown_bytes (held_in k) ++ (shown_more k.more ++ (blank ∷ write_answer a ++ (line_feed ∷ [])))
pair_text k a few =
    let answer = answer_line_length (telling_of a) in
    let rest = blank ∷ write_answer a ++ (line_feed ∷ []) in
    all_text no_pair _ refl
    (omega (
      arith,
      length-append (shown_bytes (held_in k)) (shown_more k.more ++ rest),
      length-append (shown_more k.more) rest,
      length-append (write_answer a) (line_feed ∷ []),
      bytes_length (held_in k),
      length-take k.fill k.held,
      more_length k.more,
    ))
