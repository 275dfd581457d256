-- What is kept of a line, however it arrives: its first bytes, and how many came after them; so a pair is the line as it is shown, and its answer.
-- Assumes nothing.
use mathlib.Core.Path.{◌≡◌, refl, ap, sym, ◌∙◌}
use mathlib.Core.Bool.{Bool, true, false, cond}
use mathlib.Core.List.{List, [], ◌∷◌, ◌++◌, append_assoc}
use mathlib.Core.Logic.{⊎_elim}
use Prim.Native.Nat.{ℕ, ◌+◌, ◌-◌, ◌≤◌, ◌<◌, min}
use native.Mathlib.Numerals.{add-one}
use native.Mathlib.Omega.{arith}
use lib.Dec.{eqb, ltb}
use lib.ListN.{length, take, set, length-set, length-append}
use lib.Seq.{take-suc-set, take_all, take-append-le}
use borrow.Author.Tests.{lt-ltb, le-ltb, ltb-true, ltb-false}
use Rattle.base.proofs.Facts.{lt_or_le}
use Rattle.lines.specs.Texts.{line_feed, rest_after, most_counted, one_more}
use Rattle.steps.specs.declared.Answer.{Answer}
use Rattle.answers.specs.Answers.{write_answer}
use Rattle.traces.specs.declared.CutLine.{CutLine}
use Rattle.traces.specs.Shown.{most_shown, shown_bytes, shown_more}
use Rattle.traces.specs.Pairs.{blank, pair_line}
use Rattle.traces.specs.Writing.{nothing_kept, kept_with, kept_after, kept_over, held_in, text_in, pair_made}
use Rattle.traces.proofs.Texts.{pair_text}

-- k is what is kept of the part p of a line
pub record Keeps (k : CutLine) (p : List ℕ) : Type 0 where
  pub slots : length k.held ≡ most_shown
  pub fill : k.fill ≡ min (length p) most_shown
  pub held : held_in k ≡ take most_shown p
  pub more : k.more ≡ min (length p - most_shown) most_counted

pub keeps_none : Keeps nothing_kept []
keeps_none = record { slots = refl; fill = refl; held = refl; more = refl }

-- one more, as far as a number goes
one_more_lem : (n : ℕ) → most_shown ≤ n → one_more (min (n - most_shown) most_counted) ≡ min (n + 1 - most_shown) most_counted
unfolding one_more
one_more_lem n h = go (ltb (min (n - most_shown) most_counted) most_counted) refl
  where
    go : (b : Bool) → ltb (min (n - most_shown) most_counted) most_counted ≡ b
        → cond b (min (n - most_shown) most_counted + 1) (min (n - most_shown) most_counted) ≡ min (n + 1 - most_shown) most_counted
    go true e = omega (arith, ltb-true (min (n - most_shown) most_counted) most_counted e)
    go false e = omega (arith, ltb-false (min (n - most_shown) most_counted) most_counted e)

module _ (k : CutLine) (p : List ℕ) (b : ℕ) (h : Keeps k p) where
  longer : length (p ++ (b ∷ [])) ≡ length p + 1
  longer = length-append p (b ∷ [])

  with_room : length p < most_shown → Keeps (kept_with k b) (p ++ (b ∷ []))
  unfolding kept_with
  with_room l =
      let at : k.fill ≡ length p = omega (arith, h.fill) in
      rw (lt-ltb k.fill most_shown (omega arith))
      (record {
        slots = length-set k.held k.fill b ∙ h.slots;
        fill = omega (arith, longer);
        held =
            ap (λ (n : ℕ). take n (set k.held k.fill b)) (add-one k.fill) ∙ take-suc-set k.held k.fill b (omega (arith, h.slots))
            ∙ ap (λ (xs : List ℕ). xs ++ (b ∷ [])) (h.held ∙ take_all most_shown p (omega arith)) ∙ sym (take_all most_shown (p ++ (b ∷ [])) (omega (arith, longer)));
        more = omega (arith, h.more, longer);
      })

  without : most_shown ≤ length p → Keeps (kept_with k b) (p ++ (b ∷ []))
  unfolding kept_with
  without l =
      rw (le-ltb k.fill most_shown (omega (arith, h.fill)))
      (record {
        slots = h.slots;
        fill = omega (arith, h.fill, longer);
        held = h.held ∙ sym (take-append-le most_shown p (b ∷ []) l);
        more = ap one_more h.more ∙ one_more_lem (length p) l ∙ ap (λ (n : ℕ). min (n - most_shown) most_counted) (sym longer);
      })

  pub keeps_with : Keeps (kept_with k b) (p ++ (b ∷ []))
  keeps_with = ⊎_elim with_room without (lt_or_le (length p) most_shown)

-- what is kept after a text is that of the part of a line after its last line feed
keeps_over : (k : CutLine) (p text : List ℕ) → Keeps k p → Keeps (kept_over k text) (rest_after p text)
unfolding kept_after
keeps_over k p [] h = h
keeps_over k p (b ∷ text) h =
    go (eqb b line_feed) (keeps_over nothing_kept [] text keeps_none) (keeps_over (kept_with k b) (p ++ (b ∷ [])) text (keeps_with k p b h))
  where
    go : (x : Bool) → Keeps (kept_over nothing_kept text) (rest_after [] text) → Keeps (kept_over (kept_with k b) text) (rest_after (p ++ (b ∷ [])) text)
        → Keeps (kept_over (cond x nothing_kept (kept_with k b)) text) (cond x (rest_after [] text) (rest_after (p ++ (b ∷ [])) text))
    go true y n = y
    go false y n = n

-- and its pair is the line as it is shown, and its answer
pub pair_is : (k : CutLine) (p : List ℕ) (a : Answer) → Keeps k p → text_in (pair_made k a) ≡ pair_line p a
pair_is k p a h =
    pair_text k a (omega (arith, h.fill))
    ∙ rw (h.held, h.more) (append_shown (shown_bytes (take most_shown p)) (shown_more (min (length p - most_shown) most_counted)))
  where
    append_shown : (xs ys : List ℕ) → xs ++ (ys ++ (blank ∷ write_answer a ++ (line_feed ∷ []))) ≡ (xs ++ ys) ++ (blank ∷ write_answer a ++ (line_feed ∷ []))
    append_shown xs ys = sym (append_assoc xs ys _)

-- of any text, the pair of what it has after its last line feed
pub text_pair : (text : List ℕ) (a : Answer) → text_in (pair_made (kept_over nothing_kept text) a) ≡ pair_line (rest_after [] text) a
text_pair text a = pair_is _ _ a (keeps_over nothing_kept [] text keeps_none)
