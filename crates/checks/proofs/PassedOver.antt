-- However a text is cut, what is passed over of it is the same. Assumes nothing.
use mathlib.Core.Path.{◌≡◌, refl, sym, ap, ◌∙◌}
use mathlib.Core.Bool.{Bool, true, false, cond}
use mathlib.Core.List.{List, [], ◌∷◌, ◌++◌, append_assoc, append-nil}
use Prim.Native.Nat.{ℕ, ◌+◌, ◌<◌}
use native.Mathlib.Numerals.{add-one}
use native.Mathlib.Omega.{arith}
use borrow.Author.Tests.{eqb-true}
use lib.Dec.{eqb}
use lib.ListN.{length, get_or, drop}
use lib.Seq.{drop-cons, drop-length}
use Rattle.lines.proofs.Held.{held_empty, held_some, held_framed}
use Rattle.steps.specs.declared.Step.{Step}
use Rattle.std.proofs.Common.{Option, None}
use Rattle.frames.specs.Layout.{step_bytes}
use Rattle.frames.specs.Steps.{step_in, read_step}
use Rattle.lines.specs.Texts.{line_feed, lines}
use Rattle.lines.specs.Readers.{width, fresh_reader, line_held, push_of, reader_after}
use Rattle.lines.specs.Folds.{over_lines}
use Rattle.lines.proofs.Lines.{Plain, none, more, plain_snoc, line_first, line_last}
use Rattle.lines.proofs.Readers.{StandsFor, fresh_holds, push_holds}
use Rattle.checks.specs.declared.passed.Passed.{Passed}
use Rattle.checks.specs.declared.passed.Passing.{Passing}
use Rattle.checks.specs.Passing.{last_after, passed_after_read, passed_after_line, passed_of, new_passing, held_ended, after_byte, passed_by, finished_passed}

-- two pieces are passed like the text that they are
pub passed_append : (p : Passing) (x y : List ℕ) → passed_by p (x ++ y) ≡ passed_by (passed_by p x) y
passed_append p [] y = refl
passed_append p (b ∷ x) y = passed_append (after_byte p b) x y

last_snoc : (a : ℕ) (p : List ℕ) (b : ℕ) → b ≡ last_after a (p ++ (b ∷ []))
last_snoc a [] b = refl
last_snoc a (c ∷ p) b = last_snoc c p b

-- a line that is held has ended as the one that it stands for
ended : (p : Passing) (q : List ℕ) → StandsFor p.reader q → p.last ≡ last_after 0 q → held_ended p ≡ passed_after_line p.passed q
unfolding line_held
ended p q h e =
    let r = p.reader in
    ap (λ (x : Option Step). passed_after_read p.passed x p.last) (held_framed step_bytes step_in None width (omega arith) r.held r.fill r.over h)
    ∙ ap (passed_after_read p.passed (read_step q)) e

-- after a byte, by whether it is a line feed
abbrev by_feed : Passing → ℕ → Bool → Passing
by_feed p b x = record { passed = cond x (held_ended p) p.passed; reader = cond x fresh_reader (push_of p.reader b); last = cond x 0 b }

-- from any point of a line
abbrev From : List ℕ → Type 0
From text =
    (p : Passing) (q : List ℕ) → Plain q → StandsFor p.reader q → p.last ≡ last_after 0 q
    → finished_passed (passed_by p text) ≡ over_lines passed_after_line p.passed (lines (q ++ text))

from : (text : List ℕ) → From text
unfolding finished_passed after_byte reader_after
from [] p [] s h e = simp (held_empty h)
from [] p (b ∷ q) (more n s) h e =
    simp (held_some h)
    (ended p (b ∷ q) h e ∙ sym (ap (over_lines passed_after_line p.passed) (ap (λ (l : List ℕ). lines (b ∷ l)) (append-nil q) ∙ line_last b q n s)))
from (b ∷ text) p q s h e = go (from text) (eqb b line_feed) refl
  where
    go : From text → (x : Bool) → eqb b line_feed ≡ x
        → finished_passed (passed_by (by_feed p b x) text) ≡ over_lines passed_after_line p.passed (lines (q ++ (b ∷ text)))
    go on true n =
        on (by_feed p b true) [] none fresh_holds refl ∙ ap (λ (x : Passed). over_lines passed_after_line x (lines text)) (ended p q h e)
        ∙ sym (ap (over_lines passed_after_line p.passed) (ap (λ (k : ℕ). lines (q ++ (k ∷ text))) (eqb-true b line_feed n) ∙ line_first text s))
    go on false n =
        on (by_feed p b false) (q ++ (b ∷ [])) (plain_snoc b s n) (push_holds p.reader b h) (last_snoc 0 q b)
        ∙ ap (λ (l : List ℕ). over_lines passed_after_line p.passed (lines l)) (append_assoc q (b ∷ []) text)

-- THE THEOREM: at the end, what was passed over is that of the text's lines
pub passed_text : (text : List ℕ) → finished_passed (passed_by new_passing text) ≡ passed_of text
passed_text text = from text new_passing [] none fresh_holds refl

-- ---- the loop that takes byte after byte

-- what comes of the rest of a piece comes of all of it
pub record Upto (p : Passing) (piece : List ℕ) (q : Passing) (i : ℕ) : Type 0 where
  pub state : passed_by q (drop i piece) ≡ passed_by p piece

pub upto_none : (p : Passing) (piece : List ℕ) → Upto p piece p 0
upto_none p piece = record { state = refl }

module _ {p : Passing} {piece : List ℕ} {q : Passing} {i : ℕ} (u : Upto p piece q i) where
  pub upto_more : (r : Passing) → i < length piece → r ≡ after_byte q (get_or piece i 0) → Upto p piece r (i + 1)
  upto_more r h e =
      let one : drop i piece ≡ get_or piece i 0 ∷ drop (i + 1) piece = rw (add-one, drop-cons piece i 0) in
      record { state = ap (λ (x : Passing). passed_by x (drop (i + 1) piece)) e ∙ sym (ap (passed_by q) one) ∙ u.state }

  pub upto_all : i ≡ length piece → q ≡ passed_by p piece
  upto_all h = sym (ap (passed_by q) (ap (λ (k : ℕ). drop k piece) h ∙ drop-length piece)) ∙ u.state
