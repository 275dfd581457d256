-- `shapes::is_next` meets its contract. Assumes nothing.
use mathlib.Core.Path.{◌≡◌, refl, sym, ap, ◌∙◌}
use mathlib.Core.Bool.{Bool, true, false, ◌&&◌, true≢false}
use mathlib.Core.List.{List}
use Prim.Native.Nat.{ℕ, ◌*◌, ◌<◌}
use native.Mathlib.Omega.{arith}
use borrow.Author.Tests.{ne_eqb}
use lib.Dec.{eqb}
use lib.ListN.{replicate}
use Rattle.base.proofs.Bools.{and_no}
use Rattle.hex_text.specs.Lines.{chars, bytes_of, over}
use Rattle.words.specs.Words.{byte_at, framed}
use Rattle.words.proofs.Framed.{framed_other, framed_spoilt, framed_good}
use Rattle.saved.specs.declared.Sort.{Sort}
use Rattle.saved.specs.Layout.{sort_number, size_of}
use Rattle.saved.specs.Editions.{editions, is_known, edition_numbered}
use Rattle.saved.specs.Shape.{is_frame}
use Rattle.saved.specs.Written.{most_bytes}
use Rattle.shapes.specs.Walk.{edition_for, is_next}
use Rattle.shapes.proofs.Frames.{small, bytes_same, says_so, edition_same}
use Rattle.shapes.proofs.Next.{reads_all}
use Rattle.shapes.proofs.is_next.Goals.{then-line-size_of, else-line-size_of}
use Rattle.shapes.proofs.is_next.Goals as goal

-- by the edition that a frame of the sort has with these bytes: a line that is no frame there; and one that is told by its bytes
module _ (k : Sort) (n : ℕ) (line : List ℕ) {bs : List ℕ} {own : ℕ} (b : bs ≡ over (bytes_of line) (replicate most_bytes 0)) (o : own ≡ edition_for k n bs) where
  abbrev size : ℕ
  size = size_of (edition_numbered editions own).widths k

  same : (i : ℕ) → i < most_bytes → byte_at bs i ≡ byte_at (bytes_of line) i
  same i l = bytes_same line bs b i (λ g. absurd (omega arith))

  next-by : is_next editions k n line ≡ (is_known editions own && framed size (says_so k) false line)
  unfolding is_next is_frame
  next-by =
      ap (λ (m : ℕ). is_known editions m && is_frame (edition_numbered editions m).widths k line)
      (sym (o ∙ edition_same bs (bytes_of line) (same 1 (omega arith)) k n))

  not-next : false ≡ framed size (says_so k) false line → false ≡ is_next editions k n line
  not-next e = sym (next-by ∙ and_no (is_known editions own) _ (sym e))

  by_bytes : says_so k (bytes_of line) ≡ framed size (says_so k) false line → (says_so k bs && is_known editions own) ≡ is_next editions k n line
  by_bytes e =
      ap (λ (m : ℕ). eqb m (sort_number k) && is_known editions own) (same 0 (omega arith)) ∙ ap (λ (x : Bool). x && is_known editions own) e
      ∙ other_way (framed size (says_so k) false line) (is_known editions own) ∙ sym next-by
    where
      other_way : (x y : Bool) → (x && y) ≡ (y && x)
      other_way true true = refl
      other_way true false = refl
      other_way false true = refl
      other_way false false = refl

pub overflow_mul-size_of : goal.overflow_mul-size_of
overflow_mul-size_of c = omega (arith, small (reads_all c.edition_for-own.result) c.args.k, c.size_of.ensures)

pub returns-then-all_hex : goal.returns-then-all_hex
returns-then-all_hex c =
    elim c.if-line-size_of.branch [
      | then-line-size_of w ↦
          c.says.ensures
          ∙ by_bytes c.args.k c.args.edition c.args.line.now c.first_bytes-b.ensures c.edition_for-own.ensures
          (framed_good _ (says_so c.args.k) false c.args.line.now (w.if-line-size_of.true ∙ ap (λ (n : ℕ). chars * n) c.size_of.ensures) (sym w.all_hex.ensures ∙ sym w.value-is ∙ c.if-all_hex.true))
      | else-line-size_of w ↦ absurd (true≢false (sym c.if-all_hex.true ∙ w.value-is ∙ ne_eqb _ _ w.if-line-size_of.false))
    ]

pub returns-else-all_hex : goal.returns-else-all_hex
returns-else-all_hex c =
    c.if-all_hex.false
    ∙ elim c.if-line-size_of.branch [
      | then-line-size_of w ↦
          not-next c.args.k c.args.edition c.args.line.now c.first_bytes-b.ensures c.edition_for-own.ensures
          (framed_spoilt _ (says_so c.args.k) false _ (w.if-line-size_of.true ∙ ap (λ (n : ℕ). chars * n) c.size_of.ensures) (sym w.all_hex.ensures ∙ sym w.value-is ∙ c.if-all_hex.false))
      | else-line-size_of w ↦
          not-next c.args.k c.args.edition c.args.line.now c.first_bytes-b.ensures c.edition_for-own.ensures
          (framed_other _ (says_so c.args.k) false _ (λ l. w.if-line-size_of.false (l ∙ ap (λ (n : ℕ). chars * n) (sym c.size_of.ensures))))
    ]
