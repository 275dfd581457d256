-- What a line feed does, a law for each way that the line is judged. Assumes nothing.
use mathlib.Core.Path.{◌≡◌, sym, ap, ◌∙◌}
use mathlib.Core.Bool.{Bool, true, false, cond}
use mathlib.Core.List.{List}
use Prim.Native.Nat.{ℕ, ◌≤◌, ◌<◌}
use native.Mathlib.Omega.{arith}
use lib.ListN.{take, replicate, length-take}
use Rattle.hex_text.specs.Lines.{bytes_of, over}
use Rattle.lines.specs.Held.{nothing_read}
use Rattle.lines.proofs.Held.{held_over_lem, held_past, held_within}
use Rattle.saved.specs.declared.Sort.{Sort}
use Rattle.saved.specs.Layout.{size_of}
use Rattle.saved.specs.Editions.{editions, widths1}
use Rattle.saved.specs.Shape.{is_frame}
use Rattle.saved.specs.Written.{most_bytes}
use Rattle.shapes.specs.declared.Left.{Left}
use Rattle.shapes.specs.declared.Shape.{Shape}
use Rattle.std.proofs.Common.{Option, Some, None}
use Rattle.lines.specs.Texts.{one_more}
use Rattle.shapes.specs.Walk.{kept_chars, due_of, edition_for, shape_held, broken_at, next_line, is_next, ended_as, line_ended}
use Rattle.lines.specs.Readers.{reader_of}
use Rattle.shapes.proofs.Frames.{small, bytes_same, says_so, left_same, left_any}
use Rattle.shapes.proofs.Next.{next_none, reads_all}

module _ (s : Shape) where
  pub judged_end : due_of s.left ≡ None → broken_at s ≡ line_ended s
  unfolding ended_as
  judged_end e = sym (ap (λ (d : Option Sort). ended_as editions d s) e)

  module _ (k : Sort) (due : due_of s.left ≡ Some k) where
    abbrev next : List ℕ → Bool
    next line = is_next editions k s.left.edition line

    -- the next line, with these frames left
    abbrev after : Left → Shape
    after l = record { left = l; reader = nothing_read kept_chars reader_of; number = one_more s.number; broken = s.broken }

    by_test : (t : Bool) → next (shape_held s) ≡ t → cond t (next_line widths1 k (bytes_of (shape_held s)) s) (broken_at s) ≡ line_ended s
    unfolding ended_as
    by_test t e =
        sym
        (ap (λ (d : Option Sort). ended_as editions d s) due
        ∙ (λ i. cond (next (shape_held s)) (after (left_any (edition_for k s.left.edition (bytes_of (shape_held s))) k (bytes_of (shape_held s)) s.left i)) (broken_at s))
        ∙ ap (λ (x : Bool). cond x (next_line widths1 k (bytes_of (shape_held s)) s) (broken_at s)) e)

    -- too long, by its flag or by its fill: a frame in no edition
    pub judged_over : s.reader.over ≡ true → broken_at s ≡ line_ended s
    unfolding is_frame
    judged_over e =
        by_test false
        (next_none editions reads_all k s.left.edition (shape_held s)
        (λ w f. sym (held_over_lem (size_of w k) (says_so k) false kept_chars (small f k) s.reader.held s.reader.fill s.reader.over e)))

    pub judged_past : kept_chars < s.reader.fill → broken_at s ≡ line_ended s
    unfolding is_frame
    judged_past h =
        by_test false
        (next_none editions reads_all k s.left.edition (shape_held s)
        (λ w f. sym (held_past (size_of w k) (says_so k) false kept_chars (small f k) s.reader.held s.reader.fill s.reader.over h)))

    module _ (o : s.reader.over ≡ false) (h : s.reader.fill ≤ kept_chars) where
      pub judged_other : next (take s.reader.fill s.reader.held) ≡ false → broken_at s ≡ line_ended s
      judged_other e = by_test false (ap next (sym (held_within kept_chars s.reader.held s.reader.fill s.reader.over o h)) ∙ e)

      pub judged_frame : (q : Shape) (bs : List ℕ) → next (take s.reader.fill s.reader.held) ≡ true
          → bs ≡ over (bytes_of (take s.reader.fill s.reader.held)) (replicate most_bytes 0) → q ≡ next_line widths1 k bs s → q ≡ line_ended s
      judged_frame q bs e f g =
          let line = take s.reader.fill s.reader.held in
          let held : line ≡ shape_held s = held_within kept_chars s.reader.held s.reader.fill s.reader.over o h in
          let same = left_same bs (bytes_of line) (λ i. bytes_same line bs f i (λ l. omega (arith, length-take s.reader.fill s.reader.held))) widths1 k s.left in
          g ∙ (λ i. after (same i))
          ∙ ap (λ (x : List ℕ). next_line widths1 k (bytes_of x) s) held ∙ by_test true (ap next (sym held) ∙ e)
