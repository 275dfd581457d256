-- `saved::put_line` meets its contract. Assumes nothing.
use mathlib.Core.Path.{◌≡◌, sym, ap, ◌∙◌}
use mathlib.Core.List.{List, [], ◌∷◌, ◌++◌, append_assoc}
use Prim.Native.Nat.{ℕ, ◌+◌, ◌-◌, ◌*◌, ◌<◌, ◌≤◌}
use native.Mathlib.Omega.{arith}
use lib.ListN.{length, set, take, drop, length-take, length-drop}
use borrow.Author.Rules.{rules}
use borrow.Rule.Slice.PartMut.{mid_of, put_mid, Post-is}
use Rattle.hex_text.specs.Lines.{chars, hex_of, over}
use Rattle.hex_text.proofs.Places.{hex_length}
use Rattle.hex_text.proofs.Trips.{over_all}
use Rattle.lines.specs.Texts.{placed, line_feed}
use Rattle.lines.proofs.Placed.{placed_length, placed_set}
use Rattle.saved.specs.Saved.{text_of}
use Rattle.saved.specs.Written.{Written}
use Rattle.saved.proofs.Texts.{text_length}
use Rattle.saved.proofs.put_line.Goals as goal

-- the characters in a part that is as long as they are, and then the line feed
module _ (out : List ℕ) (at : ℕ) (f : List ℕ) (room : at + length (text_of (f ∷ [])) ≤ length out) where
  abbrev end : ℕ
  end = at + chars * length f

  inside : end + 1 ≤ length out
  inside = omega (arith, text_length f [])

  part_length : length (mid_of at (end - at) out) ≡ length (hex_of f)
  part_length = omega (arith, length-take (end - at) (drop at out), length-drop at out, hex_length f, inside)

  chars-in : (part : List ℕ) → part ≡ over (hex_of f) (mid_of at (end - at) out) → put_mid at (end - at) out part ≡ placed out at (hex_of f)
  chars-in part e =
      let n : end ≡ at + length (hex_of f) = omega (arith, hex_length f) in
      ap (put_mid at (end - at) out) (e ∙ over_all (hex_of f) (mid_of at (end - at) out) (sym part_length))
      ∙ ap (λ (l : List ℕ). take at out ++ (hex_of f ++ l)) (Post-is at end out (omega arith) ∙ ap (λ (k : ℕ). drop k out) n)
      ∙ sym (append_assoc (take at out) (hex_of f) (drop (at + length (hex_of f)) out))

  below : (part : List ℕ) → part ≡ over (hex_of f) (mid_of at (end - at) out) → end < length (put_mid at (end - at) out part)
  below part e = omega (arith, ap length (chars-in part e), placed_length out at (hex_of f) (omega (arith, inside, hex_length f)), inside)

  line : (part : List ℕ) → part ≡ over (hex_of f) (mid_of at (end - at) out)
      → Written out at (set (put_mid at (end - at) out part) end line_feed) (end + 1) (f ∷ [])
  line part e =
      let n : end ≡ at + length (hex_of f) = omega (arith, hex_length f) in
      record {
        buffer = ap (λ (l : List ℕ). set l end line_feed) (chars-in part e) ∙ ap (λ (k : ℕ). set (placed out at (hex_of f)) k line_feed) n
            ∙ placed_set out at (hex_of f) line_feed (omega (arith, inside));
        next = omega (arith, text_length f []);
        within = inside;
      }

pub overflow_add-end : goal.overflow_add-end
overflow_add-end c = let h = inside c.args.out.now c.args.at c.args.frame.now c.requires in search rules

pub slice_bounds-enhex-end : goal.slice_bounds-enhex-end
slice_bounds-enhex-end c = let h : c.args.at + chars * length c.args.frame.now + 1 ≤ length c.args.out.now = inside c.args.out.now c.args.at c.args.frame.now c.requires in search rules

pub bounds-out-end : goal.bounds-out-end
bounds-out-end c =
    below c.args.out.now c.args.at c.args.frame.now c.requires _ c.enhex.ensures

pub returns : goal.returns
returns c =
    line c.args.out.now c.args.at c.args.frame.now c.requires _ c.enhex.ensures
