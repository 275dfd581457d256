-- `saved::put_notes` meets its contract. Assumes nothing.
use mathlib.Core.Path.{◌≡◌, refl, sym, ap, ◌∙◌}
use mathlib.Core.Bool.{Bool, true, false, cond}
use mathlib.Core.List.{List, [], ◌∷◌, ◌++◌}
use Prim.Native.Nat.{ℕ, suc, ◌+◌, ◌<◌}
use native.Mathlib.Numerals.{add-one}
use native.Mathlib.Omega.{arith}
use lib.ListN.{length, get_or, drop, drop_of_length-le}
use lib.Seq.{drop-cons}
use borrow.Author.Rules.{rules}
use Rattle.base.proofs.Facts.{mapped_long}
use Rattle.mail.specs.declared.Note.{Note}
use Rattle.mail.specs.Reports.{zero_note}
use Rattle.mail.specs.Mails.{note_slots}
use Rattle.mail.specs.Order.{is_unused}
use Rattle.saved.specs.Editions.{widths1}
use Rattle.saved.specs.Layout.{note_frame}
use Rattle.saved.specs.Saved.{note_frames}
use Rattle.saved.proofs.Going.{Next, going_start, going_room, going_more, going_end, going_length}
use Rattle.saved.proofs.put_notes.Goals as goal

-- the first of some notes, and then the others
first-note : (i : ℕ) (n : Note) (ns : List Note) → note_frames widths1 i (n ∷ ns) ≡ note_frames widths1 i (n ∷ []) ++ note_frames widths1 (suc i) ns
first-note i n ns = go (is_unused n)
  where
    go : (b : Bool) → cond b (note_frames widths1 (suc i) ns) (note_frame widths1 i n ∷ note_frames widths1 (suc i) ns) ≡ cond b [] (note_frame widths1 i n ∷ []) ++ note_frames widths1 (suc i) ns
    go true = refl
    go false = refl

next : (ns : List Note) (i : ℕ) → i < length ns
    → Next (note_frames widths1 i (drop i ns)) (note_frames widths1 i (get_or ns i zero_note ∷ [])) (note_frames widths1 (i + 1) (drop (i + 1) ns))
next ns i h =
    record {
      parts = ap (note_frames widths1 i) (drop-cons ns i zero_note h) ∙ first-note i (get_or ns i zero_note) (drop (suc i) ns)
          ∙ ap (λ (k : ℕ). note_frames widths1 i (get_or ns i zero_note ∷ []) ++ note_frames widths1 k (drop k ns)) (sym (add-one i));
    }

pub loop-i-init : goal.loop-i-init
loop-i-init c = (search rules, going_start (omega arith))

pub put_note-w-requires : goal.put_note-w-requires
put_note-w-requires c =
    let all : length c.args.m.notes ≡ note_slots = search (rules, mapped_long) in
    record {
      who_lt_byte = omega arith;
      n_in_bounds = going_room c.loop-i.invariant.1 (next c.args.m.notes c.loop-i.i (omega (arith, all))) c.requires;
    }

pub loop-i-preserved : goal.loop-i-preserved
loop-i-preserved c =
    let all : length c.args.m.notes ≡ note_slots = search (rules, mapped_long) in
    (search rules, going_more c.loop-i.invariant.1 (next c.args.m.notes c.loop-i.i (omega (arith, all))) c.put_note-w.ensures)

pub shape_of-out : goal.shape_of-out
shape_of-out c = going_length c.loop-i.invariant.1

pub returns : goal.returns
returns c =
    let all : length c.args.m.notes ≡ note_slots = search (rules, mapped_long) in
    going_end c.loop-i.invariant.1 (ap (note_frames widths1 c.loop-i.i) (drop_of_length-le c.args.m.notes {i = c.loop-i.i} (omega (arith, all))))
