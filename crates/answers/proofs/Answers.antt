-- What is written of an answer is read back, and a line that reads as a telling is the one frame of it. Assumes nothing.
use mathlib.Core.Path.{◌≡◌, refl, sym, ap, ◌∙◌, subst}
use mathlib.Core.Bool.{Bool, true, false, cond, ◌&&◌}
use mathlib.Core.List.{List}
use Prim.Native.Nat.{ℕ, ◌≤◌, ◌<◌}
use native.Mathlib.Omega.{arith}
use borrow.Author.Tests.{eqb-true, ne_eqb}
use lib.Dec.{eqb}
use lib.ListN.{length}
use Rattle.base.proofs.Bools.{and_left, and_right}
use Rattle.clock.specs.declared.Time.{Time}
use Rattle.clock.specs.Times.{limit, zero_time, same_time}
use Rattle.clock.specs.Ranges.{FitsTime}
use Rattle.clock.proofs.Order.{same_time_eq}
use Rattle.steps.specs.declared.Refusal.{Refusal}
use Rattle.steps.specs.Refusals.{refusal_number}
use Rattle.steps.specs.Answers.{Telling, numbers}
use Rattle.base.specs.Numbers.{byte}
use Rattle.hex_text.specs.Lines.{bytes_of, hex_of}
use Rattle.hex_text.proofs.Trips.{Bytes, bytes_below, byte_below}
use Rattle.std.proofs.Common.{Some, None, Ok, Err}
use Rattle.std.proofs.lemmas.Option.{none-some, same_Some}
use Rattle.words.specs.Words.{byte_at, word_at}
use Rattle.answers.specs.Answers.{answer_bytes, done, answer_frame, bytes_of_telling, numbered, refusals, refusal_of, telling_by, telling_in, read_answer, write_telling}
use Rattle.answers.specs.Ranges.{FitsTelling}
use Rattle.base.proofs.Cases.{◌▸◌}
use Rattle.words.proofs.Bytes.{high_word, low_word, word_parts, high_below, low_below, word_below, listed}
use Rattle.words.proofs.Framed.{framed_hex, is_frame_lem}
use Rattle.answers.proofs.Lengths.{telling_length}
use Rattle.answers.proofs.Numbered.{number_low, refusal_of_number, found}

frame_below : (refusal number term p l : ℕ) → refusal < byte → number ≤ limit → term ≤ limit → p ≤ limit → l ≤ limit
    → Bytes (answer_frame refusal number term (record { p = p; l = l }))
unfolding answer_frame
frame_below refusal number term p l h n t f g =
    h ▸ high_below _ n ▸ low_below _ ▸ high_below _ t ▸ low_below _ ▸ high_below _ f ▸ low_below _ ▸ high_below _ g ▸ low_below _ ▸ tt

telling_below : (t : Telling) → FitsTelling t → Bytes (bytes_of_telling t)
telling_below (Ok n) f = frame_below done n.number n.term n.time.p n.time.l (omega arith) f.0 f.1 f.2.p f.2.l
telling_below (Err r) f =
    frame_below (refusal_number r) 0 0 0 0 (omega (arith, (number_low r).1)) (omega arith) (omega arith) (omega arith) (omega arith)

-- the fields of the bytes that fields were written as
frame_read : (refusal number term : ℕ) (time : Time) → telling_in (answer_frame refusal number term time) ≡ telling_by refusal number term time
unfolding telling_in answer_frame
frame_read refusal number term time = simp (word_parts number, word_parts term, word_parts time.p, word_parts time.l)

refusing_read : (r : Refusal) → telling_by (refusal_number r) 0 0 zero_time ≡ Some (Err r)
unfolding telling_by same_time
refusing_read r = simp (ne_eqb (refusal_number r) done (λ e. omega (arith, (number_low r).0))) (refusal_of_number r)

telling_read : (t : Telling) → telling_in (bytes_of_telling t) ≡ Some t
unfolding telling_by
telling_read (Ok n) = frame_read done n.number n.term n.time
telling_read (Err r) = frame_read (refusal_number r) 0 0 zero_time ∙ refusing_read r

-- reading a written frame gives it back
pub read_written_telling : (t : Telling) → FitsTelling t → read_answer (write_telling t) ≡ Some t
read_written_telling t h = framed_hex answer_bytes telling_in None (bytes_of_telling t) (telling_below t h) (telling_length t) ∙ telling_read t

-- the bytes of the fields of bytes
frame_of_fields : (bs : List ℕ) → Bytes bs → length bs ≡ answer_bytes
    → answer_frame (byte_at bs 0) (word_at bs 1) (word_at bs 3) (record { p = word_at bs 5; l = word_at bs 7 }) ≡ bs
unfolding answer_frame
frame_of_fields bs h n =
    let b = byte_below bs h in
    simp (
      high_word (byte_at bs 1) (byte_at bs 2) (b 2),
      low_word (byte_at bs 1) (byte_at bs 2) (b 2),
      high_word (byte_at bs 3) (byte_at bs 4) (b 4),
      low_word (byte_at bs 3) (byte_at bs 4) (b 4),
      high_word (byte_at bs 5) (byte_at bs 6) (b 6),
      low_word (byte_at bs 5) (byte_at bs 6) (b 6),
      high_word (byte_at bs 7) (byte_at bs 8) (b 8),
      low_word (byte_at bs 7) (byte_at bs 8) (b 8),
    )
    (listed answer_bytes bs n)

-- what the fields tell is what is written as them
by_written : (refusal number term : ℕ) (time : Time) (t : Telling) → telling_by refusal number term time ≡ Some t
    → bytes_of_telling t ≡ answer_frame refusal number term time
unfolding telling_by refusal_of
by_written refusal number term time t = go (eqb refusal done) refl (eqb number 0 && (eqb term 0 && same_time time zero_time)) refl
  where
    go : (p : Bool) → eqb refusal done ≡ p → (q : Bool) → (eqb number 0 && (eqb term 0 && same_time time zero_time)) ≡ q
        → cond p (Some (numbers number term time)) (cond q (numbered refusal refusals) None) ≡ Some t
        → bytes_of_telling t ≡ answer_frame refusal number term time
    go true c q d e = ap bytes_of_telling (sym (same_Some _ _ e)) ∙ ap (λ (k : ℕ). answer_frame k number term time) (sym (eqb-true refusal done c))
    go false c true d e =
        let r = found refusal refusals t e in
        let x : number ≡ 0 = eqb-true _ _ (and_left _ _ d) in
        let rest = and_right (eqb number 0) _ d in
        let y : term ≡ 0 = eqb-true _ _ (and_left _ _ rest) in
        let z : time ≡ zero_time = same_time_eq time zero_time (and_right (eqb term 0) _ rest) in
        ap bytes_of_telling r.1.0 ∙ cc (r.1.1, x, y, z)
    go false c false d e = absurd (none-some t e)

-- what the fields tell fits where they do
by_fits : (refusal number term : ℕ) (time : Time) (t : Telling) → number ≤ limit → term ≤ limit → FitsTime time
    → telling_by refusal number term time ≡ Some t → FitsTelling t
unfolding telling_by refusal_of
by_fits refusal number term time t n m f = go (eqb refusal done) (eqb number 0 && (eqb term 0 && same_time time zero_time))
  where
    go : (p q : Bool) → cond p (Some (numbers number term time)) (cond q (numbered refusal refusals) None) ≡ Some t → FitsTelling t
    go true q e = subst FitsTelling (same_Some _ _ e) (n, m, f)
    go false true e = subst FitsTelling (sym (found refusal refusals t e).1.0) tt
    go false false e = absurd (none-some t e)

-- one telling has one frame: a line that reads as it is the line that it is written as
pub written_read_telling : (line : List ℕ) (t : Telling) → read_answer line ≡ Some t → write_telling t ≡ line
unfolding telling_in
written_read_telling line t e =
    let f = is_frame_lem answer_bytes telling_in None line (Some t) e (none-some t) in
    ap hex_of (by_written _ _ _ _ t f.made ∙ frame_of_fields (bytes_of line) (bytes_below line) f.long) ∙ f.written

-- what is read fits
pub read_telling_fits : (line : List ℕ) (t : Telling) → read_answer line ≡ Some t → FitsTelling t
unfolding telling_in
read_telling_fits line t e =
    let f = is_frame_lem answer_bytes telling_in None line (Some t) e (none-some t) in
    let b = byte_below (bytes_of line) (bytes_below line) in
    by_fits _ _ _ _ t (word_below _ _ (b 1) (b 2)) (word_below _ _ (b 3) (b 4)) (record { p = word_below _ _ (b 5) (b 6); l = word_below _ _ (b 7) (b 8) }) f.made
