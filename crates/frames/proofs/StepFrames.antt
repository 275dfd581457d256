-- The bytes of a step frame and its fields are told by each other. Assumes nothing.
use mathlib.Core.Path.{◌≡◌, refl, sym, ◌∙◌}
use mathlib.Core.Bool.{Bool, true, false, cond}
use mathlib.Core.List.{List}
use Prim.Native.Nat.{ℕ}
use borrow.Author.Tests.{eqb-true}
use lib.Dec.{eqb}
use lib.ListN.{length}
use Rattle.base.proofs.Every.{every_at}
use Rattle.hex_text.proofs.Trips.{Bytes, byte_below}
use Rattle.steps.specs.declared.Frame.{Frame}
use Rattle.steps.specs.Ranges.{FitsFrame}
use Rattle.words.specs.Words.{byte_at}
use Rattle.frames.specs.Layout.{step_bytes, bytes_of_frame, frame_of}
use Rattle.frames.specs.Kinds.{must_be_zero, byte_ok, is_clean}
use Rattle.base.proofs.Cases.{◌▸◌}
use Rattle.words.proofs.Bytes.{high_word, low_word, word_parts, high_below, low_below, word_below, list_of, listed, listed_same}

pub frame_bytes : {f : Frame} → FitsFrame f → Bytes (bytes_of_frame f)
unfolding bytes_of_frame
frame_bytes h =
    h.kind ▸ h.a ▸ h.b ▸ h.set ▸ h.key ▸ high_below _ h.number ▸ low_below _ ▸ high_below _ h.term ▸ low_below _
    ▸ high_below _ h.time.p ▸ low_below _ ▸ high_below _ h.time.l ▸ low_below _ ▸ tt

pub bytes_fit : (bs : List ℕ) → Bytes bs → FitsFrame (frame_of bs)
unfolding frame_of
bytes_fit bs h =
    let b = byte_below bs h in
    record {
      kind = b 0;
      a = b 1;
      b = b 2;
      set = b 3;
      key = b 4;
      number = word_below _ _ (b 5) (b 6);
      term = word_below _ _ (b 7) (b 8);
      time = record { p = word_below _ _ (b 9) (b 10); l = word_below _ _ (b 11) (b 12) };
    }

pub fields_of_bytes : (f : Frame) → frame_of (bytes_of_frame f) ≡ f
unfolding frame_of bytes_of_frame
fields_of_bytes f = simp (word_parts f.number, word_parts f.term, word_parts f.time.p, word_parts f.time.l)

pub bytes_of_fields : (bs : List ℕ) → Bytes bs → length bs ≡ step_bytes → bytes_of_frame (frame_of bs) ≡ bs
unfolding frame_of bytes_of_frame
bytes_of_fields bs h n =
    let b = byte_below bs h in
    simp (
      high_word (byte_at bs 5) (byte_at bs 6) (b 6),
      low_word (byte_at bs 5) (byte_at bs 6) (b 6),
      high_word (byte_at bs 7) (byte_at bs 8) (b 8),
      low_word (byte_at bs 7) (byte_at bs 8) (b 8),
      high_word (byte_at bs 9) (byte_at bs 10) (b 10),
      low_word (byte_at bs 9) (byte_at bs 10) (b 10),
      high_word (byte_at bs 11) (byte_at bs 12) (b 12),
      low_word (byte_at bs 11) (byte_at bs 12) (b 12),
    )
    (listed step_bytes bs n)

-- the bytes with those that the kind doesn't use put to zero
abbrev pub masked : ℕ → List ℕ → List ℕ
masked kind bs = list_of step_bytes (λ i. cond (must_be_zero kind i) 0 (byte_at bs i))

-- where they are zero already nothing changes
pub clean_masked : (kind : ℕ) (bs : List ℕ) → is_clean kind bs ≡ true → length bs ≡ step_bytes → masked kind bs ≡ bs
unfolding is_clean
clean_masked kind bs e n =
    listed_same step_bytes _ (byte_at bs) (λ i l. one i (every_at (λ k. byte_ok kind k (byte_at bs k)) step_bytes i e l)) ∙ listed step_bytes bs n
  where
    same : (must : Bool) (x : ℕ) → cond must (eqb x 0) true ≡ true → cond must 0 x ≡ x
    same true x e = sym (eqb-true x 0 e)
    same false x e = refl

    one : (i : ℕ) → byte_ok kind i (byte_at bs i) ≡ true → cond (must_be_zero kind i) 0 (byte_at bs i) ≡ byte_at bs i
    one i = same (must_be_zero kind i) (byte_at bs i)
