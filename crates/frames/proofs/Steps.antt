-- A written step is read back, and a line that reads as a step is the one frame of that step. Assumes nothing.
use mathlib.Core.Path.{◌≡◌, refl, sym, ap, ◌∙◌, subst}
use mathlib.Core.Bool.{Bool, true, false, cond}
use mathlib.Core.List.{List}
use mathlib.Core.Logic.{⊎_elim}
use Prim.Native.Nat.{ℕ, ◌<◌}
use native.Mathlib.Omega.{arith}
use lib.ListN.{length}
use Rattle.base.specs.Numbers.{every}
use Rattle.base.proofs.Facts.{lt_or_le}
use Rattle.clock.specs.declared.Time.{Time}
use Rattle.steps.specs.declared.Step.{Step}
use Rattle.steps.specs.declared.Step.TheVariants.{Start, Elect, StepDown, Hears, Pulls, RollsBack, Writes, Advances, WallClock, Restarts, LocalRead, MajorityRead, Acknowledged, ClocksAgree, WritesNothing, NewestRead, TakesReport}
use Rattle.steps.specs.Ranges.{FitsFrame, FitsStep}
use Rattle.hex_text.specs.Lines.{bytes_of, hex_of}
use Rattle.hex_text.proofs.Trips.{Bytes, bytes_below}
use Rattle.steps.specs.declared.Frame.{Frame}
use Rattle.std.proofs.Common.{Some, None}
use Rattle.std.proofs.lemmas.Option.{none-some, same_Some}
use Rattle.words.specs.Words.{high_of, low_of, byte_at}
use Rattle.steps.specs.Fields.{fields, frame_for}
use Rattle.frames.specs.Layout.{step_bytes, bytes_of_frame, frame_of}
use Rattle.frames.specs.Kinds.{kinds, is_clean, step_of_frame}
use Rattle.frames.specs.Steps.{step_in, read_step, write_step}
use Rattle.base.proofs.Cases.{◌▸◌, case_at}
use Rattle.words.proofs.Framed.{framed_hex, is_frame_lem}
use Rattle.frames.proofs.Unknown.{unknown_kind}
use Rattle.frames.proofs.Lengths.{frame_length}
use Rattle.frames.proofs.StepFrames.{frame_bytes, bytes_fit, fields_of_bytes, bytes_of_fields, masked, clean_masked}

-- the frame of a step is clean and makes that step
Written : Step → Type 0
Written s = (is_clean (frame_for s).kind (bytes_of_frame (frame_for s)) ≡ true) × (step_of_frame (frame_for s) ≡ Some s)

written : (s : Step) → Written s
unfolding Written is_clean every bytes_of_frame high_of low_of step_of_frame
written (Start a set) = (refl, refl)
written (Elect a set) = (refl, refl)
written (StepDown a) = (refl, refl)
written (Hears a b) = (refl, refl)
written (Pulls a b) = (refl, refl)
written (RollsBack a b) = (refl, refl)
written (Writes a key value client) = (refl, refl)
written (Advances a) = (refl, refl)
written (WallClock a) = (refl, refl)
written (Restarts a) = (refl, refl)
written (LocalRead a key time) = (refl, refl)
written (MajorityRead a key time) = (refl, refl)
written (Acknowledged a count position term) = (refl, refl)
written ClocksAgree = (refl, refl)
written (WritesNothing a) = (refl, refl)
written (NewestRead a key position term) = (refl, refl)
written (TakesReport a) = (refl, refl)

-- what a frame of kind k makes: a step, whose frame is that frame with what the kind doesn't use put to zero
Makes : Frame → Type 0
Makes f = (s : Step) × ((step_of_frame f ≡ Some s) × (bytes_of_frame (frame_for s) ≡ masked f.kind (bytes_of_frame f)) × (FitsFrame f → FitsStep s))

MakesAt : ℕ → Type 0
MakesAt k = (a b set key number term : ℕ) (t : Time) → Makes (fields k a b set key number term t)

makes : (k : ℕ) → k < kinds → MakesAt k
unfolding MakesAt Makes bytes_of_frame high_of low_of step_of_frame
makes =
    case_at MakesAt kinds
    ((λ a b set key number term t. (Start a set, (refl, refl, λ h. omega arith)))
    ▸ (λ a b set key number term t. (Elect a set, (refl, refl, λ h. omega arith)))
    ▸ (λ a b set key number term t. (StepDown a, (refl, refl, λ h. omega arith)))
    ▸ (λ a b set key number term t. (Hears a b, (refl, refl, λ h. omega arith)))
    ▸ (λ a b set key number term t. (Pulls a b, (refl, refl, λ h. omega arith)))
    ▸ (λ a b set key number term t. (RollsBack a b, (refl, refl, λ h. omega arith)))
    ▸ (λ a b set key number term t. (Writes a key number t, (refl, refl, λ h. omega arith)))
    ▸ (λ a b set key number term t. (Advances a, (refl, refl, λ h. omega arith)))
    ▸ (λ a b set key number term t. (WallClock a, (refl, refl, λ h. omega arith)))
    ▸ (λ a b set key number term t. (Restarts a, (refl, refl, λ h. omega arith)))
    ▸ (λ a b set key number term t. (LocalRead a key t, (refl, refl, λ h. omega arith)))
    ▸ (λ a b set key number term t. (MajorityRead a key t, (refl, refl, λ h. omega arith)))
    ▸ (λ a b set key number term t. (Acknowledged a set number term, (refl, refl, λ h. omega arith)))
    ▸ (λ a b set key number term t. (ClocksAgree, (refl, refl, λ h. omega arith)))
    ▸ (λ a b set key number term t. (WritesNothing a, (refl, refl, λ h. omega arith)))
    ▸ (λ a b set key number term t. (NewestRead a key number term, (refl, refl, λ h. omega arith)))
    ▸ (λ a b set key number term t. (TakesReport a, (refl, refl, λ h. omega arith)))
    ▸ tt)

-- what a step that was read from n bytes says of them
Read : List ℕ → Step → Type 0
Read bs s = (bytes_of_frame (frame_for s) ≡ bs) × FitsStep s

read_from : (bs : List ℕ) (s : Step) → Bytes bs → length bs ≡ step_bytes → step_in bs ≡ Some s → Read bs s
unfolding Read step_in MakesAt Makes frame_of
read_from bs s h n = go (is_clean kind bs) refl
  where
    kind : ℕ
    kind = byte_at bs 0

    made : is_clean kind bs ≡ true → step_of_frame (frame_of bs) ≡ Some s → kind < kinds → Read bs s
    made c e l =
        let m : Makes (frame_of bs) = makes kind l _ _ _ _ _ _ _ in
        let q : m.0 ≡ s = same_Some _ _ (sym m.1.0 ∙ e) in (
          ap (λ (x : Step). bytes_of_frame (frame_for x)) (sym q) ∙ m.1.1 ∙ ap (masked kind) (bytes_of_fields bs h n) ∙ clean_masked kind bs c n,
          subst FitsStep q (m.1.2 (bytes_fit bs h)),
        )

    go : (t : Bool) → is_clean kind bs ≡ t → cond t (step_of_frame (frame_of bs)) None ≡ Some s → Read bs s
    go true c e = ⊎_elim (made c e) (λ l. absurd (none-some s (sym (unknown_kind (frame_of bs) l) ∙ e))) (lt_or_le kind kinds)
    go false c e = absurd (none-some s e)

-- reading a written frame gives it back
pub read_written_step : (s : Step) → FitsStep s → read_step (write_step s) ≡ Some s
unfolding Written step_in bytes_of_frame
read_written_step s h =
    let w = written s in
    let f = frame_for s in
    framed_hex step_bytes step_in None (bytes_of_frame f) (frame_bytes h) (frame_length f)
    ∙ ap (λ (t : Bool). cond t (step_of_frame (frame_of (bytes_of_frame f))) None) w.0 ∙ ap step_of_frame (fields_of_bytes f) ∙ w.1

-- one step has one frame: a line that reads as a step is the line that it is written as
pub written_read_step : (line : List ℕ) (s : Step) → read_step line ≡ Some s → write_step s ≡ line
unfolding Read
written_read_step line s e =
    let f = is_frame_lem step_bytes step_in None line (Some s) e (none-some s) in
    ap hex_of (read_from (bytes_of line) s (bytes_below line) f.long f.made).0 ∙ f.written

-- what is read fits
pub read_step_fits : (line : List ℕ) (s : Step) → read_step line ≡ Some s → FitsStep s
unfolding Read
read_step_fits line s e =
    let f = is_frame_lem step_bytes step_in None line (Some s) e (none-some s) in (read_from (bytes_of line) s (bytes_below line) f.long f.made).1
