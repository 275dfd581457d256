-- A kind past the last one makes no step. Assumes nothing.
use mathlib.Core.Path.{◌≡◌, refl}
use mathlib.Core.Bool.{Bool, true, false, cond}
use mathlib.Core.List.{List}
use Prim.Native.Nat.{ℕ, ◌≤◌}
use lib.ListN.{get_or-eq_default}
use Rattle.steps.specs.declared.Frame.{Frame}
use Rattle.steps.specs.declared.Step.{Step}
use Rattle.std.proofs.Common.{Option, None}
use Rattle.words.specs.Words.{byte_at}
use Rattle.frames.specs.Layout.{frame_of}
use Rattle.frames.specs.Kinds.{kinds, is_clean, steps_of, step_of_frame}
use Rattle.frames.specs.Steps.{step_in}

pub unknown_kind : (f : Frame) → kinds ≤ f.kind → step_of_frame f ≡ None
unfolding step_of_frame
unknown_kind f h = get_or-eq_default (steps_of f) None h

both_none : (b : Bool) (x : Option Step) → x ≡ None → cond b x None ≡ None
both_none true x e = e
both_none false x e = refl

pub unknown_in : (bs : List ℕ) → kinds ≤ byte_at bs 0 → step_in bs ≡ None
unfolding step_in frame_of
unknown_in bs h = both_none (is_clean (byte_at bs 0) bs) _ (unknown_kind (frame_of bs) h)
