-- The step that a frame of each kind makes, and which bytes must be zero then. Assumes nothing.
use Rattle.std.specs.Prelude.{Bool, true, cond, ◌&&◌, List, [], ◌∷◌, ℕ, ◌-◌, ◌/◌, ◌%◌, ◌^◌, eqb, ltb, get_or, Option, Some, None}
use Rattle.base.specs.Numbers.{byte, every}
use Rattle.clock.specs.Times.{limit, zero_time}
use Rattle.steps.specs.declared.Frame.{Frame}
use Rattle.steps.specs.declared.Step.TheVariants.{Start, Elect, StepDown, Hears, Pulls, RollsBack, Writes, Advances, WallClock, Restarts, LocalRead, MajorityRead, Acknowledged, ClocksAgree, WritesNothing, NewestRead, TakesReport}
use Rattle.steps.specs.Fields.{fields, frame_for}
use Rattle.words.specs.Words.{byte_at}
use Rattle.steps.specs.declared.Step.{Step}
use Rattle.frames.specs.Layout.{step_bytes, bytes_of_frame}

abbrev pub kinds : ℕ
kinds = 17

-- the step that each kind makes of the fields that it uses, from kind 0 to 16
abbrev pub steps_of : Frame → List (Option Step)
steps_of f =
    Some (Start f.a f.set)
    ∷ Some (Elect f.a f.set)
    ∷ Some (StepDown f.a)
    ∷ Some (Hears f.a f.b)
    ∷ Some (Pulls f.a f.b)
    ∷ Some (RollsBack f.a f.b)
    ∷ Some (Writes f.a f.key f.number f.time)
    ∷ Some (Advances f.a)
    ∷ Some (WallClock f.a)
    ∷ Some (Restarts f.a)
    ∷ Some (LocalRead f.a f.key f.time)
    ∷ Some (MajorityRead f.a f.key f.time)
    ∷ Some (Acknowledged f.a f.set f.number f.term)
    ∷ Some ClocksAgree
    ∷ Some (WritesNothing f.a)
    ∷ Some (NewestRead f.a f.key f.number f.term)
    ∷ Some (TakesReport f.a)
    ∷ []

-- an unknown kind is no frame
unfoldable pub step_of_frame : Frame → Option Step
step_of_frame f = get_or (steps_of f) f.kind None

-- a frame of the kind with every other field at its highest, and what its step fills of it
abbrev pub full_of : ℕ → Frame
full_of kind = fields kind (byte - 1) (byte - 1) (byte - 1) (byte - 1) limit limit (record { p = limit; l = limit })

abbrev pub filled_of : Option Step → Frame
filled_of (Some s) = frame_for s
filled_of None = fields 0 0 0 0 0 0 0 zero_time

-- a byte must be zero where the kind doesn't use it: it is not the kind's own, and it is zero even where every field was full
abbrev pub must_be_zero : ℕ → ℕ → Bool
must_be_zero kind i = ltb 0 i && eqb (byte_at (bytes_of_frame (filled_of (step_of_frame (full_of kind)))) i) 0

-- the rule of a table of masks: bit i of a kind's mask is 1 where byte i must be zero
unfoldable pub is_table : List ℕ → Bool
is_table masks = every kinds (λ kind. every step_bytes (λ i. eqb (get_or masks kind 0 / 2 ^ i % 2) (cond (must_be_zero kind i) 1 0)))

abbrev pub byte_ok : ℕ → ℕ → ℕ → Bool
byte_ok kind i b = cond (must_be_zero kind i) (eqb b 0) true

-- every byte of a frame that its kind doesn't use is zero
unfoldable pub is_clean : ℕ → List ℕ → Bool
is_clean kind bs = every step_bytes (λ i. byte_ok kind i (byte_at bs i))
