-- The fields that each kind of step fills, 02's kinds too, in the order of 01's step frame. Assumes nothing.
use Rattle.std.specs.Prelude.{ℕ}
use Rattle.clock.specs.declared.Time.{Time}
use Rattle.clock.specs.Times.{zero_time}
use Rattle.steps.specs.declared.Frame.{Frame}
use Rattle.steps.specs.declared.Step.{Step}
use Rattle.steps.specs.declared.Step.TheVariants.{Start, Elect, StepDown, Hears, Pulls, RollsBack, Writes, Advances, WallClock, Restarts, LocalRead, MajorityRead, Acknowledged, ClocksAgree, WritesNothing, NewestRead, TakesReport}

abbrev pub fields : ℕ → ℕ → ℕ → ℕ → ℕ → ℕ → ℕ → Time → Frame
fields kind a b set key number term time = record { kind = kind; a = a; b = b; set = set; key = key; number = number; term = term; time = time }

-- the fields that a step fills: kind, a, b, set or count, key, number, term, time
abbrev pub frame_for : Step → Frame
frame_for (Start a set) = fields 0 a 0 set 0 0 0 zero_time
frame_for (Elect a set) = fields 1 a 0 set 0 0 0 zero_time
frame_for (StepDown a) = fields 2 a 0 0 0 0 0 zero_time
frame_for (Hears a b) = fields 3 a b 0 0 0 0 zero_time
frame_for (Pulls a b) = fields 4 a b 0 0 0 0 zero_time
frame_for (RollsBack a b) = fields 5 a b 0 0 0 0 zero_time
frame_for (Writes a key value client) = fields 6 a 0 0 key value 0 client
frame_for (Advances a) = fields 7 a 0 0 0 0 0 zero_time
frame_for (WallClock a) = fields 8 a 0 0 0 0 0 zero_time
frame_for (Restarts a) = fields 9 a 0 0 0 0 0 zero_time
frame_for (LocalRead a key time) = fields 10 a 0 0 key 0 0 time
frame_for (MajorityRead a key time) = fields 11 a 0 0 key 0 0 time
frame_for (Acknowledged a count position term) = fields 12 a 0 count 0 position term zero_time
frame_for ClocksAgree = fields 13 0 0 0 0 0 0 zero_time
frame_for (WritesNothing a) = fields 14 a 0 0 0 0 0 zero_time
frame_for (NewestRead a key position term) = fields 15 a 0 0 key position term zero_time
frame_for (TakesReport a) = fields 16 a 0 0 0 0 0 zero_time
