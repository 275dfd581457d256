-- What makes a time of ones that fit gives one that fits. Assumes nothing.
use mathlib.Core.Path.{◌≡◌}
use Prim.Native.Nat.{ℕ, ◌≤◌}
use native.Mathlib.Omega.{arith}
use Rattle.clock.specs.declared.Time.{Time}
use Rattle.std.specs.declared.option.Option.TheVariants.{Some}
use Rattle.clock.specs.Times.{limit, later_of, tick_of}
use Rattle.clock.specs.Ranges.{FitsTime}
use Rattle.clock.proofs.Order.{later_either}
use Rattle.clock.proofs.Ticks.{TickIs, grows, jumps, tick_is}

pub fits_later : (s t : Time) → FitsTime s → FitsTime t → FitsTime (later_of s t)
fits_later s t fs ft = later_either s t FitsTime fs ft

-- l grows only below its limit, and a wall clock fits
pub fits_tick : (wall : ℕ) (t u : Time) → wall ≤ limit → FitsTime t → tick_of wall t ≡ Some u → FitsTime u
fits_tick wall t u w f e = go (tick_is wall t u e)
  where
    go : {u : Time} → TickIs wall t u → FitsTime u
    go (grows h k) = record { p = f.p; l = omega arith }
    go (jumps h) = record { p = w; l = omega arith }
