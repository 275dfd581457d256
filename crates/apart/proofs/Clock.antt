-- What the clock's definitions give where a wrong program differs. Assumes nothing.
use mathlib.Core.Path.{◌≡◌, refl}
use mathlib.Core.Bool.{true, false}
use Rattle.std.specs.declared.option.Option.TheVariants.{Some, None}
use Rattle.clock.specs.Times.{zero_time, is_before, same_time, later_of, tick_of}
use Rattle.apart.proofs.Things.{at}

pub zero_time_is_another : zero_time ≡ at 0 0
zero_time_is_another = refl

pub l_may_repeat : is_before (at 1 0) (at 1 0) ≡ false
unfolding is_before
l_may_repeat = refl

pub before_compares_l_alone : is_before (at 1 9) (at 2 0) ≡ true
unfolding is_before
before_compares_l_alone = refl

pub same_compares_p_alone : same_time (at 1 0) (at 1 1) ≡ false
unfolding same_time
same_compares_p_alone = refl

pub same_is_always_false : same_time (at 0 0) (at 0 0) ≡ true
unfolding same_time
same_is_always_false = refl

pub takes_the_earlier : later_of (at 1 0) (at 2 0) ≡ at 2 0
unfolding is_before later_of
takes_the_earlier = refl

pub later_takes_the_second : later_of (at 2 0) (at 1 0) ≡ at 2 0
unfolding is_before later_of
later_takes_the_second = refl

pub ticks_at_its_own_p : tick_of 2 (at 2 0) ≡ Some (at 2 1)
unfolding tick_of
ticks_at_its_own_p = refl

pub tick_lets_l_go_round : tick_of 2 (at 2 65535) ≡ None
unfolding tick_of
tick_lets_l_go_round = refl
