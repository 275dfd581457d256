-- 01's twelve cases hold: one statement over the table, computed. Assumes nothing.
use mathlib.Core.Path.{◌≡◌, refl}
use mathlib.Core.Bool.{true}
use Rattle.base.specs.Numbers.{count, highest}
use Rattle.clock.specs.Times.{is_before, same_time, later_of, tick_of}
use Rattle.server_log.specs.Entries.{same_entry, entry_at, equal_at, common_beginning}
use Rattle.server_log.specs.Logs.{has_room}
use Rattle.cluster.specs.Sets.{member}
use Rattle.counts.specs.Advances.{backs, passes, highest_passing}
use Rattle.twelve.specs.Table.{all, row_holds, table}

pub all_hold : all row_holds table ≡ true
unfolding row_holds count highest is_before same_time later_of tick_of same_entry entry_at equal_at common_beginning has_room member backs passes highest_passing
all_hold = refl
