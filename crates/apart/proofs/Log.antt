-- What the log's definitions give where a wrong program differs. Assumes nothing.
use mathlib.Core.Path.{◌≡◌, refl}
use mathlib.Core.Bool.{true, false}
use mathlib.Core.List.{List, [], ◌∷◌, ◌++◌}
use Prim.Native.Nat.{ℕ, zero, suc, ◌-◌}
use lib.ListN.{take, replicate}
use Rattle.base.specs.Numbers.{every, highest}
use Rattle.clock.specs.Times.{is_before, same_time}
use Rattle.server_log.specs.declared.Entry.{Entry}
use Rattle.server_log.specs.declared.Log.{Log}
use Rattle.server_log.specs.Entries.{zero_entry, same_entry, entry_at, last_term, applied_time, equal_at, has_entry, common_beginning, is_beginning, latest_value}
use Rattle.server_log.specs.Logs.{log_limit, highest_position, may_ask, empty_log, live, length_of, has_room, appended, joined}
use Rattle.server_log.specs.Order.{entry_ok, follows, place_ok, in_order, rest_zero, is_empty_log, log_ok}
use Rattle.server_log.specs.declared.rows.Latest.{Latest}
use Rattle.server_log.specs.Rows.{zero_row, value_for, latest_after, latest_over, between, rows_of, row_ok, rows_ok}
use Rattle.apart.proofs.Things.{at, entry, x, y, z, u, log, w}

pub zero_entry_of_value_1 : zero_entry.value ≡ 0
zero_entry_of_value_1 = refl

pub empty_log_of_length_1 : length_of empty_log ≡ 0
empty_log_of_length_1 = refl

pub compares_only_terms : same_entry x y ≡ false
unfolding same_entry
compares_only_terms = refl

pub same_leaves_out_the_time : same_entry x (entry 1 5 41 (at 1 1)) ≡ false
unfolding same_time same_entry
same_leaves_out_the_time = refl

pub length_as_it_stands : length_of (record { entries = replicate log_limit zero_entry; len = suc log_limit }) ≡ log_limit
length_as_it_stands = refl

pub length_is_the_limit : length_of empty_log ≡ 0
length_is_the_limit = refl

pub entry_counts_from_0 : entry_at (live (log (x ∷ []))) 1 ≡ x
unfolding entry_at
entry_counts_from_0 = refl

-- a log that claims this length, with x in its first slot and no other
abbrev claimed : ℕ → Log
claimed n = record { entries = x ∷ replicate (log_limit - 1) zero_entry; len = n }

pub entry_past_the_length : entry_at (live (claimed 0)) 1 ≡ zero_entry
unfolding entry_at
entry_past_the_length = refl

pub last_term_of_another_slot : last_term (live (log (x ∷ u ∷ []))) ≡ 2
unfolding entry_at
last_term_of_another_slot = refl

pub time_one_further : (entry_at (live (log (x ∷ z ∷ []))) 1).time ≡ at 1 0
unfolding entry_at
time_one_further = refl

pub time_of_the_last : (entry_at (live (log (x ∷ z ∷ []))) 0).time ≡ at 0 0
unfolding entry_at
time_of_the_last = refl

pub applied_time_of_another_slot : applied_time (live (log (x ∷ z ∷ []))) ≡ at 2 0
unfolding entry_at
applied_time_of_another_slot = refl

pub equal_where_both_are_missing : equal_at (live empty_log) (live empty_log) 1 ≡ false
unfolding entry_at equal_at
equal_where_both_are_missing = refl

pub equal_by_lengths_alone : equal_at (live (log (x ∷ []))) (live (log (y ∷ []))) 1 ≡ false
unfolding same_time same_entry entry_at equal_at
equal_by_lengths_alone = refl

pub has_entry_of_any_term : has_entry (live (log (x ∷ []))) 1 2 ≡ false
unfolding entry_at has_entry
has_entry_of_any_term = refl

pub has_entry_past_the_length : has_entry (live empty_log) 1 0 ≡ false
unfolding has_entry
has_entry_past_the_length = refl

pub may_ask_past_the_highest : may_ask (suc highest_position) 1 ≡ false
unfolding may_ask
may_ask_past_the_highest = refl

pub may_ask_in_term_0 : may_ask 1 0 ≡ false
unfolding may_ask
may_ask_in_term_0 = refl

pub common_counts_equal_positions : common_beginning (live (log (x ∷ z ∷ []))) (live (log (y ∷ z ∷ []))) ≡ 0
unfolding same_time same_entry common_beginning
common_counts_equal_positions = refl

pub beginning_the_other_way_round : is_beginning (live (log (x ∷ []))) (live empty_log) ≡ false
unfolding common_beginning
beginning_the_other_way_round = refl

pub beginning_wants_equal_logs : is_beginning (live empty_log) (live (log (x ∷ []))) ≡ true
unfolding common_beginning
beginning_wants_equal_logs = refl

pub room_in_a_full_log : has_room (log (replicate log_limit x)) ≡ false
unfolding has_room
room_in_a_full_log = refl

pub room_but_for_the_last_slot : has_room (log (replicate (log_limit - 1) x)) ≡ true
unfolding has_room
room_but_for_the_last_slot = refl

pub append_over_the_last_slot : appended (log (replicate log_limit x)) y ≡ log (replicate log_limit x)
unfolding has_room appended
append_over_the_last_slot = refl

pub append_leaves_the_length : length_of (appended empty_log x) ≡ 1
unfolding has_room appended
append_leaves_the_length = refl

pub join_gives_b : joined (log (x ∷ [])) (log (y ∷ z ∷ [])) 1 ≡ log (x ∷ z ∷ [])
join_gives_b = refl

pub join_keeps_the_length : length_of (joined (log (x ∷ [])) (log (y ∷ z ∷ [])) 1) ≡ 2
join_keeps_the_length = refl

pub value_past_n : latest_value 5 (take 1 (live (log (x ∷ z ∷ [])))) ≡ 41
unfolding highest entry_at latest_value
value_past_n = refl

pub reads_stop_before_position_1 : latest_value 5 (take 1 (live (log (x ∷ [])))) ≡ 41
unfolding highest entry_at latest_value
reads_stop_before_position_1 = refl

pub reads_give_the_oldest : latest_value 5 (take 2 (live (log (x ∷ z ∷ [])))) ≡ 42
unfolding highest entry_at latest_value
reads_give_the_oldest = refl

-- a length that is claimed beyond the slots, and a position past the end
pub reads_end_where_the_log_does : latest_value 5 (take 10000 (live (claimed 10000))) ≡ 41
unfolding highest entry_at latest_value
reads_end_where_the_log_does = refl

pub entry_ok_of_key_16 : entry_ok 1 (entry 1 16 1 (at 1 0)) ≡ false
unfolding entry_ok
entry_ok_of_key_16 = refl

pub entry_ok_of_key_254 : entry_ok 1 (entry 1 254 0 (at 1 0)) ≡ false
unfolding entry_ok
entry_ok_of_key_254 = refl

pub nothing_of_value_1 : entry_ok 1 (entry 1 255 1 (at 1 0)) ≡ false
unfolding entry_ok
nothing_of_value_1 = refl

-- all else about that entry is good
pub nothing_of_value_0 : entry_ok 1 (entry 1 255 0 (at 1 0)) ≡ true
unfolding entry_ok
nothing_of_value_0 = refl

pub entry_ok_above_the_term : entry_ok 1 (entry 2 5 1 (at 1 0)) ≡ false
unfolding entry_ok
entry_ok_above_the_term = refl

pub times_may_repeat : place_ok 1 1 x (entry 1 5 42 (at 1 0)) ≡ false
unfolding is_before entry_ok follows place_ok
times_may_repeat = refl

pub in_order_over_all_slots : in_order 0 (live empty_log) ≡ true
unfolding every in_order
in_order_over_all_slots = refl

pub in_order_by_the_first_alone : in_order 2 (live (log (entry 2 5 1 (at 1 0) ∷ entry 1 5 1 (at 2 0) ∷ []))) ≡ false
unfolding every is_before entry_at entry_ok follows place_ok in_order
in_order_by_the_first_alone = refl

-- the empty log with value 1 in its last slot
abbrev dirty : Log
dirty = record { entries = replicate (log_limit - 1) zero_entry ++ (entry 0 0 1 (at 0 0) ∷ []); len = 0 }

pub uses_a_slot_past_the_length : rest_zero (claimed 0) 0 ≡ false
unfolding same_time same_entry rest_zero
uses_a_slot_past_the_length = refl

pub rest_by_terms_alone : rest_zero dirty 0 ≡ false
unfolding same_time same_entry rest_zero
rest_by_terms_alone = refl

pub empty_by_its_length_alone : is_empty_log dirty ≡ false
unfolding same_time same_entry rest_zero is_empty_log
empty_by_its_length_alone = refl

pub empty_by_its_slots_alone : is_empty_log (record { entries = replicate log_limit zero_entry; len = 1 }) ≡ false
unfolding is_empty_log
empty_by_its_slots_alone = refl

-- k good entries, at the times from (n,0)
abbrev good : ℕ → ℕ → List Entry
good n zero = []
good n (suc k) = entry 1 5 41 (at n 0) ∷ good (suc n) k

pub log_ok_without_the_length : log_ok 1 (record { entries = good 1 log_limit; len = suc log_limit }) ≡ false
unfolding log_ok
log_ok_without_the_length = refl

-- all else about that log is good
pub log_ok_but_for_the_length : log_ok 1 (record { entries = good 1 log_limit; len = log_limit }) ≡ true
unfolding every is_before same_time same_entry entry_at entry_ok follows place_ok in_order rest_zero log_ok
log_ok_but_for_the_length = refl

pub log_ok_without_the_slots : log_ok 0 dirty ≡ false
unfolding same_time same_entry rest_zero log_ok
log_ok_without_the_slots = refl

-- ---- rows

-- the row after x alone
abbrev of_x : Latest
of_x = latest_after zero_row x

pub no_such_key_has_1 : value_for zero_row 16 ≡ 0
no_such_key_has_1 = refl

pub the_value_of_the_next_key : value_for of_x 5 ≡ 41
unfolding latest_after
the_value_of_the_next_key = refl

pub an_entry_that_writes_nothing_empties_the_row : value_for (latest_after of_x (entry 1 255 0 (at 2 0))) 5 ≡ 41
unfolding latest_after
an_entry_that_writes_nothing_empties_the_row = refl

pub the_term_for_the_value : value_for of_x 5 ≡ 41
unfolding latest_after
the_term_for_the_value = refl

pub over_all_from_the_first : value_for (latest_over zero_row (between (log (x ∷ w ∷ [])) 1 2)) 5 ≡ 0
unfolding latest_after
over_all_from_the_first = refl

pub over_none : value_for (latest_over zero_row (between (log (x ∷ [])) 0 1)) 5 ≡ 41
unfolding latest_after
over_none = refl

pub the_row_of_what_is_not_committed : value_for (rows_of (log (x ∷ [])) 1).whole 5 ≡ 41
unfolding latest_after
the_row_of_what_is_not_committed = refl

pub the_committed_row_of_all : value_for (rows_of (log (x ∷ [])) 0).committed 5 ≡ 0
the_committed_row_of_all = refl

pub well_formed_at_fifteen_keys : rows_ok (record { whole = record { values = 1 ∷ replicate 15 0 }; committed = zero_row }) empty_log 0 ≡ false
unfolding every highest entry_at latest_value row_ok rows_ok
well_formed_at_fifteen_keys = refl

pub well_formed_by_the_whole_row_alone : rows_ok (record { whole = of_x; committed = zero_row }) (log (x ∷ [])) 1 ≡ false
unfolding every highest entry_at latest_value latest_after row_ok rows_ok
well_formed_by_the_whole_row_alone = refl
