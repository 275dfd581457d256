-- What the cluster's definitions give where a wrong program differs. Assumes nothing.
use Rattle.std.proofs.Common.{Some}
use mathlib.Core.Path.{◌≡◌, refl}
use mathlib.Core.Bool.{true, false}
use mathlib.Core.List.{[], ◌∷◌}
use Prim.Native.Nat.{min}
use lib.ListN.{replicate}
use Rattle.base.specs.Numbers.{every, count, highest}
use Rattle.base.specs.Lists.{each_from}
use Rattle.clock.specs.Times.{zero_time, is_before, same_time}
use Rattle.server_log.specs.Entries.{same_entry, entry_at, latest_value}
use Rattle.server_log.specs.Order.{entry_ok, follows, place_ok, in_order, rest_zero, is_empty_log, log_ok}
use Rattle.server_log.specs.Rows.{row_ok, rows_ok, zero_rows, value_for, latest_after}
use Rattle.mail.specs.Reports.{zero_note, note_of}
use Rattle.mail.specs.Mails.{zero_mail, note_at, with_source}
use Rattle.mail.specs.Order.{is_unused, is_used, note_ok, notes_ok, slot_ok, queue_ok, source_ok, mail_ok}
use Rattle.cluster.specs.Servers.{most_servers, with_mail, zero_server, fresh_server, zero_cluster, started_of, fresh_cluster, server_at, with_server, voted_of, elected_all, clocked_of, clocks_set, with_rows, committed_to, rowed_of, rowed_all}
use Rattle.cluster.specs.Sets.{member, members_of, is_within, is_apart, votes, voters, is_majority}
use Rattle.cluster.specs.WellFormed.{numbers_ok, counted_ok, zero_ok, server_ok, size_ok, well_formed}
use Rattle.apart.proofs.Things.{at, x, f, noting, server, holder, leader, covering, clocked, timed, two, F2, z, log}

pub fresh_server_with_wall_clock_0 : fresh_server.head.wall ≡ 1
fresh_server_with_wall_clock_0 = refl

pub zero_record_of_count_2 : zero_cluster.count ≡ 0
zero_record_of_count_2 = refl

pub count_as_it_stands : min 255 most_servers ≡ 7
count_as_it_stands = refl

pub count_is_7 : min 2 most_servers ≡ 2
count_is_7 = refl

pub started_past_the_count : started_of 2 2 zero_server ≡ zero_server
unfolding started_of
started_past_the_count = refl

pub started_keeps_a_counted_server : started_of 2 0 (leader []) ≡ fresh_server
unfolding started_of
started_keeps_a_counted_server = refl

pub fresh_one_server_too_many : server_at (fresh_cluster 2 0) 2 ≡ zero_server
unfolding each_from started_of
fresh_one_server_too_many = refl

pub fresh_leaves_the_count : (fresh_cluster 2 0).count ≡ 2
fresh_leaves_the_count = refl

pub with_server_replaces_0 : server_at (with_server F2 1 zero_server) 0 ≡ fresh_server
unfolding each_from started_of
with_server_replaces_0 = refl

pub with_server_raises_the_count : (with_server F2 2 fresh_server).count ≡ 2
with_server_raises_the_count = refl

pub lower_voters_are_primary : (voted_of 1 3 1 0 fresh_server).head.primary ≡ false
unfolding member voted_of
lower_voters_are_primary = refl

pub voted_gives_everybody_the_term : (voted_of 0 1 1 1 fresh_server).head.term ≡ 0
unfolding member voted_of
voted_gives_everybody_the_term = refl

pub a_winner_keeps_its_notes : note_at (voted_of 0 3 1 0 (with_mail fresh_server (noting (note_of f ∷ [])))).mail 0 ≡ zero_note
unfolding member voted_of
a_winner_keeps_its_notes = refl

pub everybody_is_emptied : note_at (voted_of 0 3 1 1 (with_mail fresh_server (noting (note_of f ∷ [])))).mail 0 ≡ note_of f
unfolding member voted_of
everybody_is_emptied = refl

pub elect_changes_a_alone : (server_at (elected_all F2 0 3 1) 1).head.term ≡ 1
unfolding each_from started_of member voted_of
elect_changes_a_alone = refl

pub elect_takes_commit_points : (server_at (elected_all (two (server 0 false 1 1 zero_time []) fresh_server) 0 1 2) 0).head.commit ≡ 1
unfolding each_from member voted_of
elect_takes_commit_points = refl

pub clocked_keeps_a_later_clock : (clocked_of 2 3 0 (clocked 5)).head.wall ≡ 3
unfolding clocked_of
clocked_keeps_a_later_clock = refl

pub clocks_sets_0_alone : (server_at (clocks_set F2 5) 1).head.wall ≡ 5
unfolding each_from started_of clocked_of
clocks_sets_0_alone = refl

pub clocks_sets_all_seven : (server_at (clocks_set F2 5) 2).head.wall ≡ 0
unfolding each_from started_of clocked_of
clocks_sets_all_seven = refl

pub commit_point_below_the_length : numbers_ok (covering (x ∷ [])) ≡ true
unfolding numbers_ok
commit_point_below_the_length = refl

pub counted_without_the_time : counted_ok (holder 1 (x ∷ [])) ≡ false
unfolding every is_before same_time same_entry entry_at entry_ok follows place_ok in_order rest_zero log_ok counted_ok
counted_without_the_time = refl

pub counted_wants_at_most_the_last_time : counted_ok (timed (at 5 3)) ≡ true
unfolding every is_before same_time same_entry entry_at in_order rest_zero log_ok numbers_ok counted_ok
counted_wants_at_most_the_last_time = refl

pub zero_without_the_time : zero_ok (server 0 false 0 0 (at 0 1) []) ≡ false
unfolding same_time same_entry rest_zero is_empty_log zero_ok
zero_without_the_time = refl

pub server_ok_exchanges_the_cases : server_ok 2 0 0 fresh_server ≡ true
unfolding rows_ok row_ok latest_value highest every is_before same_time same_entry entry_at in_order rest_zero log_ok is_unused is_used note_ok notes_ok slot_ok queue_ok source_ok mail_ok numbers_ok member counted_ok server_ok
server_ok_exchanges_the_cases = refl

pub server_ok_counts_every_server : server_ok 2 0 2 fresh_server ≡ false
unfolding rows_ok row_ok latest_value entry_at highest every same_time same_entry rest_zero is_empty_log zero_ok server_ok
server_ok_counts_every_server = refl

pub server_ok_without_its_mail : server_ok 2 0 0 (with_mail fresh_server (with_source zero_mail (Some 0))) ≡ false
unfolding rows_ok row_ok latest_value highest every is_before same_time same_entry entry_at in_order rest_zero log_ok is_unused is_used note_ok notes_ok slot_ok queue_ok source_ok mail_ok numbers_ok member counted_ok server_ok
server_ok_without_its_mail = refl

pub a_follower_may_be_primary : server_ok 3 4 2 (leader []) ≡ false
unfolding rows_ok row_ok latest_value highest every is_before same_time same_entry entry_at in_order rest_zero log_ok is_unused is_used note_ok notes_ok slot_ok queue_ok source_ok mail_ok numbers_ok member counted_ok server_ok
a_follower_may_be_primary = refl

pub well_formed_of_count_8 : well_formed (record { count = 8; followers = 0; servers = replicate 7 fresh_server }) ≡ false
unfolding size_ok well_formed
well_formed_of_count_8 = refl

pub well_formed_by_counted_servers : well_formed (with_server F2 2 fresh_server) ≡ false
unfolding latest_value highest every each_from is_before same_time same_entry entry_at in_order rest_zero is_empty_log log_ok is_unused is_used note_ok notes_ok slot_ok queue_ok source_ok mail_ok started_of numbers_ok counted_ok zero_ok row_ok rows_ok server_ok well_formed count member is_within size_ok
well_formed_by_counted_servers = refl

pub member_from_the_top : member 1 0 ≡ true
unfolding member
member_from_the_top = refl

pub member_goes_round : member 1 8 ≡ false
unfolding member
member_goes_round = refl

pub members_gives_the_mask : members_of 4 ≡ 1
unfolding count member
members_gives_the_mask = refl

pub members_of_seven_bits : members_of 128 ≡ 1
unfolding count member
members_of_seven_bits = refl

pub within_takes_the_first_past : is_within 4 2 ≡ false
unfolding every member is_within
within_takes_the_first_past = refl

pub within_by_the_lowest_alone : is_within 5 2 ≡ false
unfolding every member is_within
within_by_the_lowest_alone = refl

-- ---- followers

pub one_voter_is_enough : size_ok 3 6 ≡ false
unfolding every count member is_within size_ok
one_voter_is_enough = refl

pub a_follower_past_the_count : size_ok 2 4 ≡ false
unfolding every member is_within size_ok
a_follower_past_the_count = refl

pub fresh_without_followers : (fresh_cluster 3 4).followers ≡ 4
fresh_without_followers = refl

pub every_server_votes : voters 3 4 ≡ 2
unfolding count member
every_server_votes = refl

pub only_followers_vote : votes 4 0 ≡ true
unfolding member
only_followers_vote = refl

pub apart_by_server_0_alone : is_apart 2 2 ≡ false
unfolding every member is_apart
apart_by_server_0_alone = refl

pub half_is_a_majority : is_majority 1 2 ≡ false
unfolding count member
half_is_a_majority = refl

pub majority_wants_everybody : is_majority 3 3 ≡ true
unfolding count member
majority_wants_everybody = refl

-- ---- rows

pub the_committed_row_from_the_whole : value_for (committed_to (holder 1 (x ∷ [])) (log (x ∷ [])) 0) 5 ≡ 0
the_committed_row_from_the_whole = refl

pub the_committed_row_goes_down : value_for (committed_to (holder 1 (x ∷ [])) (log (x ∷ [])) 1) 5 ≡ 41
unfolding latest_after
the_committed_row_goes_down = refl

pub rowed_as_of_nothing_committed : value_for (rowed_of (with_rows (covering (x ∷ [])) zero_rows)).rows.committed 5 ≡ 41
unfolding latest_after rowed_of
rowed_as_of_nothing_committed = refl

pub rowed_as_of_the_term : value_for (rowed_of (server 2 false 1 1 (at 2 0) (x ∷ z ∷ []))).rows.committed 5 ≡ 41
unfolding latest_after rowed_of
rowed_as_of_the_term = refl

pub rowed_leaves_the_rows : value_for (server_at (rowed_all (two (with_rows (covering (x ∷ [])) zero_rows) fresh_server)) 0).rows.committed 5 ≡ 41
unfolding each_from latest_after rowed_of
rowed_leaves_the_rows = refl

pub rowed_sets_the_clocks : (server_at (rowed_all F2) 2).head.wall ≡ 0
unfolding each_from started_of rowed_of
rowed_sets_the_clocks = refl

pub well_formed_without_its_rows : server_ok 2 0 0 fresh_server ≡ true
unfolding every highest is_before same_time same_entry entry_at latest_value in_order rest_zero log_ok row_ok rows_ok is_unused is_used note_ok notes_ok slot_ok queue_ok source_ok mail_ok numbers_ok member counted_ok server_ok
well_formed_without_its_rows = refl
