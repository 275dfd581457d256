-- What the definitions of kinds 2, 6, 8, 9, 14 and 16 give where a wrong program differs. Assumes nothing.
use Rattle.std.proofs.Common.{None, Some}
use mathlib.Core.Path.{◌≡◌, refl}
use mathlib.Core.Bool.{true, false}
use mathlib.Core.List.{[], ◌∷◌}
use lib.ListN.{replicate}
use Rattle.clock.specs.declared.Time.{Time}
use Rattle.clock.specs.Times.{is_before, later_of, tick_of}
use Rattle.server_log.specs.Entries.{entry_at}
use Rattle.server_log.specs.Logs.{log_limit, live, has_room, appended}
use Rattle.server_log.specs.Rows.{value_for, latest_after}
use Rattle.mail.specs.declared.Report.{Report}
use Rattle.mail.specs.Reports.{zero_note, note_of, gives_way}
use Rattle.mail.specs.Queues.{oldest_taken}
use Rattle.mail.specs.Mails.{zero_mail, note_at, with_source, noted}
use Rattle.cluster.specs.declared.Server.{Server}
use Rattle.cluster.specs.Servers.{with_mail, fresh_server}
use Rattle.steps.specs.declared.Stepped.{Stepped}
use Rattle.steps.specs.declared.Answer.TheVariants.{Entry, Refused}
use Rattle.steps.specs.declared.Refusal.TheVariants.{OutOfRange, WrongRole, ConditionUnmet, LogFull, AtLimit, ClockAhead}
use Rattle.steps.specs.Answers.{report_to}
use Rattle.singles.specs.StepsDown.{steps_down_of}
use Rattle.singles.specs.WallClock.{wall_clock_of}
use Rattle.singles.specs.Restarts.{restarts_of}
use Rattle.singles.specs.Appends.{stamped_of, stamp_done, appends_of}
use Rattle.singles.specs.Writes.{writes_of}
use Rattle.singles.specs.WritesNothing.{writes_nothing_of}
use Rattle.singles.specs.TakesReport.{forwards, takes_report_of}
use Rattle.apart.proofs.Things.{at, x, f, g, h, noting, holding, server, leader, covering, clocked, timed}

pub steps_down_and_stays_primary : (steps_down_of (leader [])).server.head.primary ≡ false
steps_down_and_stays_primary = refl

pub secondary_steps_down : (steps_down_of fresh_server).answer ≡ Refused WrongRole
secondary_steps_down = refl

pub wall_clock_passes_its_limit : (wall_clock_of (clocked 65535)).answer ≡ Refused AtLimit
wall_clock_passes_its_limit = refl

pub wall_clock_adds_2 : (wall_clock_of fresh_server).server.head.wall ≡ 2
wall_clock_adds_2 = refl

pub restarts_with_its_commit_point : (restarts_of (covering (x ∷ []))).server.head.commit ≡ 0
restarts_with_its_commit_point = refl

pub restarts_keeps_the_time : (restarts_of (timed (at 5 3))).server.head.time ≡ at 0 0
unfolding entry_at
restarts_keeps_the_time = refl

pub restarts_with_its_source : (restarts_of (with_mail fresh_server (with_source zero_mail (Some 1)))).server.mail.source ≡ None
restarts_with_its_source = refl

pub restarts_with_its_notes : note_at (restarts_of (with_mail fresh_server (noting (note_of f ∷ [])))).server.mail 0 ≡ zero_note
restarts_with_its_notes = refl

pub writes_into_a_full_log : (writes_of (leader (replicate log_limit x)) 5 42 (at 0 0)).answer ≡ Refused LogFull
unfolding has_room
writes_into_a_full_log = refl

pub writes_key_sixteen : (writes_of (leader []) 16 1 (at 0 0)).answer ≡ Refused OutOfRange
writes_key_sixteen = refl

pub role_before_range : (writes_of fresh_server 16 1 (at 0 0)).answer ≡ Refused OutOfRange
role_before_range = refl

-- a write of key 5, value 41, for a client that carries this time
abbrev written : Server → Time → Stepped
written s client = writes_of s 5 41 client

pub the_clients_time_is_ignored : (written (leader []) (at 9 0)).answer ≡ Entry 1 1 (at 9 1)
unfolding is_before later_of tick_of has_room appended
the_clients_time_is_ignored = refl

pub an_earlier_clients_time_is_taken : (written (server 1 true 0 1 (at 9 0) []) (at 3 0)).answer ≡ Entry 1 1 (at 9 1)
unfolding is_before later_of tick_of has_room appended
an_earlier_clients_time_is_taken = refl

pub six_hundred_ahead_is_refused : (written (leader []) (at 601 0)).answer ≡ Entry 1 1 (at 601 1)
unfolding is_before later_of tick_of has_room appended
six_hundred_ahead_is_refused = refl

pub the_bound_wraps : (written (server 1 true 0 65000 (at 0 0) []) (at 65535 0)).answer ≡ Entry 1 1 (at 65535 1)
unfolding is_before later_of tick_of has_room appended
the_bound_wraps = refl

pub role_before_the_clock : (written fresh_server (at 602 0)).answer ≡ Refused ClockAhead
role_before_the_clock = refl

pub a_refused_write_takes_the_time : (written fresh_server (at 9 0)).server.head.time ≡ at 0 0
a_refused_write_takes_the_time = refl

pub the_wall_clock_moves : (written (leader []) (at 9 0)).server.head.wall ≡ 1
unfolding is_before later_of tick_of has_room stamped_of
the_wall_clock_moves = refl

pub stamped_with_the_old_time : (entry_at (live (stamp_done (timed (at 1 0)) 5 41 (at 2 0)).server.log) 1).time ≡ at 2 0
unfolding entry_at has_room appended stamped_of
stamped_with_the_old_time = refl

pub stamped_leaves_the_time : (stamp_done (timed (at 1 0)) 5 41 (at 2 0)).server.head.time ≡ at 2 0
unfolding stamped_of
stamped_leaves_the_time = refl

pub nothing_without_a_tick : (appends_of (leader []) 255 0 (at 0 0)).server.head.time ≡ at 1 0
unfolding is_before tick_of has_room stamped_of
nothing_without_a_tick = refl

pub nothing_from_the_last_entrys_time : (writes_nothing_of (server 1 true 0 1 (at 9 0) (x ∷ []))).answer ≡ Entry 2 1 (at 9 1)
unfolding tick_of has_room appended
nothing_from_the_last_entrys_time = refl

pub nothing_under_key_0 : (entry_at (live (writes_nothing_of (leader [])).server.log) 1).key ≡ 255
unfolding entry_at has_room appended stamped_of tick_of
nothing_under_key_0 = refl

pub nothing_with_value_1 : (entry_at (live (writes_nothing_of (leader [])).server.log) 1).value ≡ 0
unfolding entry_at has_room appended stamped_of tick_of
nothing_with_value_1 = refl

-- this server with one report in its queue, and server 1 for its source
abbrev waiting : Server → Report → Server
waiting s r = with_mail s (with_source (holding (r ∷ [])) (Some 1))

pub a_primary_forwards : forwards (waiting (leader []) g) ≡ None
unfolding forwards
a_primary_forwards = refl

pub forwards_one_further : forwards (waiting fresh_server g) ≡ report_to 1 g
unfolding forwards
forwards_one_further = refl

pub a_report_raises_the_term : (takes_report_of (waiting fresh_server h)).server.head.term ≡ 0
a_report_raises_the_term = refl

pub takes_without_noting : note_at (takes_report_of (waiting fresh_server g)).server.mail 1 ≡ note_of g
unfolding gives_way noted
takes_without_noting = refl

pub takes_and_keeps_the_report : (takes_report_of (waiting fresh_server g)).server.mail.queue.len ≡ 0
unfolding oldest_taken noted
takes_and_keeps_the_report = refl

pub takes_from_an_empty_queue : (takes_report_of fresh_server).answer ≡ Refused ConditionUnmet
takes_from_an_empty_queue = refl

-- ---- rows

pub a_restart_keeps_the_committed_row : value_for (restarts_of (covering (x ∷ []))).server.rows.committed 5 ≡ 0
a_restart_keeps_the_committed_row = refl

pub a_write_leaves_its_row : value_for (stamped_of (leader []) 5 41 (at 1 0)).rows.whole 5 ≡ 41
unfolding latest_after stamped_of
a_write_leaves_its_row = refl

pub a_write_goes_into_the_committed_row : value_for (stamped_of (leader (x ∷ [])) 6 7 (at 2 0)).rows.whole 5 ≡ 41
unfolding latest_after stamped_of
a_write_goes_into_the_committed_row = refl
