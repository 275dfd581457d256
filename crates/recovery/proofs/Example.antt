-- A bad night, computed: two primaries, a log that has to be rolled back, and a follower that has nothing; the plan that is made of it, and where it leads.
-- Assumes nothing.
use mathlib.Core.Path.{◌≡◌, refl}
use mathlib.Core.List.{List, [], ◌∷◌}
use mathlib.Core.Bool.{true}
use native.Mathlib.Omega.{arith}
use Rattle.base.specs.Numbers.{every, count, highest}
use Rattle.base.specs.Lists.{each_from}
use Rattle.base.proofs.Cases.{◌▸◌}
use Rattle.clock.specs.Times.{zero_time, is_before, same_time, later_of, tick_of}
use Rattle.server_log.specs.Entries.{same_entry, entry_at, equal_at, common_beginning, latest_value}
use Rattle.server_log.specs.Logs.{has_room, appended}
use Rattle.server_log.specs.Order.{entry_ok, follows, place_ok, in_order, rest_zero, is_empty_log, log_ok}
use Rattle.server_log.specs.Rows.{latest_after, row_ok, rows_ok}
use Rattle.mail.specs.Reports.{gives_way}
use Rattle.mail.specs.Queues.{queued, oldest_taken}
use Rattle.mail.specs.Mails.{noted}
use Rattle.mail.specs.Order.{is_unused, is_used, note_ok, notes_ok, slot_ok, queue_ok, source_ok, mail_ok}
use Rattle.cluster.specs.declared.Cluster.{Cluster}
use Rattle.cluster.specs.Servers.{server_at, started_of, fresh_cluster, voted_of}
use Rattle.cluster.specs.Sets.{member, is_within, is_apart}
use Rattle.cluster.specs.WellFormed.{numbers_ok, counted_ok, zero_ok, server_ok, size_ok, well_formed}
use Rattle.steps.specs.declared.Answer.TheVariants.{Done}
use Rattle.steps.specs.declared.Step.{Step}
use Rattle.steps.specs.declared.Step.TheVariants.{Elect, Hears, Pulls, RollsBack, Writes, Advances, TakesReport}
use Rattle.pairs.specs.Hears.{takes_commit, heard_of}
use Rattle.pairs.specs.Pulls.{took_of}
use Rattle.singles.specs.Appends.{stamped_of}
use Rattle.singles.specs.TakesReport.{forwards}
use Rattle.wholes.specs.Elects.{not_behind, may_vote, all_may_vote, are_voters}
use Rattle.wholes.specs.Starts.{Opening}
use Rattle.counts.specs.Advances.{backs, passes, highest_passing}
use Rattle.rules.specs.Rules.{delivered, row_of, core_of, step_of}
use Rattle.promises.specs.Runs.{run_to, FromFresh}
use Rattle.promises.specs.Demand3.{entry_of}
use Rattle.promises.proofs.RoofExample.{coming, lead_on}
use Rattle.plans.specs.Moves.{other, best, set_from}
use Rattle.plans.specs.Plan.{may_lead, not_older, hearing, plan_for}
use Rattle.plans.specs.Making.{frames_by, is_low, all_room, all_low, planned_of}
use Rattle.recovery.specs.Promise.{plan_events, Asked, Recovers}
use Rattle.recovery.proofs.Recovered.{recovery}

-- of four servers 3 follows. Build 41 is covered; then 0 writes alone, while 1 is elected by itself and 2, and writes too
abbrev night : List Step
night =
    Elect 0 3
    ∷ Writes 0 5 41 zero_time
    ∷ Pulls 1 0
    ∷ TakesReport 0
    ∷ Advances 0
    ∷ Writes 0 5 40 zero_time
    ∷ Elect 1 6
    ∷ Writes 1 5 42 zero_time
    ∷ []

unfoldable pub left : Cluster
unfolding every count highest each_from is_before same_time later_of tick_of same_entry entry_at equal_at common_beginning latest_value has_room appended entry_ok follows place_ok in_order rest_zero is_empty_log log_ok gives_way queued oldest_taken noted is_unused is_used note_ok notes_ok slot_ok queue_ok source_ok mail_ok started_of voted_of member is_within numbers_ok counted_ok zero_ok latest_after row_ok rows_ok server_ok is_apart size_ok well_formed takes_commit heard_of took_of stamped_of forwards not_behind may_vote all_may_vote are_voters backs passes highest_passing delivered row_of core_of step_of other best set_from may_lead not_older hearing frames_by is_low all_room all_low planned_of
left = run_to (fresh_cluster 4 8) (coming night)

pub two_primaries : ((server_at left 0).head.primary ≡ true) × ((server_at left 1).head.primary ≡ true)
unfolding left
two_primaries = (refl, refl)

-- twelve steps: 0 rolls back, and 2 and 3, which have nothing, pull
pub plan_is : plan_for left 5 50
    ≡ Elect 1 7
    ∷ Writes 1 5 50 zero_time
    ∷ RollsBack 0 1
    ∷ Pulls 2 1
    ∷ Pulls 3 1
    ∷ TakesReport 1
    ∷ TakesReport 1
    ∷ TakesReport 1
    ∷ Advances 1
    ∷ Hears 0 1
    ∷ Hears 2 1
    ∷ Hears 3 1
    ∷ []
unfolding left
plan_is = refl

pub given : ((planned_of left 5 50).count ≡ 12) × ((planned_of left 5 50).answer ≡ Done)
unfolding left
given = (refl, refl)

-- where it leads: the follower too has the write, and covers it
pub follower_covers : ((server_at (run_to left (plan_events left 5 50)) 3).head.commit ≡ 3) × ((entry_of (run_to left (plan_events left 5 50)) 3 3).value ≡ 50)
unfolding left
follower_covers = (refl, refl)

-- ---- the promise applies to it

unfoldable four : Opening
unfolding left
four = record { servers = 4; followers = 8; fits = omega arith; allowed = refl }

from_fresh : FromFresh left
unfolding left four
from_fresh =
    record {
      opening = four;
      leads = lead_on (fresh_cluster 4 8) night (omega arith ▸ omega arith ▸ omega arith ▸ omega arith ▸ omega arith ▸ omega arith ▸ omega arith ▸ omega arith ▸ tt);
    }

asked : Asked left 5 50
unfolding left
asked = record { a_key = omega arith; a_value = omega arith; fits = omega arith; room = refl; low = refl }

pub recovers : Recovers left 5 50
recovers = recovery left 5 50 from_fresh asked
