-- What the definitions of kinds 3, 4 and 5 give where a wrong program differs. Assumes nothing.
use Rattle.std.proofs.Common.{Some}
use mathlib.Core.Path.{◌≡◌, refl}
use mathlib.Core.Bool.{true, false}
use mathlib.Core.List.{[], ◌∷◌}
use Prim.Native.Nat.{max}
use lib.ListN.{replicate}
use Rattle.clock.specs.Times.{zero_time, is_before, same_time, later_of}
use Rattle.server_log.specs.Entries.{same_entry, entry_at, equal_at, common_beginning}
use Rattle.server_log.specs.Rows.{zero_row, value_for, latest_after}
use Rattle.server_log.specs.Logs.{empty_log}
use Rattle.cluster.specs.Servers.{with_mail, fresh_server}
use Rattle.steps.specs.declared.Answer.TheVariants.{Reached, Refused}
use Rattle.steps.specs.declared.Refusal.TheVariants.{ConditionUnmet, BelowCommitPoint}
use Rattle.steps.specs.Answers.{report_to}
use Rattle.pairs.specs.Hears.{takes_commit, stays_primary, heard_of, hears_of}
use Rattle.pairs.specs.Reports.{sent_of}
use Rattle.pairs.specs.Pulls.{may_join, took_of, pulls_of}
use Rattle.pairs.specs.RollsBack.{rolls_back_of}
use Rattle.apart.proofs.Things.{at, x, y, z, w, u, log, report, f, holding, server, holder, leader, covering, timed}

pub greater_takes_the_first_or_adds : max 1 2 ≡ 2
greater_takes_the_first_or_adds = refl

pub hears_any_commit_point : takes_commit (holder 1 []) (covering (x ∷ [])) ≡ false
unfolding equal_at takes_commit
hears_any_commit_point = refl

pub takes_a_lower_commit_point : takes_commit (server 1 false 2 1 zero_time (x ∷ z ∷ [])) (server 1 false 1 1 zero_time (x ∷ z ∷ [])) ≡ false
unfolding takes_commit
takes_a_lower_commit_point = refl

pub hears_and_stays_primary : stays_primary (leader []) (holder 2 []) ≡ false
hears_and_stays_primary = refl

pub stays_makes_a_secondary_primary : stays_primary fresh_server fresh_server ≡ false
stays_makes_a_secondary_primary = refl

pub hears_takes_the_log : (hears_of fresh_server (holder 0 (x ∷ []))).server.log ≡ empty_log
unfolding heard_of
hears_takes_the_log = refl

pub hears_lowers_the_time : (hears_of (timed (at 2 0)) (timed (at 1 0))).server.head.time ≡ at 2 0
unfolding is_before later_of heard_of
hears_lowers_the_time = refl

pub pulls_the_lesser_commit_point : (took_of fresh_server (covering (x ∷ [])) (log (x ∷ [])) zero_row).head.commit ≡ 1
unfolding took_of
pulls_the_lesser_commit_point = refl

pub took_takes_the_role : (took_of fresh_server (leader []) empty_log zero_row).head.primary ≡ false
unfolding took_of
took_takes_the_role = refl

pub joins_anywhere : may_join (log (x ∷ [])) (log (y ∷ z ∷ [])) 1 ≡ false
unfolding same_time same_entry entry_at equal_at
joins_anywhere = refl

pub joins_no_empty_log : may_join empty_log (log (x ∷ [])) 0 ≡ true
joins_no_empty_log = refl

pub pulls_gives_b : (pulls_of (holder 1 (x ∷ z ∷ [])) (holder 1 (y ∷ z ∷ w ∷ [])) 0 1).server.log ≡ log (x ∷ z ∷ w ∷ [])
unfolding same_time same_entry entry_at equal_at took_of
pulls_gives_b = refl

pub pulls_from_no_longer_a_log : (pulls_of (holder 1 (x ∷ [])) (holder 1 (x ∷ [])) 0 1).answer ≡ Refused ConditionUnmet
pulls_from_no_longer_a_log = refl

pub leaves_its_source : (sent_of 0 1 fresh_server).server.mail.source ≡ Some 1
leaves_its_source = refl

pub reports_its_term_for_its_last : (sent_of 0 1 (holder 2 (x ∷ []))).sends ≡ report_to 1 (report 0 2 1 1)
unfolding entry_at
reports_its_term_for_its_last = refl

pub reports_what_it_had_before : (pulls_of fresh_server (holder 1 (x ∷ [])) 0 1).sends ≡ report_to 1 (report 0 1 1 1)
unfolding entry_at took_of
reports_what_it_had_before = refl

pub a_full_queue_refuses_the_pull : (pulls_of fresh_server (with_mail (holder 1 (x ∷ [])) (holding (replicate 8 f))) 0 1).answer ≡ Reached 1
unfolding took_of
a_full_queue_refuses_the_pull = refl

pub rolls_back_and_reports_what_it_had : (rolls_back_of (holder 1 (x ∷ [])) (holder 2 (u ∷ [])) 0 1).sends ≡ report_to 1 (report 0 2 2 1)
unfolding same_entry entry_at common_beginning took_of
rolls_back_and_reports_what_it_had = refl

pub rolls_back_below_the_commit_point : (rolls_back_of (covering (x ∷ [])) (holder 2 (u ∷ [])) 0 1).answer ≡ Refused BelowCommitPoint
unfolding same_entry entry_at common_beginning
rolls_back_below_the_commit_point = refl

pub rolls_back_by_server_terms : (rolls_back_of (holder 2 (x ∷ [])) (holder 2 (u ∷ [])) 0 1).answer ≡ Reached 1
unfolding same_entry entry_at common_beginning took_of
rolls_back_by_server_terms = refl

-- ---- rows

pub a_rollback_leaves_its_row : value_for (rolls_back_of (holder 1 (x ∷ w ∷ [])) (holder 2 (x ∷ u ∷ [])) 0 1).server.rows.whole 6 ≡ 0
unfolding same_time same_entry entry_at common_beginning latest_after took_of
a_rollback_leaves_its_row = refl

pub a_pull_leaves_its_row : value_for (pulls_of fresh_server (holder 1 (x ∷ [])) 0 1).server.rows.whole 5 ≡ 41
unfolding latest_after took_of
a_pull_leaves_its_row = refl

pub hears_without_its_row : value_for (hears_of (holder 1 (x ∷ [])) (covering (x ∷ []))).server.rows.committed 5 ≡ 41
unfolding same_time same_entry entry_at equal_at latest_after takes_commit heard_of
hears_without_its_row = refl

pub took_without_its_row : value_for (took_of fresh_server (covering (x ∷ [])) (log (x ∷ [])) zero_row).rows.committed 5 ≡ 41
unfolding latest_after took_of
took_without_its_row = refl
