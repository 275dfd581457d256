-- A run of three servers, computed: an entry is covered, its primary restarts, another wins and writes, and an entry that was not covered is rolled back.
-- Assumes nothing.
use mathlib.Core.Path.{◌≡◌, refl}
use mathlib.Core.Bool.{true, false}
use mathlib.Core.List.{List, [], ◌∷◌}
use Prim.Native.Nat.{ℕ, ◌≤◌}
use native.Mathlib.Omega.{arith}
use borrow.Author.Tests.{eqb-true}
use Rattle.base.specs.Numbers.{every, count, highest}
use Rattle.base.specs.Lists.{each_from}
use Rattle.base.proofs.Bools.{not_both}
use Rattle.base.proofs.Cases.{◌▸◌}
use Rattle.clock.specs.Times.{zero_time, is_before, same_time, later_of, tick_of}
use Rattle.server_log.specs.declared.Entry.{Entry}
use Rattle.server_log.specs.Entries.{same_entry, entry_at, equal_at, common_beginning, latest_value}
use Rattle.server_log.specs.Logs.{live, has_room, appended}
use Rattle.server_log.specs.Order.{entry_ok, follows, place_ok, in_order, rest_zero, is_empty_log, log_ok}
use Rattle.server_log.specs.Rows.{latest_after, row_ok, rows_ok}
use Rattle.mail.specs.Reports.{gives_way}
use Rattle.mail.specs.Queues.{queued, oldest_taken}
use Rattle.mail.specs.Mails.{noted}
use Rattle.mail.specs.Order.{is_unused, is_used, note_ok, notes_ok, slot_ok, queue_ok, source_ok, mail_ok}
use Rattle.cluster.specs.declared.Cluster.{Cluster}
use Rattle.cluster.specs.Servers.{server_at, started_of, fresh_cluster, voted_of}
use Rattle.cluster.specs.Sets.{member, is_within, is_apart}
use Rattle.cluster.specs.WellFormed.{numbers_ok, counted_ok, zero_ok, server_ok, size_ok, well_formed}
use Rattle.steps.specs.declared.Step.{Step}
use Rattle.steps.specs.declared.Step.TheVariants.{Start, Elect, Pulls, RollsBack, Writes, Advances, Restarts, MajorityRead, TakesReport}
use Rattle.steps.specs.declared.Answer.{Answer}
use Rattle.steps.specs.declared.Answer.TheVariants.{Done, Value, Refused}
use Rattle.steps.specs.declared.Refusal.{Refusal}
use Rattle.steps.specs.Fields.{frame_for}
use Rattle.steps.specs.Ranges.{FitsStep}
use Rattle.pairs.specs.Pulls.{took_of}
use Rattle.singles.specs.Appends.{stamped_of}
use Rattle.singles.specs.TakesReport.{forwards}
use Rattle.wholes.specs.Elects.{not_behind, may_vote, all_may_vote, are_voters}
use Rattle.wholes.specs.Starts.{Opening}
use Rattle.counts.specs.Advances.{backs, passes, highest_passing}
use Rattle.rules.specs.Rules.{delivered, row_of, core_of, step_of}
use Rattle.promises.specs.Runs.{Event, comes, run_to, Onward, LeadsTo, FromFresh}
use Rattle.promises.specs.Demand3.{first_of, holds, Kept}
use Rattle.promises.proofs.Turns.{leads_on}
use Rattle.promises.proofs.Demand3.{demand_3}

-- a run of steps alone
abbrev pub coming : List Step → List Event
coming [] = []
coming (s ∷ ss) = comes s ∷ coming ss

-- server 0 wins term 1 and writes build 41 under key 5; server 1 pulls it and reports, and server 0's commit point covers it
abbrev pub until : List Step
until = Elect 0 3 ∷ Writes 0 5 41 zero_time ∷ Pulls 1 0 ∷ TakesReport 0 ∷ Advances 0 ∷ []

-- server 0 writes build 40, which nobody pulls, and restarts; two starts and a write are refused
abbrev lost : List Step
lost = Writes 0 5 40 zero_time ∷ Restarts 0 ∷ Start 1 0 ∷ Start 8 0 ∷ Writes 0 5 39 zero_time ∷ []

-- server 1 wins term 2 and writes build 42; server 0 rolls back to it and reports, and server 1's commit point covers it
abbrev regained : List Step
regained = Elect 1 6 ∷ Writes 1 5 42 zero_time ∷ RollsBack 0 1 ∷ TakesReport 1 ∷ Advances 1 ∷ []

abbrev pub build : ℕ → ℕ → ℕ → Entry
build term value l = record { term = term; key = 5; value = value; time = record { p = 1; l = l } }

-- the record at the moment, before the rollback, and at the end
unfoldable pub moment : Cluster
unfolding every count highest each_from is_before same_time later_of tick_of same_entry entry_at equal_at common_beginning latest_value has_room appended entry_ok follows place_ok in_order rest_zero is_empty_log log_ok gives_way queued oldest_taken noted is_unused is_used note_ok notes_ok slot_ok queue_ok source_ok mail_ok started_of voted_of member is_within numbers_ok counted_ok zero_ok latest_after row_ok rows_ok server_ok is_apart size_ok well_formed took_of stamped_of forwards not_behind may_vote all_may_vote are_voters backs passes highest_passing delivered row_of core_of step_of
moment = run_to (fresh_cluster 3 0) (coming until)

pub between : Cluster
unfolding moment
between = run_to moment (coming (Writes 0 5 40 zero_time ∷ []))

pub end : Cluster
unfolding moment
end = run_to (run_to moment (coming lost)) (coming regained)

-- ---- what is seen

pub covered : (server_at moment 0).head.commit ≡ 1
unfolding moment
covered = refl

pub build_41 : first_of moment 0 1 ≡ build 1 41 0 ∷ []
unfolding moment
build_41 = refl

pub not_covered : live (server_at between 0).log ≡ build 1 41 0 ∷ build 1 40 1 ∷ []
unfolding between moment
not_covered = refl

pub rolled_back : live (server_at end 0).log ≡ build 1 41 0 ∷ build 2 42 1 ∷ []
unfolding end moment
rolled_back = refl

-- servers 0 and 1 hold build 41, and server 2 nothing
pub still_held : count 3 (holds end (first_of moment 0 1)) ≡ 2
unfolding end moment
still_held = refl

pub read : (step_of end (MajorityRead 1 5 (record { p = 1; l = 0 }))).answer ≡ Value 42 (record { p = 1; l = 1 })
unfolding end moment
read = refl

-- ---- the promise applies to it

-- a step that fits, and is no start
pub record Other (s : Step) : Type 0 where
  pub fits : FitsStep s
  pub kind : 1 ≤ (frame_for s).kind

abbrev pub Others : List Step → Type 0
Others [] = Unit {0}
Others (s ∷ ss) = Other s × Others ss

pub none_starts : (c : Cluster) (ss : List Step) → Others ss → Onward c (coming ss)
none_starts c [] h = tt
none_starts c (s ∷ ss) h =
    ((h.0.fits, λ e. absurd (omega (arith, h.0.kind, eqb-true (frame_for s).kind 0 e))), none_starts (step_of c s).cluster ss h.1)

-- so they lead on
pub lead_on : (c : Cluster) (ss : List Step) → Others ss → LeadsTo c (run_to c (coming ss))
lead_on c ss h = record { events = coming ss; onward = none_starts c ss h; ends = refl }

-- a start of three servers that all vote is allowed
unfoldable pub three : Opening
unfolding moment
three = record { servers = 3; followers = 0; fits = omega arith; allowed = refl }

pub three_fresh : {c : Cluster} → LeadsTo (fresh_cluster 3 0) c → FromFresh c
unfolding three
three_fresh l = record { opening = three; leads = l }

pub from_fresh : FromFresh moment
unfolding moment
from_fresh = three_fresh (lead_on (fresh_cluster 3 0) until (omega arith ▸ omega arith ▸ omega arith ▸ omega arith ▸ omega arith ▸ tt))

not_done : {A : Type 0} {r : Refusal} → ◌≡◌ {A = Answer} (Refused r) Done → A
not_done e = let z : ◌≡◌ {A = ℕ} 0 1 = cc in absurd (omega arith)

other_kind : {A : Type 0} → false ≡ true → A
other_kind e = not_both false e refl

loses : LeadsTo moment (run_to moment (coming lost))
unfolding moment
loses =
    record {
      events = coming lost;
      onward = ((omega arith, other_kind), ((omega arith, other_kind), ((omega arith, λ e. not_done), ((omega arith, λ e. not_done), ((omega arith, other_kind), tt)))));
      ends = refl;
    }

pub kept : Kept moment end 0 1
unfolding end moment
kept = (demand_3 moment end from_fresh (leads_on loses (lead_on _ regained (omega arith ▸ omega arith ▸ omega arith ▸ omega arith ▸ omega arith ▸ tt)))).kept 0 1 (omega arith) (omega arith) (omega arith)
