-- The four wrong programs that 01 names are shut out: each differs from the step, at a record and a step that are given. Assumes nothing.
use Rattle.std.proofs.Common.{Ok, Err}
use mathlib.Core.Path.{◌≡◌, refl, ap, sym, ◌∙◌}
use mathlib.Core.Bool.{Bool, true, false, true≢false}
use Prim.Native.Nat.{ℕ}
use native.Mathlib.Omega.{arith}
use lib.Dec.{eqb}
use borrow.Author.Tests.{eqb-true, eqb-false, ne_eqb}
use Rattle.base.proofs.Bools.{and_left}
use Rattle.base.specs.Numbers.{every, count, highest}
use Rattle.base.specs.Lists.{each_from}
use Rattle.clock.specs.declared.Time.{Time}
use Rattle.clock.specs.Times.{zero_time, is_before, same_time, later_of, tick_of}
use Rattle.server_log.specs.Entries.{same_entry, entry_at, latest_value}
use Rattle.server_log.specs.Logs.{has_room, appended}
use Rattle.server_log.specs.Order.{entry_ok, follows, place_ok, in_order, rest_zero, is_empty_log, log_ok}
use Rattle.server_log.specs.Rows.{latest_after, row_ok, rows_ok}
use Rattle.cluster.specs.declared.Cluster.{Cluster}
use Rattle.cluster.specs.Servers.{fresh_cluster, started_of, server_at, voted_of}
use Rattle.cluster.specs.Sets.{member, is_within, is_apart}
use Rattle.mail.specs.Order.{is_unused, is_used, note_ok, notes_ok, slot_ok, queue_ok, source_ok, mail_ok}
use Rattle.cluster.specs.WellFormed.{numbers_ok, counted_ok, zero_ok, server_ok, size_ok, well_formed}
use Rattle.cluster.proofs.Good.{size_good}
use Rattle.steps.specs.declared.Answer.{Answer}
use Rattle.steps.specs.declared.Answer.TheVariants as A
use Rattle.steps.specs.declared.Outcome.{Outcome}
use Rattle.steps.specs.declared.Refusal.{Refusal}
use Rattle.steps.specs.declared.Step.{Step}
use Rattle.steps.specs.declared.Step.TheVariants.{Elect, Writes, LocalRead}
use Rattle.steps.specs.Answers.{telling_of, is_refused, Telling, numbers}
use Rattle.singles.specs.Appends.{stamped_of}
use Rattle.wholes.specs.Elects.{not_behind, may_vote, all_may_vote, are_voters}
use Rattle.rules.specs.Rules.{delivered, row_of, core_of, step_of}
use Rattle.rules.specs.Statements.{Program, Differs, refuses_each, says_one, leaves_all, echoes_later}

-- ---- an election and two reads that are allowed

-- the fresh cluster of two, where both elect server 0
abbrev fresh : Cluster
fresh = fresh_cluster 2 0

abbrev election : Step
election = Elect 0 3

-- server 0 is elected and writes 41 for key 5, at the time (1,0)
abbrev written : Cluster
written = (step_of (step_of fresh election).cluster (Writes 0 5 41 zero_time)).cluster

abbrev written_at : Time
written_at = record { p = 1; l = 0 }

abbrev reading : ℕ → Step
reading key = LocalRead 0 key written_at

-- what these steps give
record Runs : Type 0 where
  well_formed : well_formed fresh ≡ true
  elects : (step_of fresh election).answer ≡ A.Elected 1
  -- the election changes the record: server 0 was of term 0
  fresh_term : (server_at fresh 0).head.term ≡ 0
  elected_term : (server_at (step_of fresh election).cluster 0).head.term ≡ 1
  -- a read gives the log's value, and 0 for a key that was never written
  reads_written : (step_of written (reading 5)).answer ≡ A.Value 41 written_at
  reads_none : (step_of written (reading 6)).answer ≡ A.Value 0 written_at

runs : Runs
unfolding every count highest each_from is_before same_time later_of tick_of same_entry entry_at latest_value has_room appended entry_ok follows place_ok in_order rest_zero is_empty_log log_ok is_unused is_used note_ok notes_ok slot_ok queue_ok source_ok mail_ok started_of voted_of member is_within numbers_ok counted_ok zero_ok latest_after row_ok rows_ok server_ok is_apart size_ok well_formed stamped_of not_behind may_vote all_may_vote are_voters delivered row_of core_of step_of
runs =
    record {
      well_formed = refl;
      elects = refl;
      fresh_term = refl;
      elected_term = refl;
      reads_written = refl;
      reads_none = refl;
    }

-- ---- which programs differ

-- one that refuses every step: allowed steps succeed
pub refusing_differs : (p : Program) → ((c : Cluster) (s : Step) → is_refused (p c s).answer ≡ true) → Differs p
refusing_differs p h =
    record {
      from = fresh;
      takes = election;
      differs = λ e. true≢false (sym (h fresh election) ∙ ap (λ (o : Outcome). is_refused o.answer) e ∙ ap is_refused runs.elects);
    }

-- one whose answer line never varies: two reads give two values
pub unvarying_differs : (p : Program) (t : Telling) → ((c : Cluster) (s : Step) → telling_of (p c s).answer ≡ t) → Differs p
unvarying_differs p t h = go t refl
  where
    -- the line of the step would be t
    line : (s : Step) (a : Answer) → (step_of written s).answer ≡ a → p written s ≡ step_of written s → t ≡ telling_of a
    line s a is e = sym (h written s) ∙ ap (λ (o : Outcome). telling_of o.answer) e ∙ ap telling_of is

    at_written : (t ≡ numbers 41 0 written_at → ⊥) → Differs p
    at_written other = record { from = written; takes = reading 5; differs = λ e. other (line (reading 5) (A.Value 41 written_at) runs.reads_written e) }

    at_none : (t ≡ numbers 0 0 written_at → ⊥) → Differs p
    at_none other = record { from = written; takes = reading 6; differs = λ e. other (line (reading 6) (A.Value 0 written_at) runs.reads_none e) }

    number_in : Telling → ℕ
    number_in (Ok x) = x.number
    number_in (Err r) = 0

    number : (b : Bool) (n term : ℕ) (time : Time) → eqb n 41 ≡ b → t ≡ numbers n term time → Differs p
    number true n term time q is = let z = eqb-true n 41 q in at_none (λ e. let y : n ≡ 0 = ap number_in (sym is ∙ e) in omega arith)
    number false n term time q is = at_written (λ e. let y : n ≡ 41 = ap number_in (sym is ∙ e) in eqb-false n 41 q y)

    go : (u : Telling) → t ≡ u → Differs p
    go (Ok x) is = number (eqb x.number 41) x.number x.term x.time refl is
    go (Err r) is = at_written (λ e. let z : ◌≡◌ {A = ℕ} 0 1 = cc in omega arith)

-- one that leaves every well-formed record as it is, whatever it does with others: the election changes the fresh cluster
pub echoing_differs : (p : Program) → ((c : Cluster) (s : Step) → well_formed c ≡ true → (p c s).cluster ≡ c) → Differs p
echoing_differs p h = record { from = fresh; takes = election; differs = same }
  where
    same : p fresh election ≡ step_of fresh election → ⊥
    same e =
        let kept = sym (h fresh election runs.well_formed) ∙ ap (λ (o : Outcome). o.cluster) e in
        let terms = ap (λ (c : Cluster). (server_at c 0).head.term) kept in
        omega (arith, sym runs.fresh_term ∙ terms ∙ runs.elected_term)

-- ---- the four programs

pub refuses_each_lem : (r : Refusal) → Differs (refuses_each r)
refuses_each_lem r = refusing_differs (refuses_each r) (λ c s. refl)

pub says_one_lem : (a : Answer) → Differs (says_one a)
says_one_lem a = unvarying_differs (says_one a) (telling_of a) (λ c s. refl)

pub leaves_all_lem : Differs leaves_all
leaves_all_lem = echoing_differs leaves_all (λ c s w. refl)

-- a well-formed record has a count of at least 2
echoed : (c : Cluster) (s : Step) → well_formed c ≡ true → (echoes_later c s).cluster ≡ c
unfolding well_formed
echoed c s w = rw (ne_eqb c.count 0 (λ z. omega (arith, (size_good {f = c.followers} (and_left _ _ w)).at_least_two))) refl

pub echoes_later_lem : Differs echoes_later
echoes_later_lem = echoing_differs echoes_later echoed
