-- A run of three servers with the records of three phones, computed: two writes are acknowledged, one of them after an election, and one that
-- never was is rolled back.
-- Assumes nothing.
use mathlib.Core.Path.{◌≡◌, refl, ap}
use mathlib.Core.Bool.{false}
use mathlib.Core.Logic.{◌≢◌, ◌⊎◌, inl, inr}
use mathlib.Core.List.Memᴰ
use mathlib.Core.List.{List, [], ◌∷◌, ◌++◌, Memᴰ as Among}
use Prim.Native.Nat.{ℕ, zero, suc, ◌≤◌}
use native.Mathlib.Omega.{arith}
use lib.Dec.{eqb}
use lib.ListN.{take}
use borrow.Author.Tests.{eqb-false}
use Rattle.base.proofs.Cases.{case_at, ◌▸◌}
use Rattle.clock.specs.declared.Time.{Time}
use Rattle.clock.specs.Times.{zero_time, is_before}
use Rattle.server_log.specs.Entries.{entry_at, has_entry}
use Rattle.server_log.specs.Logs.{may_ask, live}
use Rattle.cluster.specs.declared.Cluster.{Cluster}
use Rattle.cluster.specs.Servers.{server_at, fresh_cluster}
use Rattle.steps.specs.declared.Step.{Step}
use Rattle.steps.specs.declared.Step.TheVariants.{Elect, Pulls, RollsBack, Writes, Advances, Restarts, MajorityRead, Acknowledged, TakesReport}
use Rattle.steps.specs.declared.Answer.TheVariants as A
use Rattle.steps.specs.declared.Refusal.TheVariants.{NotYet}
use Rattle.rules.specs.Rules.{step_of}
use Rattle.histories.specs.declared.PhoneRecord.{PhoneRecord}
use Rattle.histories.specs.declared.Checked.TheVariants.{Accepted, Breaks}
use Rattle.histories.specs.Committed.{Committed, lent, entries_on, entries_of, same_lengths, could_hold}
use Rattle.histories.specs.Rules.{record_in_range, same_write, write_obeys, known_time, readable, value_at, not_before, keeps_order, read_obeys, obeys}
use Rattle.histories.specs.Checking.{first_breaker, list_ok, checked_of, check_of}
use Rattle.histories.specs.Longest.{longest_upto}
use Rattle.promises.specs.Runs.{Event, comes, run_to, Onward}
use Rattle.promises.specs.Longest.{longest_covered, HoldsAll}
use Rattle.promises.specs.Honest.{AnsweredWrite, Made, ends, goes, writes, reads, acknowledges, record_of_write, record_of_read, AsksLatest}
use Rattle.promises.proofs.RoofExample.{coming, build, moment, none_starts, three}
use Rattle.promises.proofs.Honest.{honest_phone}

abbrev at : ℕ → Time
at l = record { p = 1; l = l }

-- ---- the run

-- server 0 wins term 1 and writes build 41 under key 5; server 1 pulls it and reports, and server 0's commit point covers it
abbrev first : List Step
first = Elect 0 3 ∷ Writes 0 5 41 zero_time ∷ Pulls 1 0 ∷ TakesReport 0 ∷ Advances 0 ∷ []

-- it is acknowledged and read; server 0 writes build 40, which is not acknowledged, and restarts
abbrev second : List Step
second = Acknowledged 0 0 1 1 ∷ MajorityRead 0 5 zero_time ∷ Writes 0 5 40 zero_time ∷ Acknowledged 0 0 2 1 ∷ Restarts 0 ∷ []

-- server 1 wins term 2 and writes build 42; server 0 rolls back to it and reports, and server 1's commit point covers it; it is acknowledged
-- and read, and server 2, which has nothing, is read
abbrev third : List Step
third =
    Elect 1 6 ∷ Writes 1 5 42 zero_time ∷ RollsBack 0 1 ∷ TakesReport 1 ∷ Advances 1 ∷ Acknowledged 1 0 2 2 ∷ MajorityRead 2 5 zero_time
    ∷ MajorityRead 1 5 (at 0) ∷ []

abbrev steps : List Step
steps = first ++ (second ++ third)

abbrev pub run : List Event
run = coming steps

pub end : Cluster
unfolding moment may_ask has_entry
end = run_to (fresh_cluster 3 0) run

-- ---- the records

-- the writes that are answered: builds 41, 40 and 42
abbrev w41 : AnsweredWrite
w41 = record { key = 5; value = 41; position = 1; term = 1; time = at 0 }

abbrev pub w40 : AnsweredWrite
w40 = record { key = 5; value = 40; position = 2; term = 1; time = at 1 }

abbrev w42 : AnsweredWrite
w42 = record { key = 5; value = 42; position = 2; term = 2; time = at 1 }

-- phone 1 has both acknowledged writes, phone 2 reads 41 and later 42, and phone 3 reads nothing at server 2
abbrev pub records : List PhoneRecord
records = record_of_write 1 w41 ∷ record_of_read 2 5 41 0 (at 0) ∷ record_of_write 1 w42 ∷ record_of_read 3 5 0 0 zero_time ∷ record_of_read 2 5 42 0 (at 1) ∷ []

-- the committed log, with an entry that nobody covered at its end
abbrev pub committed : Committed
committed = lent (1 ∷ 2 ∷ 2 ∷ []) (5 ∷ 5 ∷ 7 ∷ []) (41 ∷ 42 ∷ 9 ∷ []) (1 ∷ 1 ∷ 3 ∷ []) (0 ∷ 1 ∷ 0 ∷ [])

-- ---- what is seen

pub rolled_back : live (server_at end 0).log ≡ build 1 41 0 ∷ build 2 42 1 ∷ []
unfolding end
rolled_back = refl

-- build 40 is not acknowledged before server 0 restarts
pub not_acknowledged : (step_of (run_to (fresh_cluster 3 0) (coming (first ++ (Writes 0 5 40 zero_time ∷ [])))) (Acknowledged 0 0 2 1)).answer ≡ A.Refused NotYet
unfolding end
not_acknowledged = refl

pub longest_is : longest_covered (fresh_cluster 3 0) run ≡ build 1 41 0 ∷ build 2 42 1 ∷ []
unfolding end longest_upto
longest_is = refl

pub checked : check_of records committed ≡ Accepted
unfolding end entries_on same_lengths could_hold record_in_range same_write write_obeys known_time readable value_at not_before keeps_order read_obeys obeys first_breaker list_ok checked_of
checked = refl

-- build 40 was never acknowledged: a phone that logged it is named
pub named : check_of (records ++ (record_of_write 3 w40 ∷ [])) committed ≡ Breaks 5
unfolding checked
named = refl

-- ---- the promise applies to it

-- what a session asks with, record by record
abbrev AllLate : List PhoneRecord → ℕ → Time → Type 0
AllLate [] session asked = Unit {0}
AllLate (r ∷ rs) session asked = (r.session ≡ session → is_before asked r.time ≡ false) × AllLate rs session asked

asks : (rs : List PhoneRecord) (session : ℕ) (asked : Time) → AllLate rs session asked → AsksLatest rs session asked
asks [] session asked h e m = absurd (Memᴰ.not-nil m)
asks (r ∷ rs) session asked h e m = go (Memᴰ.cases_cons m) (λ k. asks rs session asked h.1 e k)
  where
    go : (e ≡ r) ⊎ Among e rs → (Among e rs → e.session ≡ session → is_before asked e.time ≡ false) → e.session ≡ session → is_before asked e.time ≡ false
    go (inl q) later = rw q h.0
    go (inr k) later = later k

another : {A : Type 0} {m n : ℕ} → eqb m n ≡ false → m ≡ n → A
another {m = m} {n = n} differ e = absurd (eqb-false m n differ e)

pub made : Made (fresh_cluster 3 0) run [] [] records
unfolding end
made =
    goes (comes (Elect 0 3))
    (writes 0 zero_time w41 refl
    (goes (comes (Pulls 1 0))
    (goes (comes (TakesReport 0))
    (goes (comes (Advances 0))
    (acknowledges 0 1 w41 (Among.head refl) refl
    (goes (comes (Acknowledged 0 0 1 1))
    (reads 0 5 zero_time 2 41 0 (at 0) refl (asks (take 1 records) 2 zero_time (another refl, tt))
    (goes (comes (MajorityRead 0 5 zero_time))
    (writes 0 zero_time w40 refl
    (goes (comes (Acknowledged 0 0 2 1))
    (goes (comes (Restarts 0))
    (goes (comes (Elect 1 6))
    (writes 1 zero_time w42 refl
    (goes (comes (RollsBack 0 1))
    (goes (comes (TakesReport 1))
    (goes (comes (Advances 1))
    (acknowledges 1 1 w42 (Among.head refl) refl
    (goes (comes (Acknowledged 1 0 2 2))
    (reads 2 5 zero_time 3 0 0 zero_time refl (asks (take 3 records) 3 zero_time (another refl, (another refl, (another refl, tt))))
    (goes (comes (MajorityRead 2 5 zero_time))
    (reads 1 5 (at 0) 2 42 0 (at 1) refl (asks (take 4 records) 2 (at 0) (another refl, (λ e. refl, (another refl, (another refl, tt)))))
    (goes (comes (MajorityRead 1 5 (at 0))) ends))))))))))))))))))))))

onward : Onward (fresh_cluster 3 0) run
onward =
    none_starts (fresh_cluster 3 0) steps
    (omega arith ▸ omega arith ▸ omega arith ▸ omega arith ▸ omega arith ▸ omega arith ▸ omega arith ▸ omega arith ▸ omega arith ▸ omega arith ▸ omega arith ▸ omega arith ▸ omega arith ▸ omega arith ▸ omega arith ▸ omega arith ▸ omega arith ▸ omega arith ▸ tt)

-- its times are after (0,0)
some_time : (k : ℕ) → 1 ≤ k → k ≤ 3 → (entry_at (entries_of committed) k).time ≢ zero_time
unfolding checked
some_time zero one l e = omega arith
some_time (suc i) one l e =
    omega (arith, case_at (λ i. 1 ≤ (entry_at (entries_of committed) (suc i)).time.p) 3 (omega arith) i l, ap (λ (t : Time). t.p) e)

holds_all : HoldsAll (longest_covered (fresh_cluster 3 0) run) committed
unfolding longest_is checked
holds_all = record { could_hold = refl; begins = refl; none_at_zero = some_time }

-- by the promise, and not by computing
pub accepted : check_of records committed ≡ Accepted
unfolding three
accepted = honest_phone three run records committed onward made (omega arith) holds_all
