-- An honest phone is never accused: every record that is made obeys its rule, so all of them are accepted.
-- Assumes nothing.
use mathlib.Core.Path.{◌≡◌, refl, ◌∙◌}
use mathlib.Core.Bool.{Bool, true}
use mathlib.Core.Logic.{◌⊎◌, inl, inr}
use mathlib.Core.List.Memᴰ
use mathlib.Core.List.{List, [], ◌∷◌, ◌++◌, Memᴰ as Among}
use Prim.Native.Nat.{ℕ, zero, suc, ◌<◌}
use native.Mathlib.Nat.{eq-or-lt_of_le}
use native.Mathlib.Omega.{arith}
use lib.Dec.{leb}
use lib.ListN.{length, length-append, get_or-append}
use lib.Seq.{take-append-le, take-append_seam, get_or-append_seam}
use borrow.Author.Tests.{le-leb}
use Rattle.base.proofs.Bools.{and_both, and_right}
use Rattle.base.proofs.Every.{every_all}
use Rattle.server_log.specs.declared.Entry.{Entry}
use Rattle.server_log.proofs.Common.{Beginning, beginning, beginning_trans}
use Rattle.server_log.proofs.Orderly.{orderly}
use Rattle.cluster.specs.declared.Cluster.{Cluster}
use Rattle.cluster.specs.Servers.{server_at}
use Rattle.steps.specs.declared.Step.TheVariants.{Writes}
use Rattle.steps.specs.declared.Refusal.TheVariants.{IllFormed, OutOfRange}
use Rattle.steps.proofs.Decided.{decided_clear}
use Rattle.reads.specs.MajorityRead.{covered}
use Rattle.wholes.specs.Starts.{Opening, fresh_of}
use Rattle.rules.specs.Rules.{step_of}
use Rattle.safety.proofs.Stepped.{Now, begun}
use Rattle.histories.specs.declared.PhoneRecord.{PhoneRecord}
use Rattle.histories.specs.declared.Checked.TheVariants.{Accepted, Refused}
use Rattle.histories.specs.Committed.{Committed, committed_limit, entries_of, same_lengths, could_hold}
use Rattle.histories.specs.Rules.{no_record, record_in_range, obeys}
use Rattle.histories.specs.Checking.{most_records, record_at, obeys_at, first_breaker, list_ok, checked_of}
use Rattle.promises.specs.Runs.{Event, comes, Onward}
use Rattle.promises.specs.Longest.{records_of, longest_covered, HoldsAll}
use Rattle.promises.specs.Honest.{AnsweredWrite, Made, ends, goes, writes, reads, acknowledges, HonestPromised}
use Rattle.promises.proofs.Turns.{InTurn, next}
use Rattle.promises.proofs.Longest.{longest_beginning}
use Rattle.promises.proofs.ReadRecords.{GoodLog, read_obeys_lem}
use Rattle.promises.proofs.WriteRecords.{Stood, stood_on, wrote, write_obeys_lem}

-- ---- records that obey

-- each record is in range and obeys, given those before it
AllObey : List Entry → List PhoneRecord → Type 0
AllObey es rs = (i : ℕ) → i < length rs → (record_in_range (record_at rs i) ≡ true) × (obeys_at es rs i ≡ true)

-- one record more
obey_more : (es : List Entry) (rs : List PhoneRecord) (r : PhoneRecord) → AllObey es rs → (record_in_range r ≡ true) × (obeys es rs r ≡ true)
    → AllObey es (rs ++ (r ∷ []))
unfolding AllObey
obey_more es rs r h new i l = go (eq-or-lt_of_le (omega (arith, length-append rs (r ∷ []))))
  where
    go : (i ≡ length rs) ⊎ (i < length rs) → (record_in_range (record_at (rs ++ (r ∷ [])) i) ≡ true) × (obeys_at es (rs ++ (r ∷ [])) i ≡ true)
    go (inl e) = rw (e, get_or-append_seam rs r [] no_record, take-append_seam rs (r ∷ [])) new
    go (inr k) = rw (get_or-append rs (r ∷ []) no_record i k, take-append-le i rs (r ∷ []) (omega arith)) (h i k)

-- nothing breaks where each obeys
none_breaks : (n : ℕ) (p : ℕ → Bool) → ((i : ℕ) → i < n → p i ≡ true) → first_breaker n p ≡ Accepted
unfolding first_breaker
none_breaks zero p h = refl
none_breaks (suc n) p h = rw (none_breaks n p (λ i l. h i (omega arith)), h n (omega arith))

-- ---- along a run

-- whatever is covered from c on is in es, so whatever is recorded from there on obeys
module _ {z : Opening} {es : List Entry} (o : GoodLog es) where
  made_obey : {c : Cluster} {run : List Event} {ws : List AnsweredWrite} {rs out : List PhoneRecord} → Made c run ws rs out → Now z c → Onward c run
      → ((y : Cluster) → Among y (records_of c run) → (i : ℕ) → i < z.servers → Beginning (covered (server_at y i)) es)
      → ((w : AnsweredWrite) → Among w ws → Stood z c w) → AllObey es rs → AllObey es out
  made_obey ends N h begins stood obey = obey
  made_obey (goes e m) N h begins stood obey =
      let t = next N e h.0 in made_obey m t.later h.1 (λ y k. begins y (Among.tail k)) (λ w k. stood_on t (stood w k)) obey
  made_obey (writes {c = c} {ws = ws} a client w told m) N h begins stood obey =
      made_obey m t.later h.1 (λ y k. begins y (Among.tail k)) (λ v k. go v (Memᴰ.cases_cons k)) obey
    where
      t : InTurn z c (step_of c (Writes a w.key w.value client)).cluster
      t = next N (comes (Writes a w.key w.value client)) h.0

      go : (v : AnsweredWrite) → (v ≡ w) ⊎ Among v ws → Stood z (step_of c (Writes a w.key w.value client)).cluster v
      go v (inl e) = rw e (wrote N a client w told t)
      go v (inr k) = stood_on t (stood v k)
  made_obey (reads {c = c} {rs = rs} q key asked session value position time told asks m) N h begins stood obey =
      made_obey m N h begins stood
      (obey_more es rs _ obey (read_obeys_lem N o (begins c (Among.head refl)) q key asked session value position time rs told asks))
  made_obey (acknowledges {c = c} {rs = rs} q session w k told m) N h begins stood obey =
      made_obey m N h begins stood (obey_more es rs _ obey (write_obeys_lem N (begins c (Among.head refl)) q w (stood w k) told session rs))

-- a log that could be held is in order
good_log : {es : List Entry} {g : Committed} → HoldsAll es g → GoodLog (entries_of g)
unfolding could_hold
good_log {g = g} k =
    record {
      order = orderly (and_right (leb (length g.terms) committed_limit) _ (and_right (same_lengths g) _ k.could_hold));
      none_at_zero = k.none_at_zero;
    }

pub honest_phone : HonestPromised
unfolding AllObey list_ok checked_of
honest_phone z run rs g h made few holds =
    decided_clear Refused (first_breaker (length rs) (obeys_at (entries_of g) rs)) ((could_hold g, IllFormed) ∷ (list_ok rs (length rs), OutOfRange) ∷ [])
    (holds.could_hold, (and_both _ _ (le-leb (length rs) most_records few) (every_all _ (length rs) (λ i l. (obey i l).0)), tt))
    ∙ none_breaks (length rs) (obeys_at (entries_of g) rs) (λ i l. (obey i l).1)
  where
    begins : (y : Cluster) → Among y (records_of (fresh_of z) run) → (i : ℕ) → i < z.servers → Beginning (covered (server_at y i)) (entries_of g)
    begins y k i l =
        beginning_trans
        (beginning (covered (server_at y i)) (longest_covered (fresh_of z) run) ((longest_beginning z run h).begins_with _ (record { moment = y; of_the_run = k; server = i; counted = l; is = refl })))
        (beginning (longest_covered (fresh_of z) run) (entries_of g) holds.begins)

    obey : AllObey (entries_of g) rs
    obey =
        made_obey (good_log holds) made (begun z) h begins (λ w k. absurd (Memᴰ.not-nil k)) (λ i l. absurd (omega arith))
