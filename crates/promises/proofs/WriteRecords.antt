-- A write's record obeys its rule: whoever acknowledges its position and term has the entry that the write left, whatever happened since.
-- Assumes nothing.
use mathlib.Core.Path.{◌≡◌, refl, sym, ap, ◌∙◌}
use mathlib.Core.Bool.{true}
use mathlib.Core.List.{List, [], ◌∷◌, ◌++◌}
use Prim.Native.Nat.{ℕ, suc, ◌≤◌, ◌<◌}
use native.Mathlib.Omega.{arith}
use lib.Dec.{leb}
use lib.ListN.{length}
use borrow.Author.Tests.{ltb-true, leb-true, le-leb, eqb-true, eq-eqb}
use Rattle.base.proofs.Bools.{and_both, and_left, and_right}
use Rattle.clock.specs.declared.Time.{Time}
use Rattle.clock.proofs.Order.{same_time_refl}
use Rattle.server_log.specs.declared.Entry.{Entry}
use Rattle.server_log.specs.Entries.{entry_at, has_entry}
use Rattle.server_log.specs.Logs.{may_ask, live, length_of, appended}
use Rattle.server_log.specs.Order.{highest_key}
use Rattle.server_log.proofs.Common.{Beginning, beginning_at}
use Rattle.server_log.proofs.Live.{entry_at_take}
use Rattle.server_log.proofs.Positions.{length_more, entry_at_new}
use Rattle.cluster.specs.declared.Server.{Server}
use Rattle.cluster.specs.declared.Cluster.{Cluster}
use Rattle.cluster.specs.Servers.{server_count, server_at}
use Rattle.cluster.proofs.Changed.{replaced_here}
use Rattle.cluster.proofs.Good.{good}
use Rattle.steps.specs.declared.Step.TheVariants.{Writes, Acknowledged}
use Rattle.steps.specs.declared.Answer.TheVariants as A
use Rattle.steps.specs.declared.Outcome.{Outcome}
use Rattle.singles.specs.Appends.{new_entry, stamped_of}
use Rattle.singles.specs.Writes.{write_from, write_done}
use Rattle.reads.specs.MajorityRead.{covered}
use Rattle.wholes.specs.Starts.{Opening}
use Rattle.rules.specs.Rules.{delivered, row_of, step_of}
use Rattle.rules.proofs.Appends.{stamp_from, live_more}
use Rattle.rules.proofs.Outcomes.{DoneWith, answered_done}
use Rattle.safety.proofs.Stepped.{Now}
use Rattle.histories.specs.declared.PhoneRecord.{PhoneRecord}
use Rattle.histories.specs.Rules.{record_in_range, same_write, write_obeys, obeys}
use Rattle.promises.specs.Demand3.{entry_of}
use Rattle.promises.specs.Honest.{AnsweredWrite, record_of_write}
use Rattle.promises.proofs.Turns.{InTurn, itself, then}
use Rattle.promises.proofs.Moments.{all_counted, within, covered_long, one_entry}

-- the entry that a write's answer tells of
abbrev entry_for : AnsweredWrite → Entry
entry_for w = record { term = w.term; key = w.key; value = w.value; time = w.time }

written_same : (session : ℕ) (w : AnsweredWrite) → same_write (entry_for w) (record_of_write session w) ≡ true
unfolding same_write
written_same session w = and_both _ _ (eq-eqb w.key w.key refl) (and_both _ _ (eq-eqb w.value w.value refl) (same_time_refl w.time))

-- at some moment up to c, some server had it at its position
pub record Stood (z : Opening) (c : Cluster) (w : AnsweredWrite) : Type 0 where
  pub moment : Cluster
  pub turn : InTurn z moment c
  pub server : ℕ
  pub counted : server < z.servers
  pub long : w.position ≤ length_of (server_at moment server).log
  pub entry : entry_of moment server w.position ≡ entry_for w
  pub key : w.key ≤ highest_key

pub stood_on : {z : Opening} {c d : Cluster} {w : AnsweredWrite} → InTurn z c d → Stood z c w → Stood z d w
stood_on t s =
    record { moment = s.moment; turn = then s.turn t; server = s.server; counted = s.counted; long = s.long; entry = s.entry; key = s.key }

-- ---- a write that is answered

module _ {z : Opening} {c : Cluster} (N : Now z c) (a : ℕ) (client : Time) (w : AnsweredWrite)
    (told : (step_of c (Writes a w.key w.value client)).answer ≡ A.Entry w.position w.term w.time) where
  abbrev s : Server
  s = server_at c a

  -- the entry that it appends
  abbrev e : Entry
  e = new_entry s w.key w.value (stamp_from s (write_from s client))

  done : DoneWith c (Writes a w.key w.value client) (A.Entry w.position w.term w.time)
  done = answered_done c (Writes a w.key w.value client) told refl

  below : a < z.servers
  unfolding row_of
  below = omega (arith, ltb-true a (server_count c) done.clear.0, all_counted N)

  more : live (appended s.log e) ≡ live s.log ++ (e ∷ [])
  unfolding row_of
  more =
      let k = (good c N.fits done.seen).counted a (omega (arith, below, N.counted)) in
      live_more s (write_from s client) done.clear.1.1.1.1 k.log.tidy e

  left : live (server_at (step_of c (Writes a w.key w.value client)).cluster a).log ≡ live s.log ++ (e ∷ [])
  unfolding row_of delivered stamped_of
  left =
      ap (λ (o : Outcome). live (server_at o.cluster a).log) done.is
      ∙ ap (λ (x : Server). live x.log) (replaced_here c a (write_done s w.key w.value client).server (omega (arith, N.fits.slots, below, N.few)))
      ∙ more

  position_is : w.position ≡ suc (length_of s.log)
  unfolding row_of
  position_is =
      let k : length_of (appended s.log e) ≡ w.position = cc done.answers in sym k ∙ ap length more ∙ length_more (live s.log) e

  entry_is : e ≡ entry_for w
  unfolding row_of
  entry_is =
      let t : s.head.term ≡ w.term = cc done.answers in
      let m : stamp_from s (write_from s client) ≡ w.time = cc done.answers in
      λ i. record { term = t i; key = w.key; value = w.value; time = m i }

  pub wrote : InTurn z c (step_of c (Writes a w.key w.value client)).cluster
      → Stood z (step_of c (Writes a w.key w.value client)).cluster w
  unfolding row_of
  wrote t =
      record {
        moment = (step_of c (Writes a w.key w.value client)).cluster;
        turn = itself t.later;
        server = a;
        counted = below;
        long = omega (arith, position_is, ap length left, length_more (live s.log) e);
        entry = rw (left, position_is) (entry_at_new (live s.log) e) ∙ entry_is;
        key = leb-true w.key highest_key done.clear.1.0;
      }

-- ---- an acknowledgement

module _ {z : Opening} {c : Cluster} (N : Now z c) {es : List Entry}
    (begins : (i : ℕ) → i < z.servers → Beginning (covered (server_at c i)) es) (q : ℕ) (w : AnsweredWrite) (S : Stood z c w)
    {m term : ℕ} {time : Time} (told : (step_of c (Acknowledged q 0 w.position w.term)).answer ≡ A.Entry m term time) where
  -- what it says of q: it has an entry of that term there, and its commit point has reached it
  record Reached : Type 0 where
    below : q < z.servers
    from_one : 1 ≤ w.position
    term_is : (entry_of c q w.position).term ≡ w.term
    reached : w.position ≤ (server_at c q).head.commit

  reached_it : Reached
  unfolding row_of may_ask has_entry
  reached_it =
      let d = answered_done c (Acknowledged q 0 w.position w.term) told refl in
      record {
        below = omega (arith, ltb-true q (server_count c) d.clear.0, all_counted N);
        from_one = leb-true 1 w.position (and_left _ _ d.clear.1.1.0);
        term_is = eqb-true _ _ (and_right (leb w.position (length_of (server_at c q).log)) _ d.clear.1.1.1.1.0);
        reached = leb-true _ _ d.clear.1.1.1.1.1.0;
      }

  -- so the entry there is the write's, at q and in the log
  entry_there : entry_at es w.position ≡ entry_for w
  entry_there =
      let R = reached_it in
      let k = (server_at c q).head.commit in
      beginning_at (begins q R.below) w.position (omega (arith, R.reached, covered_long N q))
      ∙ entry_at_take k w.position (live (server_at c q).log) R.reached
      ∙ sym (one_entry S.turn S.server q S.counted R.below w.position S.long (omega (arith, R.reached, within N q)) (ap (λ (d : Entry). d.term) S.entry ∙ sym R.term_is))
      ∙ S.entry

  pub write_obeys_lem : (session : ℕ) (rs : List PhoneRecord) → (record_in_range (record_of_write session w) ≡ true) × (obeys es rs (record_of_write session w) ≡ true)
  unfolding record_in_range obeys write_obeys
  write_obeys_lem session rs =
      let R = reached_it in (
        and_both _ _ (le-leb w.key highest_key S.key) refl,
        and_both _ _ (le-leb 1 w.position R.from_one)
            (and_both _ _ (le-leb w.position (length es) (omega (arith, R.reached, covered_long N q, (begins q R.below).long)))
            (ap (λ (d : Entry). same_write d (record_of_write session w)) entry_there ∙ written_same session w)),
      )
