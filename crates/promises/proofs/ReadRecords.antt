-- A majority read's record obeys its rule, against any log that begins with what the read was answered from.
-- Assumes nothing.
use mathlib.Core.Path.{◌≡◌, refl, sym, ap, ◌∙◌}
use mathlib.Core.Bool.{Bool, true, false, not, ◌&&◌}
use mathlib.Core.Logic.{◌≢◌, ⊎_elim}
use mathlib.Core.List.{List, [], ◌∷◌, Memᴰ as Among}
use Prim.Native.Nat.{ℕ, zero, suc, ◌≤◌, ◌<◌}
use native.Mathlib.Nat.{le_of_suc-le-suc}
use native.Mathlib.Omega.{arith}
use lib.Dec.{eqb}
use lib.ListN.{length, get_or}
use borrow.Author.Tests.{ltb-true, le-leb, eqb-true, eq-eqb, ne_eqb}
use Rattle.base.proofs.Bools.{and_both, and_no, or_left, or_right}
use Rattle.base.proofs.Every.{every_all}
use Rattle.base.proofs.Facts.{lt_or_le}
use Rattle.base.proofs.Highest.{highest_from, highest_is}
use Rattle.clock.specs.declared.Time.{Time}
use Rattle.clock.specs.Times.{limit, zero_time, is_before, same_time}
use Rattle.clock.proofs.Order.{not_after_trans, same_time_refl, before_total, not_before_is}
use Rattle.server_log.specs.declared.Entry.{Entry}
use Rattle.server_log.specs.Entries.{entry_at, applied_time, latest_value}
use Rattle.server_log.specs.Logs.{live}
use Rattle.server_log.proofs.Common.{Beginning, beginning_at}
use Rattle.server_log.proofs.Latest.{found, latest_found, found_le, found_key, found_last}
use Rattle.server_log.proofs.Live.{entry_at_zero, entry_at_take}
use Rattle.server_log.proofs.Orderly.{Orderly, later_time, not_after}
use Rattle.cluster.specs.declared.Cluster.{Cluster}
use Rattle.cluster.specs.Servers.{server_count, server_at}
use Rattle.steps.specs.declared.Step.TheVariants.{MajorityRead}
use Rattle.steps.specs.declared.Answer.TheVariants as A
use Rattle.reads.specs.MajorityRead.{commit_time, covered}
use Rattle.wholes.specs.Starts.{Opening}
use Rattle.rules.specs.Rules.{step_of}
use Rattle.safety.proofs.Stepped.{Now}
use Rattle.histories.specs.declared.PhoneRecord.{PhoneRecord}
use Rattle.histories.specs.Rules.{no_record, record_in_range, last_where, known_time, readable, value_at, not_before, keeps_order, read_obeys, obeys}
use Rattle.promises.specs.Honest.{record_of_read, AsksLatest}
use Rattle.promises.proofs.Answered.{answered}
use Rattle.promises.proofs.Moments.{all_counted, covered_long}

-- ---- time and value, against a log

-- a log as it has to be: in order, with no entry at (0,0)
pub record GoodLog (es : List Entry) : Type 0 where
  pub order : Orderly limit es
  pub none_at_zero : (k : ℕ) → 1 ≤ k → k ≤ length es → (entry_at es k).time ≢ zero_time

-- (0,0) is before every other time
zero_before : (t : Time) → t ≢ zero_time → is_before zero_time t ≡ true
zero_before t ne = go (is_before zero_time t) refl
  where
    go : (b : Bool) → is_before zero_time t ≡ b → b ≡ true
    go true e = refl
    go false e = absurd (ne (before_total t zero_time (not_before_is zero_time t (record { le = omega arith; eq = λ q. omega arith })) e))

-- xs is read at its last entry's time, and is a beginning of the log es
module _ {es : List Entry} (o : GoodLog es) {xs : List Entry} (b : Beginning xs es) where
  -- that time in the log
  last_at : (entry_at es (length xs)).time ≡ applied_time xs
  last_at = ap (λ (e : Entry). e.time) (beginning_at b (length xs) (omega arith))

  none_read : length xs ≡ 0 → applied_time xs ≡ zero_time
  none_read q = ap (λ (e : Entry). e.time) (sym (entry_at_zero xs (length xs) q))

  time_known : known_time es (applied_time xs) ≡ true
  unfolding known_time
  time_known =
      ⊎_elim
      (λ l. or_right (same_time (applied_time xs) zero_time) _
      (le-leb 1 (last_where (λ e. same_time e.time (applied_time xs)) es)
      (omega (arith, highest_from (λ n. same_time (entry_at es n).time (applied_time xs)) (length es) (length xs) b.long (rw last_at (same_time_refl (applied_time xs)))))))
      (λ l. or_left _ _ (ap (λ (t : Time). same_time t zero_time) (none_read (omega arith)) ∙ same_time_refl zero_time))
      (lt_or_le 0 (length xs))

  -- entries of xs are not after that time, and all others are
  not_later : (k : ℕ) → 1 ≤ k → k ≤ length xs → is_before (applied_time xs) (entry_at es k).time ≡ false
  not_later k p l = rw last_at at (not_after o.order k (length xs) p l b.long)

  later : (k : ℕ) → length xs < k → k ≤ length es → is_before (applied_time xs) (entry_at es k).time ≡ true
  later k l h =
      ⊎_elim (λ p. rw last_at at (later_time o.order (length xs) k p l h))
      (λ z. rw (none_read (omega arith)) (zero_before (entry_at es k).time (o.none_at_zero k (omega arith) h)))
      (lt_or_le 0 (length xs))

  -- so what the log has for the key at that time is what the read found
  finds : (key : ℕ) → last_where (readable key (applied_time xs)) es ≡ found key xs
  unfolding readable
  finds key =
      highest_is _ (length es) (found key xs) (omega (arith, found_le key xs, b.long))
      (λ p. and_both _ _ (eq-eqb _ _ (key_at (found key xs) (found_le key xs) ∙ found_key key xs p)) (rw (not_later (found key xs) p (found_le key xs))))
      (λ k l h. ⊎_elim (λ m. and_no (eqb (entry_at es k).key key) _ (ap not (later k m h))) (λ m. rw (other k l m)) (lt_or_le (length xs) k))
    where
      key_at : (k : ℕ) → k ≤ length xs → (entry_at es k).key ≡ (entry_at xs k).key
      key_at k l = ap (λ (e : Entry). e.key) (beginning_at b k l)

      other : (k : ℕ) → found key xs < k → k ≤ length xs → eqb (entry_at es k).key key ≡ false
      other k l m = ne_eqb _ _ (λ e. found_last key xs k l m (sym (key_at k m) ∙ e))

  same_value : (key : ℕ) → value_at es key (applied_time xs) ≡ latest_value key xs
  unfolding value_at
  same_value key =
      ap (λ (k : ℕ). (entry_at es k).value) (finds key) ∙ ap (λ (e : Entry). e.value) (beginning_at b (found key xs) (found_le key xs))
      ∙ sym (latest_found key xs)

-- ---- order

among_at : {A : Type 0} (l : List A) (i : ℕ) (d : A) → i < length l → Among (get_or l i d) l
among_at [] i d h = absurd (omega arith)
among_at (x ∷ l) zero d h = Among.head refl
among_at (x ∷ l) (suc i) d h = Among.tail (among_at l i d (le_of_suc-le-suc h))

-- a time that is not before what the session asked with keeps the order
in_order : (rs : List PhoneRecord) (r : PhoneRecord) (asked : Time) → AsksLatest rs r.session asked → is_before r.time asked ≡ false
    → keeps_order rs r ≡ true
unfolding keeps_order not_before
in_order rs r asked h late = every_all _ (length rs) (λ i l. one (get_or rs i no_record) (among_at rs i no_record l))
  where
    one : (e : PhoneRecord) → Among e rs → not (eqb e.session r.session && is_before r.time e.time) ≡ true
    one e m = go (eqb e.session r.session) refl
      where
        go : (x : Bool) → eqb e.session r.session ≡ x → not (x && is_before r.time e.time) ≡ true
        go true q = rw (not_after_trans e.time asked r.time (h e m (eqb-true _ _ q)) late)
        go false q = refl

-- ---- the record

module _ {z : Opening} {c : Cluster} (N : Now z c) {es : List Entry} (o : GoodLog es)
    (within : (i : ℕ) → i < z.servers → Beginning (covered (server_at c i)) es) where
  applied_is : (q : ℕ) → applied_time (covered (server_at c q)) ≡ commit_time (server_at c q)
  applied_is q =
      let s = server_at c q in
      ap (λ (k : ℕ). (entry_at (covered s) k).time) (covered_long N q)
      ∙ ap (λ (e : Entry). e.time) (entry_at_take s.head.commit s.head.commit (live s.log) (omega arith))

  pub read_obeys_lem : (q key : ℕ) (asked : Time) (session value position : ℕ) (time : Time) (rs : List PhoneRecord)
      → (step_of c (MajorityRead q key asked)).answer ≡ A.Value value time → AsksLatest rs session asked
      → let r = record_of_read session key value position time in
      (record_in_range r ≡ true) × (obeys es rs r ≡ true)
  unfolding record_in_range obeys read_obeys
  read_obeys_lem q key asked session value position time rs told asks =
      let a = answered c N.fits q key asked value time told in
      let b = within q (omega (arith, ltb-true q (server_count c) a.below, all_counted N)) in
      let t : applied_time (covered (server_at c q)) ≡ time = applied_is q ∙ a.time in (
        and_both _ _ a.a_key refl,
        and_both _ _ (rw t at (time_known o b))
            (and_both _ _ (eq-eqb _ _ (rw t at (same_value o b key) ∙ a.value))
            (in_order rs (record_of_read session key value position time) asked asks (rw a.time at a.reached))),
      )
