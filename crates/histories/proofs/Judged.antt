-- The tests of the check decide the facts that 02 names. Assumes nothing.
use mathlib.Core.Path.{◌≡◌, refl, ap, sym, subst, ◌∙◌}
use mathlib.Core.List.{List}
use mathlib.Core.Bool.{Bool, true, false, not, cond, ◌&&◌, ◌||◌}
use mathlib.Core.Logic.{◌⊎◌, inl, inr, ⊎_elim}
use Prim.Native.Nat.{ℕ, ◌<◌, ◌≤◌}
use native.Mathlib.Omega.{arith}
use lib.Dec.{eqb, leb}
use lib.ListN.{length, take}
use lib.Seq.{get_or-take, length-take-le}
use borrow.Author.Tests.{leb-true, le-leb, eqb-true, eqb-false, eq-eqb, ne_eqb, not-true}
use Rattle.base.proofs.Bools.{and_both, and_left, and_right, or_left, or_right, or_cases, not_both}
use Rattle.base.proofs.Every.{every_at, every_all}
use Rattle.base.proofs.Facts.{lt_or_le}
use Rattle.base.proofs.Highest.{highest_le, highest_passes, highest_above}
use Rattle.clock.specs.declared.Time.{Time}
use Rattle.clock.specs.Times.{zero_time, is_before, same_time}
use Rattle.clock.proofs.Order.{same_time_eq, same_time_refl}
use Rattle.server_log.specs.declared.Entry.{Entry}
use Rattle.server_log.specs.Entries.{entry_at}
use Rattle.server_log.specs.Order.{highest_key}
use Rattle.histories.specs.declared.PhoneRecord.{PhoneRecord}
use Rattle.histories.specs.Committed.{Committed, committed_limit, same_lengths, could_hold}
use Rattle.histories.specs.Rules.{write_kind, read_kind, no_record, record_in_range, same_write, write_obeys, last_where, known_time, readable, value_at, not_before, keeps_order, read_obeys, obeys}
use Rattle.histories.specs.Checking.{most_records, record_at, obeys_at, list_ok}
use Rattle.histories.specs.Obeying.{Stands, WriteObeys, SomeEntry, Readable, LastReadable, NoValueFor, ReadObeys, Obeys, LogFits, InRange, ListFits}

-- ---- a write

module _ (es : List Entry) (r : PhoneRecord) where
  abbrev here : Entry
  here = entry_at es r.position

  write_obeys_lem : write_obeys es r ≡ true → WriteObeys es r
  unfolding write_obeys same_write
  write_obeys_lem h =
      let h2 = and_right (leb 1 r.position) _ h in
      let h3 = and_right (leb r.position (length es)) _ h2 in
      let h4 = and_right (eqb here.key r.key) _ h3 in
      record {
        position = record { from_one = leb-true 1 r.position (and_left _ _ h); within = leb-true r.position (length es) (and_left _ _ h2) };
        key = eqb-true here.key r.key (and_left _ _ h3);
        value = eqb-true here.value r.value (and_left _ _ h4);
        time = same_time_eq here.time r.time (and_right (eqb here.value r.value) _ h4);
      }

  obeys_write : WriteObeys es r → write_obeys es r ≡ true
  unfolding write_obeys same_write
  obeys_write w =
      and_both _ _ (le-leb 1 r.position w.position.from_one)
      (and_both _ _ (le-leb r.position (length es) w.position.within)
      (and_both _ _ (eq-eqb here.key r.key w.key)
      (and_both _ _ (eq-eqb here.value r.value w.value) (ap (λ (t : Time). same_time t r.time) w.time ∙ same_time_refl r.time))))

-- ---- a read's time

module _ (p : Entry → Bool) (es : List Entry) where
  -- what passes stands at or below the last that passes
  last_above : (n : ℕ) → n ≤ length es → p (entry_at es n) ≡ true → n ≤ last_where p es
  last_above n l h =
      ⊎_elim (λ m. not_both (p (entry_at es n)) h (highest_above (λ k. p (entry_at es k)) (length es) n m l)) (λ m. m) (lt_or_le (last_where p es) n)

  -- where there is one, it stands in the log and passes
  last_stands : 1 ≤ last_where p es → Stands es (last_where p es)
  last_stands h = record { from_one = h; within = highest_le (λ k. p (entry_at es k)) (length es) }

  last_passes : 1 ≤ last_where p es → p (entry_at es (last_where p es)) ≡ true
  last_passes h = highest_passes (λ k. p (entry_at es k)) (length es) h

module _ (es : List Entry) (t : Time) where
  abbrev at_time : Entry → Bool
  at_time e = same_time e.time t

  known_time_lem : known_time es t ≡ true → (t ≡ zero_time) ⊎ SomeEntry es t
  unfolding known_time
  known_time_lem h = ⊎_elim (λ z. inl (same_time_eq t zero_time z)) some (or_cases (same_time t zero_time) _ h)
    where
      some : leb 1 (last_where at_time es) ≡ true → (t ≡ zero_time) ⊎ SomeEntry es t
      some l =
          let one = leb-true 1 (last_where at_time es) l in
          inr (record { place = last_where at_time es; stands = last_stands at_time es one; same = same_time_eq _ t (last_passes at_time es one) })

  time_known : (t ≡ zero_time) ⊎ SomeEntry es t → known_time es t ≡ true
  unfolding known_time
  time_known = ⊎_elim (λ z. or_left _ _ (ap (λ (s : Time). same_time s zero_time) z ∙ same_time_refl zero_time)) some
    where
      some : SomeEntry es t → (same_time t zero_time || leb 1 (last_where at_time es)) ≡ true
      some s =
          let passes : at_time (entry_at es s.place) ≡ true = ap (λ (u : Time). same_time u t) s.same ∙ same_time_refl t in
          or_right (same_time t zero_time) _ (le-leb 1 (last_where at_time es) (omega (arith, s.stands.from_one, last_above at_time es s.place s.stands.within passes)))

-- ---- a read's value

module _ (k : ℕ) (t : Time) (e : Entry) where
  is_readable : readable k t e ≡ true → Readable k t e
  unfolding readable
  is_readable h =
      record {
        key = eqb-true e.key k (and_left _ _ h);
        not_after = not-true (is_before t e.time) (and_right (eqb e.key k) _ h);
      }

  readable_is : Readable k t e → readable k t e ≡ true
  unfolding readable
  readable_is r = and_both _ _ (eq-eqb e.key k r.key) (ap not r.not_after)

module _ (es : List Entry) (k : ℕ) (t : Time) where
  abbrev last_at : ℕ
  last_at = last_where (readable k t) es

  value_found : LastReadable es k t (value_at es k t) ⊎ NoValueFor es k t (value_at es k t)
  unfolding value_at entry_at
  value_found = ⊎_elim none last (lt_or_le last_at 1)
    where
      last : 1 ≤ last_at → LastReadable es k t (value_at es k t) ⊎ NoValueFor es k t (value_at es k t)
      last h =
          inl
          (record {
            place = last_at;
            stands = last_stands (readable k t) es h;
            readable = is_readable k t (entry_at es last_at) (last_passes (readable k t) es h);
            none_later = λ m l w r. omega (arith, last_above (readable k t) es m w (readable_is k t (entry_at es m) r));
            value = refl;
          })

      none : last_at < 1 → LastReadable es k t (value_at es k t) ⊎ NoValueFor es k t (value_at es k t)
      none h =
          let z : last_at ≡ 0 = omega arith in
          inr
          (record {
            none = λ m s r. omega (arith, s.from_one, last_above (readable k t) es m s.within (readable_is k t (entry_at es m) r));
            zero = ap (λ (m : ℕ). (entry_at es m).value) z;
          })

  -- it is the only one
  value_only : (v : ℕ) → LastReadable es k t v ⊎ NoValueFor es k t v → value_at es k t ≡ v
  value_only v = ⊎_elim (λ l. ⊎_elim (same l) (λ n. absurd (n.none l.place l.stands l.readable)) value_found)
      (λ n. ⊎_elim (λ l. absurd (n.none l.place l.stands l.readable)) (λ m. m.zero ∙ sym n.zero) value_found)
    where
      same : LastReadable es k t v → LastReadable es k t (value_at es k t) → value_at es k t ≡ v
      same a b =
          ⊎_elim (λ l. absurd (a.none_later b.place l b.stands.within b.readable))
          (λ l. ⊎_elim (λ m. absurd (b.none_later a.place m a.stands.within a.readable))
          (λ m. let e : b.place ≡ a.place = omega arith in sym b.value ∙ ap (λ (n : ℕ). (entry_at es n).value) e ∙ a.value) (lt_or_le b.place a.place)) (lt_or_le a.place b.place)

-- ---- the order of a session

module _ (rs : List PhoneRecord) (i : ℕ) (h : i ≤ length rs) where
  abbrev InOrder : Type 0
  InOrder = (j : ℕ) → j < i → (record_at rs j).session ≡ (record_at rs i).session → is_before (record_at rs i).time (record_at rs j).time ≡ false

  earlier_at : (j : ℕ) → j < i → not_before (record_at (take i rs) j) (record_at rs i) ≡ not_before (record_at rs j) (record_at rs i)
  earlier_at j l = ap (λ (e : PhoneRecord). not_before e (record_at rs i)) (get_or-take i rs j no_record l)

  keeps_order_lem : keeps_order (take i rs) (record_at rs i) ≡ true → InOrder
  unfolding keeps_order not_before
  keeps_order_lem k j l s =
      let n = sym (earlier_at j l) ∙ every_at _ (length (take i rs)) j k (omega (arith, length-take-le i rs h)) in
      let e = eq-eqb (record_at rs j).session (record_at rs i).session s in
      ap (λ (b : Bool). b && is_before (record_at rs i).time (record_at rs j).time) (sym e) ∙ not-true _ n

  order_keeps : InOrder → keeps_order (take i rs) (record_at rs i) ≡ true
  unfolding keeps_order not_before
  order_keeps o =
      every_all _ (length (take i rs))
      (λ j l. let m : j < i = omega (arith, length-take-le i rs h) in earlier_at j m ∙ go j (eqb (record_at rs j).session (record_at rs i).session) refl (o j m))
    where
      go : (j : ℕ) (b : Bool) → eqb (record_at rs j).session (record_at rs i).session ≡ b
          → ((record_at rs j).session ≡ (record_at rs i).session → is_before (record_at rs i).time (record_at rs j).time ≡ false)
          → not (b && is_before (record_at rs i).time (record_at rs j).time) ≡ true
      go j true e f = ap not (f (eqb-true (record_at rs j).session (record_at rs i).session e))
      go j false e f = refl

-- ---- a record

module _ (es : List Entry) (rs : List PhoneRecord) (i : ℕ) (h : i ≤ length rs) where
  abbrev now : PhoneRecord
  now = record_at rs i

  read_obeys_lem : read_obeys es (take i rs) now ≡ true → ReadObeys es rs i
  unfolding read_obeys
  read_obeys_lem k =
      let k2 = and_right (known_time es now.time) _ k in
      let v = eqb-true (value_at es now.key now.time) now.value (and_left _ _ k2) in
      record {
        time = known_time_lem es now.time (and_left _ _ k);
        value = subst (λ (x : ℕ). LastReadable es now.key now.time x ⊎ NoValueFor es now.key now.time x) v (value_found es now.key now.time);
        order = keeps_order_lem rs i h (and_right (eqb (value_at es now.key now.time) now.value) _ k2);
      }

  obeys_read : ReadObeys es rs i → read_obeys es (take i rs) now ≡ true
  unfolding read_obeys
  obeys_read r =
      and_both _ _ (time_known es now.time r.time)
      (and_both _ _ (eq-eqb (value_at es now.key now.time) now.value (value_only es now.key now.time now.value r.value)) (order_keeps rs i h r.order))

  pub obeys_fact : obeys_at es rs i ≡ true → Obeys es rs i
  unfolding obeys
  obeys_fact k = go (eqb now.kind write_kind) refl k
    where
      go : (b : Bool) → eqb now.kind write_kind ≡ b → cond b (write_obeys es now) (read_obeys es (take i rs) now) ≡ true → Obeys es rs i
      go true e k = let w = eqb-true now.kind write_kind e in record { write = λ _. write_obeys_lem es now k; read = λ q. absurd (omega arith) }
      go false e k = record { write = λ q. absurd (eqb-false now.kind write_kind e q); read = λ _. read_obeys_lem k }

  pub fact_obeys : InRange now → Obeys es rs i → obeys_at es rs i ≡ true
  unfolding obeys
  fact_obeys n o = ⊎_elim write read n.kind
    where
      write : now.kind ≡ write_kind → cond (eqb now.kind write_kind) (write_obeys es now) (read_obeys es (take i rs) now) ≡ true
      write q = rw (eq-eqb now.kind write_kind q) (obeys_write es now (o.write q))

      read : now.kind ≡ read_kind → cond (eqb now.kind write_kind) (write_obeys es now) (read_obeys es (take i rs) now) ≡ true
      read q = rw (ne_eqb now.kind write_kind (λ z. omega arith)) (obeys_read (o.read q))

-- ---- the log

module _ (g : Committed) where
  abbrev entries : ℕ
  entries = length g.terms

  pub log_fits : could_hold g ≡ true → LogFits g
  unfolding could_hold same_lengths
  log_fits h =
      let t = and_left (same_lengths g) _ h in
      let t2 = and_right (eqb (length g.keys) entries) _ t in
      let t3 = and_right (eqb (length g.values) entries) _ t2 in
      let h2 = and_right (same_lengths g) _ h in
      record {
        together =
            record {
              keys = eqb-true (length g.keys) entries (and_left _ _ t);
              values = eqb-true (length g.values) entries (and_left _ _ t2);
              ps = eqb-true (length g.ps) entries (and_left _ _ t3);
              ls = eqb-true (length g.ls) entries (and_right (eqb (length g.ps) entries) _ t3);
            };
        short = leb-true entries committed_limit (and_left _ _ h2);
        order = and_right (leb entries committed_limit) _ h2;
      }

  pub fits_log : LogFits g → could_hold g ≡ true
  unfolding could_hold same_lengths
  fits_log f =
      let t = f.together in
      and_both _ _
      (and_both _ _ (eq-eqb (length g.keys) entries t.keys)
      (and_both _ _ (eq-eqb (length g.values) entries t.values) (and_both _ _ (eq-eqb (length g.ps) entries t.ps) (eq-eqb (length g.ls) entries t.ls))))
      (and_both _ _ (le-leb entries committed_limit f.short) f.order)

-- ---- the list

in_range_lem : (r : PhoneRecord) → record_in_range r ≡ true → InRange r
unfolding record_in_range
in_range_lem r h =
    record {
      kind = ⊎_elim (λ e. inl (eqb-true r.kind write_kind e)) (λ e. inr (eqb-true r.kind read_kind e)) (or_cases (eqb r.kind write_kind) _ (and_right (leb r.key highest_key) _ h));
      key = leb-true r.key highest_key (and_left _ _ h);
    }

range_in : (r : PhoneRecord) → InRange r → record_in_range r ≡ true
unfolding record_in_range
range_in r f =
    and_both _ _ (le-leb r.key highest_key f.key)
    (⊎_elim (λ e. or_left _ _ (eq-eqb r.kind write_kind e)) (λ e. or_right (eqb r.kind write_kind) _ (eq-eqb r.kind read_kind e)) f.kind)

module _ (rs : List PhoneRecord) where
  pub list_fits : list_ok rs (length rs) ≡ true → ListFits rs
  unfolding list_ok
  list_fits h =
      record {
        few = leb-true (length rs) most_records (and_left _ _ h);
        each = λ i l. in_range_lem (record_at rs i) (every_at _ (length rs) i (and_right (leb (length rs) most_records) _ h) l);
      }

  pub fits_list : ListFits rs → list_ok rs (length rs) ≡ true
  unfolding list_ok
  fits_list f =
      and_both _ _ (le-leb (length rs) most_records f.few) (every_all _ (length rs) (λ i l. range_in (record_at rs i) (f.each i l)))
