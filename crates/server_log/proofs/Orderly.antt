-- A log that a well-formed record may hold, as facts: one for each clause of 01, and back. Assumes nothing.
use mathlib.Core.Path.{◌≡◌, refl, ap, sym, ◌∙◌}
use mathlib.Core.List.{List, [], ◌∷◌}
use mathlib.Core.Bool.{true, false, ◌&&◌, ◌||◌}
use mathlib.Core.Logic.{◌⊎◌, inl, inr, ⊎_elim}
use Prim.Native.Nat.{ℕ, zero, suc, ◌+◌, ◌-◌, ◌<◌, ◌≤◌}
use native.Mathlib.Nat.{eq-or-lt_of_le, le_of_suc-le-suc}
use native.Mathlib.Omega.{arith}
use lib.Dec.{eqb, leb}
use lib.ListN.{length, get_or, take, drop, replicate, length-replicate, get_or-replicate}
use lib.Seq.{ext_get_or, get_or-drop, length-take-le}
use borrow.Author.Tests.{leb-true, le-leb, eqb-true, eq-eqb}
use Rattle.base.proofs.Bools.{and_both, and_left, and_right, or_left, or_right, or_cases}
use Rattle.base.proofs.Every.{every_at, every_all}
use Rattle.clock.specs.Times.{is_before}
use Rattle.clock.proofs.Order.{before_itself, before_not_after, before_trans}
use Rattle.server_log.specs.declared.Entry.{Entry}
use Rattle.server_log.specs.declared.Log.{Log}
use Rattle.server_log.specs.Entries.{zero_entry, same_entry, entry_at, applied_time}
use Rattle.server_log.specs.Logs.{log_limit, empty_log, live}
use Rattle.server_log.specs.Order.{highest_key, no_key, writes_some, entry_ok, follows, place_ok, in_order, all_zero, rest_zero, is_empty_log, log_ok}
use Rattle.server_log.proofs.Equal.{same_entry_eq, same_entry_refl}
use Rattle.server_log.proofs.Live.{entry_at_take}
use Rattle.server_log.proofs.Tidy.{Tidy, tidy_empty}

-- ---- one entry

-- it writes a value for a key, or nothing
abbrev pub Writing : ℕ → ℕ → Type 0
Writing key value = ((key ≤ highest_key) × (1 ≤ value)) ⊎ ((key ≡ no_key) × (value ≡ 0))

pub record EntryGood (term : ℕ) (e : Entry) : Type 0 where
  pub from_one : 1 ≤ e.term
  pub not_above : e.term ≤ term
  pub writes : Writing e.key e.value

pub entry_good : {term : ℕ} {e : Entry} → entry_ok term e ≡ true → EntryGood term e
unfolding entry_ok
entry_good {term} {e} h =
    let h2 = and_right (leb 1 e.term) _ h in
    let h3 = and_right (leb e.term term) _ h2 in
    record {
      from_one = leb-true 1 e.term (and_left _ _ h);
      not_above = leb-true e.term term (and_left _ _ h2);
      writes =
          ⊎_elim (λ s. inl (leb-true _ _ (and_left _ _ s), leb-true _ _ (and_right (leb e.key highest_key) _ s)))
          (λ s. inr (eqb-true _ _ (and_left _ _ s), eqb-true _ _ (and_right (eqb e.key no_key) _ s))) (or_cases (writes_some e) _ h3);
    }

pub good_entry : {term : ℕ} {e : Entry} → EntryGood term e → entry_ok term e ≡ true
unfolding entry_ok
good_entry {term} {e} g =
    and_both _ _ (le-leb 1 e.term g.from_one)
    (and_both _ _ (le-leb e.term term g.not_above)
    (⊎_elim (λ w. or_left _ _ (and_both _ _ (le-leb e.key highest_key w.0) (le-leb 1 e.value w.1)))
    (λ w. or_right (writes_some e) _ (and_both _ _ (eq-eqb e.key no_key w.0) (eq-eqb e.value 0 w.1))) g.writes))

-- ---- the entries of a log

pub record Orderly (term : ℕ) (es : List Entry) : Type 0 where
  pub each : (n : ℕ) → 1 ≤ n → n ≤ length es → EntryGood term (entry_at es n)
  pub terms : (n : ℕ) → 1 ≤ n → n < length es → (entry_at es n).term ≤ (entry_at es (suc n)).term
  pub times : (n : ℕ) → 1 ≤ n → n < length es → is_before (entry_at es n).time (entry_at es (suc n)).time ≡ true

pub orderly : {term : ℕ} {es : List Entry} → in_order term es ≡ true → Orderly term es
unfolding in_order place_ok follows
orderly {term} {es} h = record { each = one; terms = up; times = rise }
  where
    place : (i : ℕ) → i < length es → (entry_ok term (entry_at es (suc i)) && (eqb i 0 || (leb (entry_at es i).term (entry_at es (suc i)).term && is_before (entry_at es i).time (entry_at es (suc i)).time))) ≡ true
    place i l = every_at _ (length es) i h l

    one : (n : ℕ) → 1 ≤ n → n ≤ length es → EntryGood term (entry_at es n)
    one zero p l = absurd (omega arith)
    one (suc i) p l = entry_good (and_left _ _ (place i l))

    after : (n : ℕ) → 1 ≤ n → n < length es → (leb (entry_at es n).term (entry_at es (suc n)).term && is_before (entry_at es n).time (entry_at es (suc n)).time) ≡ true
    after n p l =
        ⊎_elim (λ z. absurd (omega (arith, eqb-true n 0 z))) (λ f. f) (or_cases (eqb n 0) _ (and_right (entry_ok term (entry_at es (suc n))) _ (place n l)))

    up : (n : ℕ) → 1 ≤ n → n < length es → (entry_at es n).term ≤ (entry_at es (suc n)).term
    up n p l = leb-true _ _ (and_left _ _ (after n p l))

    rise : (n : ℕ) → 1 ≤ n → n < length es → is_before (entry_at es n).time (entry_at es (suc n)).time ≡ true
    rise n p l = and_right (leb (entry_at es n).term (entry_at es (suc n)).term) _ (after n p l)

pub in_order_lem : {term : ℕ} {es : List Entry} → Orderly term es → in_order term es ≡ true
unfolding in_order place_ok follows
in_order_lem {term} {es} o = every_all _ (length es) (λ i l. and_both _ _ (good_entry (o.each (suc i) (omega arith) l)) (place i l))
  where
    place : (i : ℕ) → i < length es → (eqb i 0 || (leb (entry_at es i).term (entry_at es (suc i)).term && is_before (entry_at es i).time (entry_at es (suc i)).time)) ≡ true
    place zero l = refl
    place (suc i) l = or_right (eqb (suc i) 0) _ (and_both _ _ (le-leb _ _ (o.terms (suc i) (omega arith) l)) (o.times (suc i) (omega arith) l))

-- so times rise strictly from any entry to any later one
pub later_time : {term : ℕ} {es : List Entry} → Orderly term es → (m n : ℕ) → 1 ≤ m → m < n → n ≤ length es
    → is_before (entry_at es m).time (entry_at es n).time ≡ true
later_time o m zero p l h = absurd (omega arith)
later_time {es = es} o m (suc n) p l h =
    go (eq-or-lt_of_le (le_of_suc-le-suc l)) (λ k. later_time o m n p k (omega arith))
  where
    go : (m ≡ n) ⊎ (m < n) → (m < n → is_before (entry_at es m).time (entry_at es n).time ≡ true)
        → is_before (entry_at es m).time (entry_at es (suc n)).time ≡ true
    go (inl e) ih = rw e (o.times n (omega arith) h)
    go (inr k) ih = before_trans _ _ _ (ih k) (o.times n (omega arith) h)

-- and no entry's time is after that of any later one, nor after its own
pub not_after : {term : ℕ} {es : List Entry} → Orderly term es → (m n : ℕ) → 1 ≤ m → m ≤ n → n ≤ length es
    → is_before (entry_at es n).time (entry_at es m).time ≡ false
not_after {es = es} o m n p l h =
    ⊎_elim (λ e. rw e (before_itself (entry_at es n).time)) (λ k. before_not_after _ _ (later_time o m n p k h)) (eq-or-lt_of_le l)

pub not_after_last : {term : ℕ} {es : List Entry} → Orderly term es → (n : ℕ) → 1 ≤ n → n ≤ length es → is_before (applied_time es) (entry_at es n).time ≡ false
not_after_last {es = es} o n p l = not_after o n (length es) p l (omega arith)

-- the first entries of a log in order are in order
pub orderly_first : {term : ℕ} {es : List Entry} → Orderly term es → (k : ℕ) → k ≤ length es → Orderly term (take k es)
orderly_first {term} {es} o k h =
    record {
      each = λ n p l. rw (at n (omega (arith, long))) (o.each n p (omega (arith, long)));
      terms = λ n p l. rw (at n (omega (arith, long)), at (suc n) (omega (arith, long))) (o.terms n p (omega (arith, long)));
      times = λ n p l. rw (at n (omega (arith, long)), at (suc n) (omega (arith, long))) (o.times n p (omega (arith, long)));
    }
  where
    long : length (take k es) ≡ k
    long = length-take-le k es h

    at : (n : ℕ) → n ≤ k → entry_at (take k es) n ≡ entry_at es n
    at n l = entry_at_take k n es l

-- ---- the slots

all_zero_at : (es : List Entry) → all_zero es ≡ true → (i : ℕ) → get_or es i zero_entry ≡ zero_entry
all_zero_at [] h i = refl
all_zero_at (e ∷ es) h zero = same_entry_eq e zero_entry (and_left _ _ h)
all_zero_at (e ∷ es) h (suc i) = all_zero_at es (and_right (same_entry e zero_entry) _ h) i

each_zero : (es : List Entry) → ((i : ℕ) → get_or es i zero_entry ≡ zero_entry) → all_zero es ≡ true
each_zero [] z = refl
each_zero (e ∷ es) z = and_both _ _ (ap (λ (d : Entry). same_entry d zero_entry) (z 0) ∙ same_entry_refl zero_entry) (each_zero es (λ i. z (suc i)))

rest_is : (g : Log) (k : ℕ) → rest_zero g k ≡ true → (i : ℕ) → k ≤ i → get_or g.entries i zero_entry ≡ zero_entry
unfolding rest_zero
rest_is g k h i l =
    let e : i ≡ k + (i - k) = omega arith in
    ap (λ (j : ℕ). get_or g.entries j zero_entry) e ∙ sym (get_or-drop k g.entries (i - k) zero_entry) ∙ all_zero_at (drop k g.entries) h (i - k)

is_rest : (g : Log) (k : ℕ) → ((i : ℕ) → k ≤ i → get_or g.entries i zero_entry ≡ zero_entry) → rest_zero g k ≡ true
unfolding rest_zero
is_rest g k z = each_zero (drop k g.entries) (λ i. get_or-drop k g.entries i zero_entry ∙ z (k + i) (omega arith))

-- no entry and every slot zero is the empty log
pub empty_log_is : (g : Log) → length g.entries ≡ log_limit → is_empty_log g ≡ true → g ≡ empty_log
unfolding is_empty_log
empty_log_is g slots h =
    let none = eqb-true g.len 0 (and_left _ _ h) in
    let zero-from = rest_is g 0 (and_right (eqb g.len 0) _ h) in
    let e : g.entries ≡ replicate log_limit zero_entry =
    ext_get_or zero_entry g.entries (replicate log_limit zero_entry) (slots ∙ sym (length-replicate log_limit zero_entry))
    (λ i l. zero-from i (omega arith) ∙ sym (get_or-replicate log_limit i zero_entry zero_entry (omega (arith, slots)))) in
    λ i. record { entries = e i; len = none i }

pub is_empty_log_lem : is_empty_log empty_log ≡ true
unfolding is_empty_log
is_empty_log_lem = is_rest empty_log 0 tidy_empty.rest

-- ---- the whole log

pub record LogGood (term : ℕ) (g : Log) : Type 0 where
  pub tidy : Tidy g
  pub order : Orderly term (live g)

pub log_good : {term : ℕ} {g : Log} → length g.entries ≡ log_limit → log_ok term g ≡ true → LogGood term g
unfolding log_ok
log_good {term} {g} s h =
    let h2 = and_right (leb g.len log_limit) _ h in
    record {
      tidy = record { slots = s; short = leb-true g.len log_limit (and_left _ _ h); rest = rest_is g g.len (and_left _ _ h2) };
      order = orderly (and_right (rest_zero g g.len) _ h2);
    }

pub good_log : {term : ℕ} {g : Log} → LogGood term g → log_ok term g ≡ true
unfolding log_ok
good_log {term} {g} o =
    and_both _ _ (le-leb g.len log_limit o.tidy.short) (and_both _ _ (is_rest g g.len o.tidy.rest) (in_order_lem o.order))
