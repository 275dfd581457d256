-- Mail that a well-formed record may hold, as facts: one for each clause of 02, and back. Assumes nothing.
use Rattle.std.proofs.Common.{Option, None, Some, IfSome}
use mathlib.Core.Path.{◌≡◌, refl, ap}
use mathlib.Core.Bool.{true, not, ◌&&◌}
use mathlib.Core.Logic.{◌⊎◌, inl, inr, ◌≢◌, ⊎_elim}
use Prim.Native.Nat.{ℕ, ◌<◌, ◌≤◌}
use native.Mathlib.Omega.{arith}
use lib.Dec.{eqb, ltb, leb}
use lib.ListN.{length, get_or-eq_default}
use borrow.Author.Tests.{leb-true, le-leb, ltb-true, lt-ltb, le-ltb, eqb-true, eqb-false, ne_eqb, not-true}
use Rattle.base.proofs.Bools.{and_both, and_left, and_right, or_left, or_right, or_cases}
use Rattle.base.proofs.Every.{every_at, every_all}
use Rattle.base.proofs.Facts.{lt_or_le}
use Rattle.server_log.specs.Logs.{highest_position}
use Rattle.mail.specs.declared.Report.{Report}
use Rattle.mail.specs.declared.Note.{Note}
use Rattle.mail.specs.declared.Queue.{Queue}
use Rattle.mail.specs.declared.Mail.{Mail}
use Rattle.mail.specs.Reports.{zero_report, zero_note, note_of}
use Rattle.mail.specs.Queues.{queue_limit, report_at}
use Rattle.mail.specs.Mails.{note_slots, note_at}
use Rattle.mail.specs.Order.{is_unused, is_used, note_ok, notes_ok, slot_ok, queue_ok, source_ok, mail_ok}
use Rattle.mail.specs.Ranges.{FitsMail}

-- ---- one note

-- a used note of a server below the count
pub record Used (count who : ℕ) (n : Note) : Type 0 where
  pub below : who < count
  pub from_one : 1 ≤ n.len
  pub not_past : n.len ≤ highest_position
  pub last_from_one : 1 ≤ n.last
  pub last_not_above : n.last ≤ n.term

-- a report is as a used note is
abbrev pub UsedReport : ℕ → Report → Type 0
UsedReport count r = Used count r.who (note_of r)

module _ {count who : ℕ} {n : Note} where
  pub used_good : is_used count who n ≡ true → Used count who n
  unfolding is_used
  used_good h =
      let h2 = and_right (ltb who count) _ h in
      let h3 = and_right (leb 1 n.len) _ h2 in
      let h4 = and_right (leb n.len highest_position) _ h3 in
      record {
        below = ltb-true who count (and_left _ _ h);
        from_one = leb-true 1 n.len (and_left _ _ h2);
        not_past = leb-true n.len highest_position (and_left _ _ h3);
        last_from_one = leb-true 1 n.last (and_left _ _ h4);
        last_not_above = leb-true n.last n.term (and_right (leb 1 n.last) _ h4);
      }

  pub good_used : Used count who n → is_used count who n ≡ true
  unfolding is_used
  good_used u =
      and_both _ _ (lt-ltb who count u.below)
      (and_both _ _ (le-leb 1 n.len u.from_one)
      (and_both _ _ (le-leb n.len highest_position u.not_past)
      (and_both _ _ (le-leb 1 n.last u.last_from_one) (le-leb n.last n.term u.last_not_above))))

-- an unused note is zero
pub unused_is : (n : Note) → is_unused n ≡ true → n ≡ zero_note
unfolding is_unused
unused_is n h =
    let h2 = and_right (eqb n.term 0) _ h in
    let t = eqb-true n.term 0 (and_left _ _ h) in
    let l = eqb-true n.last 0 (and_left _ _ h2) in
    let k = eqb-true n.len 0 (and_right (eqb n.last 0) _ h2) in
    λ i. record { term = t i; last = l i; len = k i }

pub is_unused_lem : (n : Note) → n ≡ zero_note → is_unused n ≡ true
unfolding is_unused
is_unused_lem n e = ap is_unused e

-- the note about server i is unused, or a used one
abbrev pub NoteGood : ℕ → ℕ → Note → Type 0
NoteGood count i n = (n ≡ zero_note) ⊎ Used count i n

module _ {count i : ℕ} {n : Note} where
  pub note_good : note_ok count i n ≡ true → NoteGood count i n
  unfolding note_ok
  note_good h = ⊎_elim (λ e. inl (unused_is n e)) (λ e. inr (used_good e)) (or_cases (is_unused n) _ h)

  pub good_note : NoteGood count i n → note_ok count i n ≡ true
  unfolding note_ok
  good_note g = ⊎_elim (λ e. or_left _ _ (is_unused_lem n e)) (λ u. or_right (is_unused n) _ (good_used u)) g

-- ---- the queue

pub record QueueGood (count : ℕ) (q : Queue) : Type 0 where
  pub slots : length q.reports ≡ queue_limit
  pub short : q.len ≤ queue_limit
  pub live : (i : ℕ) → i < q.len → UsedReport count (report_at q i)
  pub rest : (i : ℕ) → q.len ≤ i → report_at q i ≡ zero_report

zero_report_is : (r : Report) → (eqb r.who 0 && is_unused (note_of r)) ≡ true → r ≡ zero_report
zero_report_is r h =
    let w = eqb-true r.who 0 (and_left _ _ h) in
    let n = unused_is (note_of r) (and_right (eqb r.who 0) _ h) in
    λ i. record { who = w i; term = (n i).term; last = (n i).last; len = (n i).len }

is_zero_report : (r : Report) → r ≡ zero_report → (eqb r.who 0 && is_unused (note_of r)) ≡ true
unfolding is_unused
is_zero_report r e = ap (λ (x : Report). eqb x.who 0 && is_unused (note_of x)) e

module _ {count : ℕ} {q : Queue} where
  pub queue_good : length q.reports ≡ queue_limit → queue_ok count q ≡ true → QueueGood count q
  unfolding queue_ok slot_ok
  queue_good s h = record { slots = s; short = short; live = live; rest = rest }
    where
      short : q.len ≤ queue_limit
      short = leb-true q.len queue_limit (and_left _ _ h)

      slot : (i : ℕ) → i < queue_limit → slot_ok count (ltb i q.len) (report_at q i) ≡ true
      slot i l = every_at _ queue_limit i (and_right (leb q.len queue_limit) _ h) l

      live : (i : ℕ) → i < q.len → UsedReport count (report_at q i)
      live i l = used_good (rw (lt-ltb i q.len l) at (slot i (omega (arith, short))))

      rest : (i : ℕ) → q.len ≤ i → report_at q i ≡ zero_report
      rest i l =
          ⊎_elim (λ m. zero_report_is (report_at q i) (rw (le-ltb i q.len l) at (slot i m)))
          (λ m. get_or-eq_default q.reports zero_report {n = i} (omega (arith, s))) (lt_or_le i queue_limit)

  pub good_queue : QueueGood count q → queue_ok count q ≡ true
  unfolding queue_ok slot_ok
  good_queue g = and_both _ _ (le-leb q.len queue_limit g.short) (every_all _ queue_limit (λ i l. ⊎_elim (live i) (rest i) (lt_or_le i q.len)))
    where
      live : (i : ℕ) → i < q.len → slot_ok count (ltb i q.len) (report_at q i) ≡ true
      live i l = rw (lt-ltb i q.len l) (good_used (g.live i l))

      rest : (i : ℕ) → q.len ≤ i → slot_ok count (ltb i q.len) (report_at q i) ≡ true
      rest i l = rw (le-ltb i q.len l) (is_zero_report (report_at q i) (g.rest i l))

-- ---- the source

-- where there is one, it is counted, and not server i itself
pub record SourceGood (count i : ℕ) (source : Option ℕ) : Type 0 where
  pub within : IfSome source (λ s. s < count)
  pub other : IfSome source (λ s. s ≢ i)

pub no_source : {count i : ℕ} → SourceGood count i None
no_source = record { within = tt; other = tt }

pub source_of : {count i b : ℕ} → b < count → b ≢ i → SourceGood count i (Some b)
source_of l ne = record { within = l; other = ne }

module _ {count i : ℕ} where
  pub source_good : (source : Option ℕ) → source_ok count i source ≡ true → SourceGood count i source
  unfolding source_ok
  source_good None h = no_source
  source_good (Some s) h = source_of (ltb-true s count (and_left _ _ h)) (eqb-false s i (not-true _ (and_right (ltb s count) _ h)))

  pub good_source : (source : Option ℕ) → SourceGood count i source → source_ok count i source ≡ true
  unfolding source_ok
  good_source None g = refl
  good_source (Some s) g = and_both _ _ (lt-ltb s count g.within) (ap not (ne_eqb s i g.other))

-- ---- the mail of server i

pub record MailGood (count i : ℕ) (m : Mail) : Type 0 where
  pub notes : (j : ℕ) → NoteGood count j (note_at m j)
  pub queue : QueueGood count m.queue
  pub source : SourceGood count i m.source

module _ {count i : ℕ} {m : Mail} where
  pub mail_good : FitsMail m → mail_ok count i m ≡ true → MailGood count i m
  unfolding mail_ok notes_ok
  mail_good f h =
      let h2 = and_right (notes_ok count m) _ h in
      record {
        notes = λ j. ⊎_elim (λ l. note_good (every_at _ note_slots j (and_left _ _ h) l))
            (λ l. inl (get_or-eq_default m.notes zero_note {n = j} (omega (arith, f.slots)))) (lt_or_le j note_slots);
        queue = queue_good f.queue.slots (and_left _ _ h2);
        source = source_good m.source (and_right (queue_ok count m.queue) _ h2);
      }

  pub good_mail : MailGood count i m → mail_ok count i m ≡ true
  unfolding mail_ok notes_ok
  good_mail g =
      and_both _ _ (every_all _ note_slots (λ j l. good_note (g.notes j)))
      (and_both _ _ (good_queue g.queue) (good_source m.source g.source))
