-- What is held afterwards: each note and each report is one of before, or the new one, or zero. Assumes nothing.
use mathlib.Core.Path.{◌≡◌, refl, ap, sym, ◌∙◌}
use mathlib.Core.Bool.{Bool, true, false}
use mathlib.Core.List.{List}
use mathlib.Core.Logic.{◌⊎◌, inl, inr, ⊎_elim}
use Prim.Native.Nat.{ℕ, suc, ◌+◌, ◌-◌, ◌<◌, ◌≤◌}
use native.Mathlib.Omega.{arith}
use lib.Dec.{eqb}
use lib.ListN.{length, get_or, set, replicate, length-set, length-replicate, get_or-replicate, get_or-eq_default}
use lib.Seq.{set_out, set-get_or, get_or-set_same, get_or-set_other}
use borrow.Author.Tests.{eqb-true, eqb-false, lt-ltb, le-ltb}
use Rattle.base.proofs.Each.{length_each_from, each_at}
use Rattle.base.proofs.Facts.{lt_or_le}
use Rattle.mail.specs.declared.Report.{Report}
use Rattle.mail.specs.declared.Queue.{Queue}
use Rattle.mail.specs.declared.Mail.{Mail}
use Rattle.mail.specs.Reports.{zero_report, zero_note, note_of, gives_way}
use Rattle.mail.specs.Queues.{queue_limit, empty_queue, report_at, queued, oldest_taken}
use Rattle.mail.specs.Mails.{note_slots, zero_mail, note_at, with_notes, noted, emptied}

-- one element is replaced: each is the one before, or the new one
set_held : {A : Type 0} (xs : List A) (i j : ℕ) (x d : A) → (get_or (set xs i x) j d ≡ get_or xs j d) ⊎ ((get_or (set xs i x) j d ≡ x) × (j ≡ i))
set_held {A} xs i j x d = go (eqb j i) refl
  where
    go : (b : Bool) → eqb j i ≡ b → (get_or (set xs i x) j d ≡ get_or xs j d) ⊎ ((get_or (set xs i x) j d ≡ x) × (j ≡ i))
    go false e = inl (get_or-set_other xs i j x d (eqb-false j i e))
    go true e =
        let here : j ≡ i = eqb-true j i e in
        ⊎_elim (λ l. inr (ap (λ (k : ℕ). get_or (set xs i x) k d) here ∙ get_or-set_same xs i x d l, here))
        (λ l. inl (ap (λ (ys : List A). get_or ys j d) (set_out xs i x l))) (lt_or_le i (length xs))

-- ---- a report is noted

module _ (m : Mail) (r : Report) where
  -- one that the note of its server doesn't give way to changes nothing
  pub noted_not : gives_way (note_at m r.who) (note_of r) ≡ false → noted m r ≡ m
  unfolding noted
  noted_not e = rw e (ap (with_notes m) (set-get_or m.notes r.who zero_note))

  pub noted_new : gives_way (note_at m r.who) (note_of r) ≡ true → noted m r ≡ with_notes m (set m.notes r.who (note_of r))
  unfolding noted
  noted_new e = rw e

  -- a row of notes stays as long, and the queue and the source as they were
  pub noted_slots : length (noted m r).notes ≡ length m.notes
  unfolding noted
  noted_slots = length-set m.notes r.who _

  pub noted_queue : (noted m r).queue ≡ m.queue
  unfolding noted
  noted_queue = refl

  pub noted_source : (noted m r).source ≡ m.source
  unfolding noted
  noted_source = refl

  -- a note afterwards is the one before, or what the report says, at the number of the server that it is about
  pub noted_held : (j : ℕ) → (note_at (noted m r) j ≡ note_at m j) ⊎ ((note_at (noted m r) j ≡ note_of r) × (j ≡ r.who))
  noted_held j = go (gives_way (note_at m r.who) (note_of r)) refl
    where
      go : (b : Bool) → gives_way (note_at m r.who) (note_of r) ≡ b → (note_at (noted m r) j ≡ note_at m j) ⊎ ((note_at (noted m r) j ≡ note_of r) × (j ≡ r.who))
      go false e = inl (ap (λ (o : Mail). note_at o j) (noted_not e))
      go true e = rw (noted_new e) (set_held m.notes r.who j (note_of r) zero_note)

-- ---- a report is sent

module _ (q : Queue) (r : Report) where
  pub queued_full : queue_limit ≤ q.len → queued q r ≡ q
  unfolding queued
  queued_full h = rw (le-ltb q.len queue_limit h)

  pub queued_room : q.len < queue_limit → queued q r ≡ record { reports = set q.reports q.len r; len = q.len + 1 }
  unfolding queued
  queued_room h = rw (lt-ltb q.len queue_limit h)

  pub queued_slots : length (queued q r).reports ≡ length q.reports
  queued_slots =
      ⊎_elim (λ h. ap (λ (p : Queue). length p.reports) (queued_room h) ∙ length-set q.reports q.len r)
      (λ h. ap (λ (p : Queue). length p.reports) (queued_full h)) (lt_or_le q.len queue_limit)

  -- a slot afterwards holds what it held, or the report, in the first slot past the length
  pub queued_held : (j : ℕ) → (report_at (queued q r) j ≡ report_at q j) ⊎ ((report_at (queued q r) j ≡ r) × (j ≡ q.len))
  queued_held j =
      ⊎_elim (λ h. rw (queued_room h) (set_held q.reports q.len j r zero_report))
      (λ h. inl (ap (λ (p : Queue). report_at p j) (queued_full h))) (lt_or_le q.len queue_limit)

-- ---- the oldest report is taken

module _ (q : Queue) where
  pub taken_slots : length (oldest_taken q).reports ≡ length q.reports
  unfolding oldest_taken
  taken_slots = length_each_from _ 0 q.reports

  pub taken_len : (oldest_taken q).len ≡ q.len - 1
  unfolding oldest_taken
  taken_len = refl

  -- a slot holds what the next held; past the slots that is zero
  pub taken_held : (j : ℕ) → report_at (oldest_taken q) j ≡ report_at q (suc j)
  unfolding oldest_taken
  taken_held j =
      ⊎_elim (λ h. each_at (λ i r. report_at q (suc i)) q.reports j zero_report h)
      (λ h. get_or-eq_default (oldest_taken q).reports zero_report {n = j} (omega (arith, taken_slots))
      ∙ sym (get_or-eq_default q.reports zero_report {n = suc j} (omega arith)))
      (lt_or_le j (length q.reports))

-- ---- nothing is held

zeros : {A : Type 0} (n j : ℕ) (z : A) → get_or (replicate n z) j z ≡ z
zeros n j z =
    ⊎_elim (λ h. get_or-replicate n j z z h) (λ h. get_or-eq_default (replicate n z) z (omega (arith, length-replicate n z))) (lt_or_le j n)

pub zero_note_at : (j : ℕ) → note_at zero_mail j ≡ zero_note
zero_note_at j = zeros note_slots j zero_note

pub zero_report_at : (j : ℕ) → report_at empty_queue j ≡ zero_report
zero_report_at j = zeros queue_limit j zero_report

pub emptied_note_at : (m : Mail) (j : ℕ) → note_at (emptied m) j ≡ zero_note
emptied_note_at m j = zero_note_at j

pub emptied_report_at : (m : Mail) (j : ℕ) → report_at (emptied m).queue j ≡ zero_report
emptied_report_at m j = zero_report_at j
