-- What is done to mail that fits gives mail that fits. Assumes nothing.
use Rattle.std.proofs.Common.{Option, IfSome}
use mathlib.Core.Path.{refl, ◌∙◌}
use mathlib.Core.Logic.{⊎_elim}
use Prim.Native.Nat.{ℕ, suc, ◌<◌, ◌^◌}
use native.Mathlib.Omega.{arith}
use lib.ListN.{get_or-eq_default}
use Rattle.base.proofs.Facts.{lt_or_le}
use Rattle.mail.specs.declared.Report.{Report}
use Rattle.mail.specs.declared.Queue.{Queue}
use Rattle.mail.specs.declared.Mail.{Mail}
use Rattle.mail.specs.Reports.{zero_report, zero_note}
use Rattle.mail.specs.Queues.{queue_limit, empty_queue, report_at, queued, oldest_taken}
use Rattle.mail.specs.Mails.{note_slots, zero_mail, note_at, with_source, noted, received, taken, emptied}
use Rattle.mail.specs.Ranges.{FitsNote, FitsReport, FitsQueue, FitsMail}
use Rattle.mail.proofs.Held.{noted_slots, noted_queue, noted_source, noted_held, queued_slots, queued_full, queued_room, queued_held, taken_slots, taken_len, taken_held, zero_note_at, zero_report_at}

-- ---- nothing

fits_zero_note : FitsNote zero_note
fits_zero_note = record { term = omega arith; last = omega arith; len = omega arith }

fits_zero_report : FitsReport zero_report
fits_zero_report = record { who = omega arith; note = fits_zero_note }

pub fits_empty_queue : FitsQueue empty_queue
fits_empty_queue = record { slots = refl; len = omega arith; each = λ i l. rw (zero_report_at i) fits_zero_report }

pub fits_zero_mail : FitsMail zero_mail
fits_zero_mail = record { slots = refl; each = λ i l. rw (zero_note_at i) fits_zero_note; queue = fits_empty_queue; source = tt }

-- ---- queues

module _ {q : Queue} (f : FitsQueue q) where
  -- the report in any slot fits, the zero report past the slots
  pub fits_report_at : (i : ℕ) → FitsReport (report_at q i)
  fits_report_at i =
      ⊎_elim (f.each i) (λ l. rw (get_or-eq_default q.reports zero_report {n = i} (omega (arith, f.slots))) fits_zero_report) (lt_or_le i queue_limit)

  pub fits_queued : {r : Report} → FitsReport r → FitsQueue (queued q r)
  fits_queued {r} k =
      record {
        slots = queued_slots q r ∙ f.slots;
        len = ⊎_elim (λ h. rw (queued_room q r h) (omega arith)) (λ h. rw (queued_full q r h) f.len) (lt_or_le q.len queue_limit);
        each = λ i l. ⊎_elim (λ e. rw e (f.each i l)) (λ e. rw e.0 k) (queued_held q r i);
      }

  pub fits_oldest_taken : FitsQueue (oldest_taken q)
  fits_oldest_taken =
      record {
        slots = taken_slots q ∙ f.slots;
        len = omega (arith, taken_len q, f.len);
        each = λ i l. rw (taken_held q i) (fits_report_at (suc i));
      }

-- ---- mail

module _ {m : Mail} (f : FitsMail m) where
  -- the note at any number fits, the zero note past the slots
  pub fits_note_at : (i : ℕ) → FitsNote (note_at m i)
  fits_note_at i =
      ⊎_elim (f.each i) (λ l. rw (get_or-eq_default m.notes zero_note {n = i} (omega (arith, f.slots))) fits_zero_note) (lt_or_le i note_slots)

  pub fits_received : {r : Report} → FitsReport r → FitsMail (received m r)
  fits_received k = record { slots = f.slots; each = f.each; queue = fits_queued f.queue k; source = f.source }

  pub fits_taken : FitsMail (taken m)
  fits_taken = record { slots = f.slots; each = f.each; queue = fits_oldest_taken f.queue; source = f.source }

  pub fits_noted : {r : Report} → FitsReport r → FitsMail (noted m r)
  fits_noted {r} k =
      record {
        slots = noted_slots m r ∙ f.slots;
        each = λ i l. ⊎_elim (λ e. rw e (f.each i l)) (λ e. rw e.0 k.note) (noted_held m r i);
        queue = rw (noted_queue m r) f.queue;
        source = rw (noted_source m r) f.source;
      }

  pub fits_emptied : FitsMail (emptied m)
  fits_emptied = record { slots = refl; each = fits_zero_mail.each; queue = fits_empty_queue; source = f.source }

  pub fits_sourced : {s : Option ℕ} → IfSome s (λ b. b < 2 ^ 64) → FitsMail (with_source m s)
  fits_sourced h = record { slots = f.slots; each = f.each; queue = f.queue; source = h }
