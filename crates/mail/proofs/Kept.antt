-- What is done to mail keeps it good, whatever the count and the server; and past the count mail is zero. Assumes nothing.
use Rattle.std.proofs.Common.{Option, None, Some}
use mathlib.Core.Path.{◌≡◌, refl, sym, ◌∙◌}
use mathlib.Core.Bool.{true}
use mathlib.Core.List.{List}
use mathlib.Core.Logic.{inl, inr, ⊎_elim}
use Prim.Native.Nat.{ℕ, suc, ◌+◌, ◌<◌, ◌≤◌}
use native.Mathlib.Omega.{arith}
use lib.ListN.{get_or, set, replicate, length-set}
use lib.Seq.{get_or-set_same, get_or-set_other, ext_get_or}
use Rattle.base.proofs.Facts.{lt_or_le}
use Rattle.mail.specs.declared.Report.{Report}
use Rattle.mail.specs.declared.Note.{Note}
use Rattle.mail.specs.declared.Queue.{Queue}
use Rattle.mail.specs.declared.Mail.{Mail}
use Rattle.mail.specs.Reports.{zero_report, zero_note}
use Rattle.mail.specs.Queues.{queue_limit, empty_queue, report_at, queued, oldest_taken}
use Rattle.mail.specs.Mails.{note_slots, zero_mail, with_source, noted, received, taken, emptied}
use Rattle.mail.specs.Order.{mail_ok}
use Rattle.mail.specs.Ranges.{FitsMail}
use Rattle.mail.proofs.Held.{noted_queue, noted_source, noted_held, queued_full, queued_room, taken_slots, taken_len, taken_held, zero_note_at, zero_report_at}
use Rattle.mail.proofs.Good.{UsedReport, NoteGood, QueueGood, SourceGood, no_source, MailGood, mail_good, good_mail}

-- ---- queues

pub empty_good : {count : ℕ} → QueueGood count empty_queue
empty_good = record { slots = refl; short = omega arith; live = λ i l. absurd (omega arith); rest = λ i l. zero_report_at i }

module _ {count : ℕ} {q : Queue} (g : QueueGood count q) where
  pub queued_good : {r : Report} → UsedReport count r → QueueGood count (queued q r)
  queued_good {r} u = ⊎_elim (λ h. rw (queued_room q r h) (room h)) (λ h. rw (queued_full q r h) g) (lt_or_le q.len queue_limit)
    where
      after : List Report
      after = set q.reports q.len r

      live : q.len < queue_limit → (i : ℕ) → i < q.len + 1 → UsedReport count (get_or after i zero_report)
      live h i l =
          ⊎_elim (λ m. rw (get_or-set_other q.reports q.len i r zero_report (omega arith)) (g.live i m))
          (λ m. let here : i ≡ q.len = omega arith in rw (here, get_or-set_same q.reports q.len r zero_report (omega (arith, g.slots))) u)
          (lt_or_le i q.len)

      room : q.len < queue_limit → QueueGood count (record { reports = after; len = q.len + 1 })
      room h =
          record {
            slots = length-set q.reports q.len r ∙ g.slots;
            short = omega arith;
            live = live h;
            rest = λ i l. get_or-set_other q.reports q.len i r zero_report (omega arith) ∙ g.rest i (omega arith);
          }

  pub oldest_taken_good : QueueGood count (oldest_taken q)
  oldest_taken_good =
      record {
        slots = taken_slots q ∙ g.slots;
        short = omega (arith, taken_len q, g.short);
        live = λ i l. rw (taken_held q i) (g.live (suc i) (omega (arith, taken_len q)));
        rest = λ i l. taken_held q i ∙ g.rest (suc i) (omega (arith, taken_len q));
      }

  -- where there is a report, the oldest is one of a counted server
  pub oldest_used : 1 ≤ q.len → UsedReport count (report_at q 0)
  oldest_used h = g.live 0 h

-- ---- mail

pub zero_good : {count i : ℕ} → MailGood count i zero_mail
zero_good = record { notes = λ j. inl (zero_note_at j); queue = empty_good; source = no_source }

module _ {count i : ℕ} {m : Mail} (g : MailGood count i m) where
  pub received_good : {r : Report} → UsedReport count r → MailGood count i (received m r)
  received_good u = record { notes = g.notes; queue = queued_good g.queue u; source = g.source }

  pub taken_good : MailGood count i (taken m)
  taken_good = record { notes = g.notes; queue = oldest_taken_good g.queue; source = g.source }

  pub noted_good : {r : Report} → UsedReport count r → MailGood count i (noted m r)
  noted_good {r} u =
      record {
        notes = λ j. ⊎_elim (λ e. rw e (g.notes j)) (λ e. rw (e.0, e.1) (inr u)) (noted_held m r j);
        queue = rw (noted_queue m r) g.queue;
        source = rw (noted_source m r) g.source;
      }

  pub emptied_good : MailGood count i (emptied m)
  emptied_good = record { notes = λ j. inl (zero_note_at j); queue = empty_good; source = g.source }

  pub sourced_good : {s : Option ℕ} → SourceGood count i s → MailGood count i (with_source m s)
  sourced_good s = record { notes = g.notes; queue = g.queue; source = s }

-- ---- past the count

-- of none there is nothing
pub zero_mail_is : (i : ℕ) {m : Mail} → FitsMail m → mail_ok 0 i m ≡ true → m ≡ zero_mail
zero_mail_is i {m} f h = λ k. record { notes = notes k; queue = record { reports = reports k; len = len k }; source = source k }
  where
    g : MailGood 0 i m
    g = mail_good f h

    unused : {j : ℕ} {n : Note} → NoteGood 0 j n → n ≡ zero_note
    unused (inl e) = e
    unused (inr u) = absurd (omega (arith, u.below))

    notes : m.notes ≡ replicate note_slots zero_note
    notes = ext_get_or zero_note m.notes (replicate note_slots zero_note) f.slots (λ j l. unused (g.notes j) ∙ sym (zero_note_at j))

    len : m.queue.len ≡ 0
    len = ⊎_elim (λ l. absurd (omega (arith, (oldest_used g.queue l).below))) (λ l. omega arith) (lt_or_le 0 m.queue.len)

    reports : m.queue.reports ≡ replicate queue_limit zero_report
    reports =
        ext_get_or zero_report m.queue.reports (replicate queue_limit zero_report) f.queue.slots
        (λ j l. g.queue.rest j (omega (arith, len)) ∙ sym (zero_report_at j))

    none : (s : Option ℕ) → SourceGood 0 i s → s ≡ None
    none None h = refl
    none (Some s) h = absurd (omega (arith, h.within))

    source : m.source ≡ None
    source = none m.source g.source

pub zero_mail_ok : (i : ℕ) → mail_ok 0 i zero_mail ≡ true
zero_mail_ok i = good_mail zero_good
