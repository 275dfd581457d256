-- What the types of reports, notes, queues and mail give. Assumes nothing.
use Rattle.std.specs.Prelude.{◌≡◌, ℕ, ◌<◌, ◌≤◌, ◌^◌, length, IfSome}
use Rattle.base.specs.Numbers.{byte}
use Rattle.clock.specs.Times.{limit}
use Rattle.mail.specs.declared.Report.{Report}
use Rattle.mail.specs.declared.Note.{Note}
use Rattle.mail.specs.declared.Queue.{Queue}
use Rattle.mail.specs.declared.Mail.{Mail}
use Rattle.mail.specs.Reports.{note_of}
use Rattle.mail.specs.Queues.{queue_limit, report_at}
use Rattle.mail.specs.Mails.{note_slots, note_at}

pub record FitsNote (n : Note) : Type 0 where
  pub term : n.term ≤ limit
  pub last : n.last ≤ limit
  pub len : n.len ≤ limit

pub record FitsReport (r : Report) : Type 0 where
  pub who : r.who < byte
  pub note : FitsNote (note_of r)

pub record FitsQueue (q : Queue) : Type 0 where
  pub slots : length q.reports ≡ queue_limit
  pub len : q.len < 2 ^ 64
  pub each : (i : ℕ) → i < queue_limit → FitsReport (report_at q i)

pub record FitsMail (m : Mail) : Type 0 where
  pub slots : length m.notes ≡ note_slots
  pub each : (i : ℕ) → i < note_slots → FitsNote (note_at m i)
  pub queue : FitsQueue m.queue
  pub source : IfSome m.source (λ s. s < 2 ^ 64)
