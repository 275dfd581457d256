-- What a server knows of others, by value: its row of notes, its queue and its source. Assumes nothing.
use Rattle.std.specs.Prelude.{cond, List, ℕ, get_or, set, replicate, Option, None}
use Rattle.mail.specs.declared.Report.{Report}
use Rattle.mail.specs.declared.Note.{Note}
use Rattle.mail.specs.declared.Queue.{Queue}
use Rattle.mail.specs.declared.Mail.{Mail}
use Rattle.mail.specs.Reports.{zero_note, note_of, gives_way}
use Rattle.mail.specs.Queues.{empty_queue, queued, oldest_taken}

-- a note for each server that there can be, by its number
abbrev pub note_slots : ℕ
note_slots = 7

-- no notes, no reports, no source
abbrev pub zero_mail : Mail
zero_mail = record { notes = replicate note_slots zero_note; queue = empty_queue; source = None }

abbrev pub note_at : Mail → ℕ → Note
note_at m i = get_or m.notes i zero_note

-- what isn't named is unchanged
abbrev pub with_notes : Mail → List Note → Mail
with_notes m ns = record { notes = ns; queue = m.queue; source = m.source }

abbrev pub with_queue : Mail → Queue → Mail
with_queue m q = record { notes = m.notes; queue = q; source = m.source }

abbrev pub with_source : Mail → Option ℕ → Mail
with_source m s = record { notes = m.notes; queue = m.queue; source = s }

-- the note of the server that a report is about gives way to it where it is greater
unfoldable pub noted : Mail → Report → Mail
noted m r = with_notes m (set m.notes r.who (cond (gives_way (note_at m r.who) (note_of r)) (note_of r) (note_at m r.who)))

-- a report is sent to it
abbrev pub received : Mail → Report → Mail
received m r = with_queue m (queued m.queue r)

-- its oldest report is taken
abbrev pub taken : Mail → Mail
taken m = with_queue m (oldest_taken m.queue)

-- no notes and no reports; the source stays
abbrev pub emptied : Mail → Mail
emptied m = with_notes (with_queue m empty_queue) (replicate note_slots zero_note)
