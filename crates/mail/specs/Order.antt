-- Which mail a well-formed record may hold, as 02 words it. Assumes nothing.
use Rattle.std.specs.Prelude.{Bool, true, cond, not, ◌&&◌, ◌||◌, ℕ, eqb, ltb, leb, Option, Some, None}
use Rattle.base.specs.Numbers.{every}
use Rattle.server_log.specs.Logs.{highest_position}
use Rattle.mail.specs.declared.Report.{Report}
use Rattle.mail.specs.declared.Note.{Note}
use Rattle.mail.specs.declared.Queue.{Queue}
use Rattle.mail.specs.declared.Mail.{Mail}
use Rattle.mail.specs.Reports.{note_of}
use Rattle.mail.specs.Queues.{queue_limit, report_at}
use Rattle.mail.specs.Mails.{note_slots, note_at}

-- an unused note is zero
unfoldable pub is_unused : Note → Bool
is_unused n = eqb n.term 0 && (eqb n.last 0 && eqb n.len 0)

-- a used note of a server below the count: a length from 1 to the highest position, a last term from 1 to its term
unfoldable pub is_used : ℕ → ℕ → Note → Bool
is_used count who n =
    ltb who count && (leb 1 n.len && (leb n.len highest_position && (leb 1 n.last && leb n.last n.term)))

unfoldable pub note_ok : ℕ → ℕ → Note → Bool
note_ok count i n = is_unused n || is_used count i n

unfoldable pub notes_ok : ℕ → Mail → Bool
notes_ok count m = every note_slots (λ i. note_ok count i (note_at m i))

-- a report is as a used note is; a slot past the length is zero
unfoldable pub slot_ok : ℕ → Bool → Report → Bool
slot_ok count live r = cond live (is_used count r.who (note_of r)) (eqb r.who 0 && is_unused (note_of r))

unfoldable pub queue_ok : ℕ → Queue → Bool
queue_ok count q = leb q.len queue_limit && every queue_limit (λ i. slot_ok count (ltb i q.len) (report_at q i))

-- the source of server i is none, or another counted server
unfoldable pub source_ok : ℕ → ℕ → Option ℕ → Bool
source_ok count i None = true
source_ok count i (Some s) = ltb s count && not (eqb s i)

-- the mail of server i, where so many servers are counted; of none, where i is past the count: then it is all zero
unfoldable pub mail_ok : ℕ → ℕ → Mail → Bool
mail_ok count i m = notes_ok count m && (queue_ok count m.queue && source_ok count i m.source)
