-- How a saved form is written into a buffer: frames by value, and what `save` gives and leaves. Assumes nothing.
use Rattle.std.specs.Prelude.{cond, ◌&&◌, List, ℕ, ◌+◌, ◌*◌, ◌≤◌, ◌≡◌, ltb, length, Result, Ok, Err}
use Rattle.hex_text.specs.Lines.{chars}
use Rattle.server_log.specs.Logs.{log_limit}
use Rattle.mail.specs.Queues.{queue_limit}
use Rattle.mail.specs.Mails.{note_slots}
use Rattle.cluster.specs.declared.Server.{Server}
use Rattle.cluster.specs.declared.Cluster.{Cluster}
use Rattle.cluster.specs.Servers.{most_servers}
use Rattle.cluster.specs.WellFormed.{well_formed}
use Rattle.steps.specs.declared.Refusal.TheVariants.{IllFormed, OutOfRange}
use Rattle.lines.specs.Texts.{placed}
use Rattle.saved.specs.declared.Sort.{Sort}
use Rattle.saved.specs.declared.Sort.TheVariants as S
use Rattle.saved.specs.declared.NotSaved.{NotSaved}
use Rattle.saved.specs.declared.NotSaved.TheVariants.{NoRoom, Refused}
use Rattle.saved.specs.Layout.{size_of, source_number}
use Rattle.saved.specs.Editions.{editions, newest, is_known, edition_numbered, has_form}
use Rattle.saved.specs.Saved.{text_of, saved_as, save_of}

-- no frame of any edition has more bytes than a server's of the newest
abbrev pub most_bytes : ℕ
most_bytes = size_of newest.widths S.Server

-- out is out₀ with these frames written from a place on, as far as the next place, which is within it
pub record Written (out₀ : List ℕ) (at₀ : ℕ) (out : List ℕ) (at : ℕ) (fs : List (List ℕ)) : Type 0 where
  pub buffer : out ≡ placed out₀ at₀ (text_of fs)
  pub next : at ≡ at₀ + length (text_of fs)
  pub within : at ≤ length out₀

-- a server whose numbers have room in their fields, as a well-formed record's have
pub record Small (s : Server) : Type 0 where
  pub entries : s.log.len ≤ log_limit
  pub reports : s.mail.queue.len ≤ queue_limit
  pub source : source_number s.mail.source ≤ most_servers
  pub commit : s.head.commit ≤ log_limit

-- how long a frame's line is, and the longest saved forms of a server and of a record
abbrev pub line_length : Sort → ℕ
line_length s = chars * size_of newest.widths s + 1

abbrev pub longest_server : ℕ
longest_server = line_length S.Server + log_limit * line_length S.Entry + note_slots * line_length S.Note + queue_limit * line_length S.Report

abbrev pub longest : ℕ
longest = line_length S.First + most_servers * longest_server

-- in the edition of a number: one that isn't known is refused with 3, a record that it has no form for with 2; a buffer that hasn't room for the
-- longest is left as it is
unfoldable pub saved_as_of : ℕ → Cluster → ℕ → Result ℕ NotSaved
saved_as_of n c room =
    cond (is_known editions n)
    (cond (has_form (edition_numbered editions n) c) (cond (ltb room longest) (Err NoRoom) (Ok (length (saved_as (edition_numbered editions n) c)))) (Err (Refused IllFormed)))
    (Err (Refused OutOfRange))

unfoldable pub saved_as_out : ℕ → Cluster → List ℕ → List ℕ
saved_as_out n c out =
    cond (is_known editions n && has_form (edition_numbered editions n) c) (cond (ltb (length out) longest) out (placed out 0 (saved_as (edition_numbered editions n) c))) out

-- in the newest, which has a form for every well-formed record
unfoldable pub saved_of : Cluster → ℕ → Result ℕ NotSaved
saved_of c room = cond (well_formed c) (cond (ltb room longest) (Err NoRoom) (Ok (length (save_of c)))) (Err (Refused IllFormed))

unfoldable pub saved_out : Cluster → List ℕ → List ℕ
saved_out c out = cond (well_formed c) (cond (ltb (length out) longest) out (placed out 0 (save_of c))) out
