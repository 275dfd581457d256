-- The saved form of a record: its frames in order, a line each. Assumes nothing.
use Rattle.std.specs.Prelude.{cond, List, [], ◌∷◌, ◌++◌, map, ℕ, suc, take}
use Rattle.hex_text.specs.Lines.{hex_of}
use Rattle.server_log.specs.Logs.{kept}
use Rattle.mail.specs.declared.Report.{Report}
use Rattle.mail.specs.declared.Note.{Note}
use Rattle.mail.specs.declared.Queue.{Queue}
use Rattle.mail.specs.Order.{is_unused}
use Rattle.cluster.specs.declared.Server.{Server}
use Rattle.cluster.specs.declared.Cluster.{Cluster}
use Rattle.lines.specs.Texts.{line_feed}
use Rattle.saved.specs.Layout.{Widths, first_frame, server_frame, entry_frame, note_frame, report_frame}
use Rattle.saved.specs.Editions.{Edition, newest}

-- the reports of a queue, oldest first
abbrev pub queued_reports : Queue → List Report
queued_reports q = take q.len q.reports

module _ (w : Widths) where
  -- used notes by server number, the first being that of server i
  abbrev pub note_frames : ℕ → List Note → List (List ℕ)
  note_frames i [] = []
  note_frames i (n ∷ ns) = cond (is_unused n) (note_frames (suc i) ns) (note_frame w i n ∷ note_frames (suc i) ns)

  -- a server, its entries by position, its used notes by server number, its reports oldest first
  abbrev pub server_frames : Server → List (List ℕ)
  server_frames s =
      server_frame w s
      ∷ (map (entry_frame w) (kept s.log) ++ (note_frames 0 s.mail.notes ++ map (report_frame w) (queued_reports s.mail.queue)))

  abbrev pub all_frames : List Server → List (List ℕ)
  all_frames [] = []
  all_frames (s ∷ ss) = server_frames s ++ all_frames ss

-- the first frame, and then server by server
abbrev pub frames_of : Edition → Cluster → List (List ℕ)
frames_of e c = first_frame e.widths e.number c.count c.followers ∷ all_frames e.widths (take c.count c.servers)

-- each frame is a line of lower-case hexadecimal, ended by a line feed, also the last
abbrev pub text_of : List (List ℕ) → List ℕ
text_of [] = []
text_of (f ∷ fs) = hex_of f ++ (line_feed ∷ text_of fs)

abbrev pub saved_as : Edition → Cluster → List ℕ
saved_as e c = text_of (frames_of e c)

-- the newest edition is written
unfoldable pub save_of : Cluster → List ℕ
save_of c = saved_as newest c
