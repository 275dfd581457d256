-- The numbers of a frame that is written are read back, and so is what it tells. Assumes nothing.
use mathlib.Core.Path.{◌≡◌, refl, sym, ap, ◌∙◌}
use mathlib.Core.Bool.{Bool, true, false, cond}
use mathlib.Core.List.{List, [], ◌∷◌}
use Prim.Native.Nat.{ℕ}
use native.Mathlib.Omega.{arith}
use lib.Dec.{eqb}
use lib.ListN.{length}
use Rattle.words.specs.Words.{byte_at}
use Rattle.server_log.specs.declared.Entry.{Entry}
use Rattle.server_log.specs.Logs.{appended}
use Rattle.mail.specs.declared.Report.{Report}
use Rattle.mail.specs.declared.Note.{Note}
use Rattle.mail.specs.Mails.{noted, received}
use Rattle.cluster.specs.declared.Head.{Head}
use Rattle.cluster.specs.declared.Server.{Server}
use Rattle.cluster.specs.Servers.{with_log, with_mail}
use Rattle.saved.specs.declared.Sort.{Sort}
use Rattle.saved.specs.declared.Sort.TheVariants as S
use Rattle.saved.specs.Layout.{Widths, sort_number, frame, numbers_in, server_numbers, server_frame, entry_frame, note_frame, report_frame}
use Rattle.saved.specs.Written.{most_bytes}
use Rattle.saved.proofs.Fields.{written_size, said_written, said_same}
use Rattle.saved.proofs.Lawful.{Lawful}
use Rattle.shapes.proofs.Frames.{over_zeros}
use Rattle.loads.specs.Decoded.{head_said, entry_said, report_said, told_by, roomy}

-- what a note's frame says, as a report
abbrev pub reporting : ℕ → Note → Report
reporting who n = record { who = who; term = n.term; last = n.last; len = n.len }

-- ---- the bytes

module _ {w : Widths} (l : Lawful w) (k : Sort) (ns : List ℕ) (long : length ns ≡ length (w k)) where
  frame_at : (i : ℕ) → byte_at (roomy (frame w k ns)) i ≡ byte_at (frame w k ns) i
  frame_at i = over_zeros most_bytes (frame w k ns) i (λ _. omega (arith, written_size (w k) ns long, l.small k))

  pub sort_read : byte_at (roomy (frame w k ns)) 0 ≡ sort_number k
  sort_read = frame_at 0

  pub numbers_read : numbers_in w k (roomy (frame w k ns)) ≡ ns
  numbers_read = said_same (roomy (frame w k ns)) (frame w k ns) frame_at (w k) 1 ∙ said_written (w k) ns (sort_number k ∷ []) long

-- ---- what they tell

module _ {w : Widths} (l : Lawful w) (s : Server) where
  pub head_read : head_said (numbers_in w S.Server (roomy (server_frame w s))) ≡ s.head
  head_read = ap head_said (numbers_read l S.Server (server_numbers s) (sym l.server_long)) ∙ role s.head.primary
    where
      role : (b : Bool)
          → ◌≡◌ {A = Head} (record { term = s.head.term; primary = eqb (cond b 1 0) 1; commit = s.head.commit; wall = s.head.wall; time = s.head.time })
          (record { term = s.head.term; primary = b; commit = s.head.commit; wall = s.head.wall; time = s.head.time })
      role true = refl
      role false = refl

  pub told_entry : (e : Entry) → told_by w s (roomy (entry_frame w e)) ≡ with_log s (appended s.log e)
  unfolding told_by
  told_entry e =
      rw (sort_read l S.Entry _ (sym l.entry_long))
      (ap (λ (ns : List ℕ). with_log s (appended s.log (entry_said ns))) (numbers_read l S.Entry _ (sym l.entry_long)))

  pub told_note : (who : ℕ) (n : Note) → told_by w s (roomy (note_frame w who n)) ≡ with_mail s (noted s.mail (reporting who n))
  unfolding told_by
  told_note who n =
      rw (sort_read l S.Note _ (sym l.note.long))
      (ap (λ (ns : List ℕ). with_mail s (noted s.mail (report_said ns))) (numbers_read l S.Note _ (sym l.note.long)))

  pub told_report : (r : Report) → told_by w s (roomy (report_frame w r)) ≡ with_mail s (received s.mail r)
  unfolding told_by
  told_report r =
      rw (sort_read l S.Report _ (sym l.report.long))
      (ap (λ (ns : List ℕ). with_mail s (received s.mail (report_said ns))) (numbers_read l S.Report _ (sym l.report.long)))
