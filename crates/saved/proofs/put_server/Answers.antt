-- `saved::put_server` meets its contract. Assumes nothing.
use mathlib.Core.Path.{◌≡◌, refl, sym, ap}
use mathlib.Core.List.{List, [], ◌∷◌, ◌++◌, map}
use Prim.Native.Nat.{ℕ, ◌≤◌}
use native.Mathlib.Omega.{arith}
use lib.ListN.{length}
use borrow.Author.Rules.{rules}
use Rattle.base.proofs.Facts.{mapped_long}
use Rattle.server_log.specs.Logs.{kept}
use Rattle.mail.specs.Mails.{note_slots}
use Rattle.cluster.specs.declared.Server.{Server}
use Rattle.saved.specs.Editions.{widths1}
use Rattle.saved.specs.Layout.{entry_frame, report_frame}
use Rattle.saved.specs.Saved.{note_frames, queued_reports, server_frames, text_of}
use Rattle.saved.specs.Written.{longest_server}
use Rattle.saved.proofs.Frames.{server_length}
use Rattle.saved.proofs.Going.{Next, next_first, next_all, Going, going_start, going_room, going_more, going_end}
use Rattle.saved.specs.Layout.{server_frame}
use Rattle.saved.specs.Written.{Written, Small}
use Rattle.saved.proofs.put_server.Goals as goal

-- what follows the server's frame, its entries, its notes
abbrev Reports : Server → List (List ℕ)
Reports s = map (report_frame widths1) (queued_reports s.mail.queue)

abbrev Notes : Server → List (List ℕ)
Notes s = note_frames widths1 0 s.mail.notes ++ Reports s

abbrev Entries : Server → List (List ℕ)
Entries s = map (entry_frame widths1) (kept s.log) ++ Notes s

short : (s : Server) → Small s → length s.mail.notes ≡ note_slots → length (text_of (server_frames widths1 s)) ≤ longest_server
short s small slots = server_length small slots

first : (s : Server) {f : List ℕ} → f ≡ server_frame widths1 s → Next (server_frames widths1 s) (f ∷ []) (Entries s)
first s e = record { parts = ap (λ (f : List ℕ). f ∷ Entries s) (sym e) }

entries_next : (s : Server) → Next (Entries s) (map (entry_frame widths1) (kept s.log)) (Notes s)
entries_next s = next_first (map (entry_frame widths1) (kept s.log)) (Notes s)

notes-next : (s : Server) → Next (Notes s) (note_frames widths1 0 s.mail.notes) (Reports s)
notes-next s = next_first (note_frames widths1 0 s.mail.notes) (Reports s)

-- what is left of the server's frames after each part
module _ (s : Server) {f out₀ out₁ : List ℕ} {at₀ at₁ : ℕ} (h : at₀ ≤ length out₀) (e : f ≡ server_frame widths1 s) (line : Written out₀ at₀ out₁ at₁ (f ∷ [])) where
  after_line : Going out₀ at₀ out₁ at₁ (server_frames widths1 s) (Entries s)
  after_line = going_more (going_start h) (first s e) line

  module _ {out₂ : List ℕ} {at₂ : ℕ} (entries : Written out₁ at₁ out₂ at₂ (map (entry_frame widths1) (kept s.log))) where
    after-entries : Going out₀ at₀ out₂ at₂ (server_frames widths1 s) (Notes s)
    after-entries = going_more after_line (entries_next s) entries

    module _ {out₃ : List ℕ} {at₃ : ℕ} (notes : Written out₂ at₂ out₃ at₃ (note_frames widths1 0 s.mail.notes)) where
      after-notes : Going out₀ at₀ out₃ at₃ (server_frames widths1 s) (Reports s)
      after-notes = going_more after-entries (notes-next s) notes

      after-reports : {out₄ : List ℕ} {at₄ : ℕ} → Written out₃ at₃ out₄ at₄ (Reports s) → Written out₀ at₀ out₄ at₄ (server_frames widths1 s)
      after-reports reports = going_end (going_more after-notes (next_all (Reports s)) reports) refl

pub put_line-past-requires : goal.put_line-past-requires
put_line-past-requires c =
    let slots : length c.args.s.mail.notes ≡ note_slots = search (rules, mapped_long) in
    let long : length (text_of (server_frames widths1 c.args.s)) ≤ longest_server = short c.args.s c.requires.small slots in
    going_room (going_start (omega arith)) (first c.args.s c.server_frame-f.ensures) (omega (arith, long))

pub put_entries-past-requires : goal.put_entries-past-requires
put_entries-past-requires c =
    let slots : length c.args.s.mail.notes ≡ note_slots = search (rules, mapped_long) in
    let long : length (text_of (server_frames widths1 c.args.s)) ≤ longest_server = short c.args.s c.requires.small slots in
    record {
      len_le_log_limit = c.requires.small.entries;
      g_in_bounds = going_room (after_line c.args.s (omega arith) c.server_frame-f.ensures c.put_line-past.ensures) (entries_next c.args.s) (omega (arith, long));
    }

pub put_notes-past-requires : goal.put_notes-past-requires
put_notes-past-requires c =
    let slots : length c.args.s.mail.notes ≡ note_slots = search (rules, mapped_long) in
    let long : length (text_of (server_frames widths1 c.args.s)) ≤ longest_server = short c.args.s c.requires.small slots in
    going_room (after-entries c.args.s (omega arith) c.server_frame-f.ensures c.put_line-past.ensures c.put_entries-past.ensures) (notes-next c.args.s) (omega (arith, long))

pub put_reports-requires : goal.put_reports-requires
put_reports-requires c =
    let slots : length c.args.s.mail.notes ≡ note_slots = search (rules, mapped_long) in
    let long : length (text_of (server_frames widths1 c.args.s)) ≤ longest_server = short c.args.s c.requires.small slots in
    record {
      len_le_queue_limit = c.requires.small.reports;
      q_in_bounds = going_room (after-notes c.args.s (omega arith) c.server_frame-f.ensures c.put_line-past.ensures c.put_entries-past.ensures c.put_notes-past.ensures) (next_all (Reports c.args.s)) (omega (arith, long));
    }

pub returns : goal.returns
returns c =
    let slots : length c.args.s.mail.notes ≡ note_slots = search (rules, mapped_long) in
    let long : length (text_of (server_frames widths1 c.args.s)) ≤ longest_server = short c.args.s c.requires.small slots in
    let w : Written c.args.out.now c.args.at c.put_reports.new.out c.put_reports.result (server_frames widths1 c.args.s) =
    after-reports c.args.s (omega arith) c.server_frame-f.ensures c.put_line-past.ensures c.put_entries-past.ensures c.put_notes-past.ensures c.put_reports.ensures in
    record { frames = w; short = omega (arith, w.next, long) }
