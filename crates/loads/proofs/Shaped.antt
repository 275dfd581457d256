-- The saved form of a record has the shape: it names its edition, and each frame is of the sort that the frames before it announce. Assumes nothing.
use mathlib.Core.Path.{◌≡◌, refl, sym, ap, ◌∙◌}
use mathlib.Core.Bool.{Bool, true, false, cond, not, ◌&&◌}
use mathlib.Core.List.{List, [], ◌∷◌, ◌++◌, map, append_assoc}
use Prim.Native.Nat.{ℕ, suc, ◌+◌, ◌<◌}
use native.Mathlib.Omega.{arith}
use lib.Dec.{eqb}
use lib.ListN.{length, get_or, replicate, length-take}
use borrow.Author.Tests.{eq-eqb, eqb-true, eqb-false}
use Rattle.base.specs.Numbers.{byte, count}
use Rattle.base.proofs.Bools.{and_both}
use Rattle.base.proofs.Counting.{count_front}
use Rattle.hex_text.specs.Lines.{bytes_of, hex_of}
use Rattle.lines.specs.Texts.{lines}
use Rattle.hex_text.proofs.Trips.{Bytes, bytes_hex}
use Rattle.hex_text.proofs.Places.{hex_length}
use Rattle.words.specs.Words.{byte_at, framed}
use Rattle.words.proofs.Framed.{framed_hex, framed_other}
use Rattle.server_log.specs.declared.Entry.{Entry}
use Rattle.server_log.specs.Logs.{kept}
use Rattle.server_log.proofs.Tidy.{tidy_length}
use Rattle.mail.specs.declared.Report.{Report}
use Rattle.mail.specs.declared.Note.{Note}
use Rattle.mail.specs.declared.Queue.{Queue}
use Rattle.mail.specs.Reports.{zero_note, note_of}
use Rattle.mail.specs.Order.{is_unused}
use Rattle.cluster.specs.declared.Server.{Server}
use Rattle.cluster.specs.declared.Cluster.{Cluster}
use Rattle.cluster.specs.WellFormed.{well_formed}
use Rattle.cluster.specs.Ranges.{Fits}
use Rattle.cluster.proofs.Good.{good}
use Rattle.cluster.proofs.Sound.{ServerSound, Sound}
use Rattle.saved.specs.declared.Sort.{Sort}
use Rattle.saved.specs.declared.Sort.TheVariants as S
use Rattle.saved.specs.Layout.{Widths, sort_number, size_of, frame, numbers_in, used_notes, server_numbers, entry_numbers, told_numbers, first_frame, server_frame, entry_frame, report_frame, note_frame}
use Rattle.saved.specs.Editions.{Edition, is_known, edition_numbered}
use Rattle.saved.specs.Saved.{note_frames, queued_reports, server_frames, all_frames, frames_of, saved_as}
use Rattle.saved.specs.Shape.{is_frame, announced, shaped_by, named_in, named_by, shaped_first, shaped_for}
use Rattle.saved.proofs.Texts.{AllBytes, all_none, all_more, text_lines, text_ends}
use Rattle.saved.proofs.Fields.{written_size, said_written}
use Rattle.saved.proofs.Lawful.{Lawful}
use Rattle.saved.proofs.First.{first_numbers, first_taken, first_long, first_size}
use Rattle.saved.proofs.Frames.{frames_bytes}
use Rattle.loads.proofs.Counted.{counted, AllCount, counted_long, all_count}

-- ---- frames for their lines

module _ (w : Widths) where
  abbrev is_of : Sort → List ℕ → Bool
  is_of s f = eqb (length f) (size_of w s) && eqb (byte_at f 0) (sort_number s)

  -- the frames are of the sorts that are expected, each followed by those that it announces
  abbrev framed_by : List Sort → List (List ℕ) → Bool
  framed_by [] [] = true
  framed_by [] (f ∷ fs) = false
  framed_by (s ∷ ss) [] = false
  framed_by (s ∷ ss) (f ∷ fs) = is_of s f && framed_by (announced w s f ++ ss) fs

  frame_shaped : (s : Sort) (f : List ℕ) → Bytes f → is_frame w s (hex_of f) ≡ is_of s f
  unfolding is_frame
  frame_shaped s f b = go (eqb (length f) (size_of w s)) refl
    where
      rest : List ℕ → Bool
      rest bs = eqb (byte_at bs 0) (sort_number s)

      go : (t : Bool) → eqb (length f) (size_of w s) ≡ t → framed (size_of w s) rest false (hex_of f) ≡ (t && rest f)
      go true e = framed_hex (size_of w s) rest false f b (eqb-true (length f) (size_of w s) e)
      go false e = sym (framed_other (size_of w s) rest false (hex_of f) (λ l. eqb-false (length f) (size_of w s) e (omega (arith, hex_length f))))

  lines_shaped : (ss : List Sort) {fs : List (List ℕ)} → AllBytes fs → shaped_by w ss (map hex_of fs) ≡ framed_by ss fs
  lines_shaped [] all_none = refl
  lines_shaped [] (all_more b bs) = refl
  lines_shaped (s ∷ ss) all_none = refl
  lines_shaped (s ∷ ss) (all_more {f} {fs} b bs) =
      ap (λ (t : Bool). t && shaped_by w (announced w s (bytes_of (hex_of f)) ++ ss) (map hex_of fs)) (frame_shaped s f b)
      ∙ ap (λ (x : List ℕ). is_of s f && shaped_by w (announced w s x ++ ss) (map hex_of fs)) (bytes_hex f b)
      ∙ ap (λ (t : Bool). is_of s f && t) (lines_shaped (announced w s f ++ ss) bs)

-- a frame is of its sort, and says its numbers
module _ (w : Widths) (k : Sort) (ns : List ℕ) (long : length ns ≡ length (w k)) where
  frame_of_lem : is_of w k (frame w k ns) ≡ true
  frame_of_lem = and_both _ _ (eq-eqb (length (frame w k ns)) (size_of w k) (omega (arith, written_size (w k) ns long))) (eq-eqb (sort_number k) (sort_number k) refl)

  frame_says : numbers_in w k (frame w k ns) ≡ ns
  frame_says = said_written (w k) ns (sort_number k ∷ []) long

-- ---- the frames of a server

used_frames : (w : Widths) (j : ℕ) (ns : List Note) → count (length ns) (λ i. not (is_unused (get_or ns i zero_note))) ≡ length (note_frames w j ns)
unfolding count
used_frames w j [] = refl
used_frames w j (n ∷ ns) = count_front (λ i. not (is_unused (get_or (n ∷ ns) i zero_note))) (length ns) ∙ go (is_unused n) (used_frames w (suc j) ns)
  where
    go : (b : Bool) → count (length ns) (λ i. not (is_unused (get_or ns i zero_note))) ≡ length (note_frames w (suc j) ns)
        → cond (not b) 1 0 + count (length ns) (λ i. not (is_unused (get_or ns i zero_note))) ≡ length (cond b (note_frames w (suc j) ns) (note_frame w j n ∷ note_frames w (suc j) ns))
    go true h = omega arith
    go false h = omega arith

module _ {w : Widths} (l : Lawful w) where
  -- a frame that announces nothing
  entry_framed : (e : Entry) (ss : List Sort) (fs : List (List ℕ)) → framed_by w (S.Entry ∷ ss) (entry_frame w e ∷ fs) ≡ framed_by w ss fs
  entry_framed e ss fs = ap (λ (t : Bool). t && framed_by w ss fs) (frame_of_lem w S.Entry (entry_numbers e) (sym l.entry_long))

  note_framed : (j : ℕ) (n : Note) (ss : List Sort) (fs : List (List ℕ)) → framed_by w (S.Note ∷ ss) (note_frame w j n ∷ fs) ≡ framed_by w ss fs
  note_framed j n ss fs = ap (λ (t : Bool). t && framed_by w ss fs) (frame_of_lem w S.Note (told_numbers j n) (sym l.note.long))

  report_framed : (r : Report) (ss : List Sort) (fs : List (List ℕ)) → framed_by w (S.Report ∷ ss) (report_frame w r ∷ fs) ≡ framed_by w ss fs
  report_framed r ss fs = ap (λ (t : Bool). t && framed_by w ss fs) (frame_of_lem w S.Report (told_numbers r.who (note_of r)) (sym l.report.long))

  -- frames of one sort that announce nothing
  each_framed : {A : Type 0} (k : Sort) (f : A → List ℕ) → ((x : A) (ss : List Sort) (fs : List (List ℕ)) → framed_by w (k ∷ ss) (f x ∷ fs) ≡ framed_by w ss fs)
      → (ss : List Sort) (fs : List (List ℕ)) (xs : List A) → framed_by w (replicate (length xs) k ++ ss) (map f xs ++ fs) ≡ framed_by w ss fs
  each_framed k f h ss fs [] = refl
  each_framed k f h ss fs (x ∷ xs) = h x (replicate (length xs) k ++ ss) (map f xs ++ fs) ∙ each_framed k f h ss fs xs

  notes_framed : (ss : List Sort) (fs : List (List ℕ)) (j : ℕ) (ns : List Note) → framed_by w (replicate (length (note_frames w j ns)) S.Note ++ ss) (note_frames w j ns ++ fs) ≡ framed_by w ss fs
  notes_framed ss fs j [] = refl
  notes_framed ss fs j (n ∷ ns) = go (is_unused n) (notes_framed ss fs (suc j) ns)
    where
      later : List (List ℕ)
      later = note_frames w (suc j) ns

      go : (b : Bool) → framed_by w (replicate (length later) S.Note ++ ss) (later ++ fs) ≡ framed_by w ss fs
          → framed_by w (replicate (length (cond b later (note_frame w j n ∷ later))) S.Note ++ ss) (cond b later (note_frame w j n ∷ later) ++ fs) ≡ framed_by w ss fs
      go true h = h
      go false h = note_framed j n (replicate (length later) S.Note ++ ss) (later ++ fs) ∙ h

  all_framed : (ss : List Sort) (fs : List (List ℕ)) (es : List Entry) (ns : List Note) (rs : List Report)
      → framed_by w ((replicate (length es) S.Entry ++ (replicate (length (note_frames w 0 ns)) S.Note ++ replicate (length rs) S.Report)) ++ ss)
      ((map (entry_frame w) es ++ (note_frames w 0 ns ++ map (report_frame w) rs)) ++ fs)
      ≡ framed_by w ss fs
  all_framed ss fs es ns rs =
      simp append_assoc
      (each_framed S.Entry (entry_frame w) entry_framed (replicate (length (note_frames w 0 ns)) S.Note ++ (replicate (length rs) S.Report ++ ss)) (note_frames w 0 ns ++ (map (report_frame w) rs ++ fs)) es
      ∙ notes_framed (replicate (length rs) S.Report ++ ss) (map (report_frame w) rs ++ fs) 0 ns ∙ each_framed S.Report (report_frame w) report_framed ss fs rs)

  -- what a server's frame announces is what follows it
  server_framed : {n j : ℕ} {s : Server} → ServerSound n j s → (ss : List Sort) (fs : List (List ℕ)) → framed_by w (S.Server ∷ ss) (server_frames w s ++ fs) ≡ framed_by w ss fs
  server_framed {s = s} x ss fs =
      ap (λ (t : Bool). t && framed_by w (announced w S.Server (server_frame w s) ++ ss) (after ++ fs)) (frame_of_lem w S.Server (server_numbers s) (sym l.server_long))
      ∙ ap (λ (ns : List ℕ). announcing (byte_at ns 0) (byte_at ns 1) (byte_at ns 2)) (frame_says w S.Server (server_numbers s) (sym l.server_long))
      ∙ ap (λ (k : ℕ). announcing k (used_notes s.mail) q.len) entries
      ∙ ap (λ (k : ℕ). announcing (length (kept s.log)) k q.len) used
      ∙ ap (announcing (length (kept s.log)) (length (note_frames w 0 s.mail.notes))) reports
      ∙ all_framed ss fs (kept s.log) s.mail.notes (queued_reports q)
    where
      q : Queue
      q = s.mail.queue

      after : List (List ℕ)
      after = map (entry_frame w) (kept s.log) ++ (note_frames w 0 s.mail.notes ++ map (report_frame w) (queued_reports q))

      announcing : ℕ → ℕ → ℕ → Bool
      announcing k m l = framed_by w ((replicate k S.Entry ++ (replicate m S.Note ++ replicate l S.Report)) ++ ss) (after ++ fs)

      entries : byte_at (server_numbers s) 0 ≡ length (kept s.log)
      entries = sym (tidy_length x.good.log.tidy)

      used : used_notes s.mail ≡ length (note_frames w 0 s.mail.notes)
      used = ap (λ (k : ℕ). count k (λ i. not (is_unused (get_or s.mail.notes i zero_note)))) (sym x.fits.mail.slots) ∙ used_frames w 0 s.mail.notes

      reports : q.len ≡ length (queued_reports q)
      reports = omega (arith, length-take q.len q.reports, x.mailed.queue.slots, x.mailed.queue.short)

  servers_framed : (ss : List Server) → AllCount ss → framed_by w (replicate (length ss) S.Server ++ []) (all_frames w ss) ≡ true
  servers_framed [] x = refl
  servers_framed (s ∷ ss) x =
      server_framed (x 0 (omega arith)).2 (replicate (length ss) S.Server ++ []) (all_frames w ss) ∙ servers_framed ss (λ k l. x (suc k) (omega arith))

-- ---- the record

module _ (e : Edition) (l : Lawful e.widths) (b : e.number < byte) (c : Cluster) (f : Fits c) (h : well_formed c ≡ true) where
  abbrev the_first_frame : List ℕ
  the_first_frame = first_frame e.widths e.number c.count c.followers

  abbrev all : List (List ℕ)
  all = all_frames e.widths (counted c)

  saved_lines : lines (saved_as e c) ≡ hex_of the_first_frame ∷ map hex_of all
  saved_lines = text_lines (frames_of e c)

  first_bytes : bytes_of (hex_of the_first_frame) ≡ the_first_frame
  first_bytes = first_of (frames_bytes c f h e b l)
    where
      first_of : {x : List ℕ} {xs : List (List ℕ)} → AllBytes (x ∷ xs) → bytes_of (hex_of x) ≡ x
      first_of {x} (all_more p ps) = bytes_hex x p

  first_named : named_in (hex_of the_first_frame) ≡ e.number
  first_named = ap (λ (x : List ℕ). byte_at x 1) first_bytes ∙ l.first.named e.number c.count c.followers

  -- it names its edition
  pub saved_named : named_by (saved_as e c) ≡ e.number
  saved_named = ap (λ (ls : List (List ℕ)). named_in (get_or ls 0 [])) saved_lines ∙ first_named

  frames_shaped : shaped_by e.widths (S.First ∷ []) (hex_of the_first_frame ∷ map hex_of all) ≡ true
  frames_shaped =
      let w = e.widths in
      let g : Sound c = record { fits = f; good = good c f h } in
      let ns = first_numbers w e.number c.count c.followers in
      let long = first_long w e.number c.count c.followers l.first in
      lines_shaped w (S.First ∷ []) (frames_bytes c f h e b l) ∙ ap (λ (x : List ℕ). framed_by w (S.First ∷ []) (x ∷ all)) (first_taken w e.number c.count c.followers)
      ∙ ap (λ (t : Bool). t && framed_by w (announced w S.First (frame w S.First ns) ++ []) all) (frame_of_lem w S.First ns long)
      ∙ ap (λ (ns : List ℕ). framed_by w (replicate (byte_at ns 1) S.Server ++ []) all) (frame_says w S.First ns long)
      ∙ ap (λ (k : ℕ). framed_by w (replicate k S.Server ++ []) all) (first_size w e.number c.count c.followers l.first ∙ sym (counted_long g)) ∙ servers_framed l (counted c) (all_count g)

  -- THE LAW: for a reader that knows its edition, it has the shape
  pub saved_shaped : (knows : List Edition) → is_known knows e.number ≡ true → edition_numbered knows e.number ≡ e → shaped_for knows (saved_as e c) ≡ true
  unfolding shaped_for
  saved_shaped knows k is =
      and_both _ _ (eq-eqb _ _ (text_ends the_first_frame all))
      (ap (shaped_first knows) saved_lines
      ∙ ap (λ (n : ℕ). is_known knows n && shaped_by (edition_numbered knows n).widths (S.First ∷ []) (hex_of the_first_frame ∷ map hex_of all)) first_named
      ∙ and_both _ _ k (ap (λ (x : Edition). shaped_by x.widths (S.First ∷ []) (hex_of the_first_frame ∷ map hex_of all)) is ∙ frames_shaped))
