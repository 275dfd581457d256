-- The frames of a record that fits and is well formed: each is of bytes, and their text is no longer than the longest. Assumes nothing.
use Rattle.std.proofs.Common.{Option, None, Some}
use mathlib.Core.Path.{◌≡◌, refl, ap}
use mathlib.Core.Bool.{Bool, true, false, cond, not}
use mathlib.Core.List.{List, [], ◌∷◌, ◌++◌, map}
use Prim.Native.Nat.{ℕ, suc, ◌+◌, ◌*◌, ◌<◌, ◌≤◌}
use native.Mathlib.Nat.{zero-mul, suc-mul}
use native.Mathlib.Omega.{arith}
use borrow.Author.Tests.{leb-true, lt-ltb}
use lib.ListN.{length, get_or, take, length-take, length-append}
use lib.Seq.{get_or-take}
use Rattle.base.specs.Numbers.{byte}
use Rattle.base.proofs.Bools.{and_left, and_right}
use Rattle.base.proofs.Every.{every_at}
use Rattle.clock.specs.Times.{is_before}
use Rattle.hex_text.specs.Lines.{chars, bytes_of}
use Rattle.hex_text.proofs.Trips.{Bytes}
use Rattle.server_log.specs.Entries.{zero_entry, applied_time}
use Rattle.server_log.specs.Logs.{log_limit, kept, live, length_of}
use Rattle.server_log.specs.Rows.{rows_ok}
use Rattle.server_log.specs.Order.{log_ok}
use Rattle.mail.specs.declared.Note.{Note}
use Rattle.mail.specs.Reports.{zero_report, zero_note}
use Rattle.mail.specs.Queues.{queue_limit}
use Rattle.mail.specs.Mails.{note_slots}
use Rattle.mail.specs.Order.{is_unused, notes_ok, queue_ok, mail_ok}
use Rattle.mail.specs.Ranges.{FitsNote}
use Rattle.mail.proofs.Good.{SourceGood, source_good}
use Rattle.cluster.specs.declared.Server.{Server}
use Rattle.cluster.specs.declared.Cluster.{Cluster}
use Rattle.cluster.specs.Servers.{most_servers, past_server, server_at}
use Rattle.cluster.specs.WellFormed.{numbers_ok, counted_ok, server_ok, size_ok, well_formed}
use Rattle.cluster.specs.Ranges.{FitsServer, Fits}
use Rattle.cluster.proofs.Good.{size_good}
use Rattle.lines.specs.Texts.{lines}
use Rattle.saved.specs.declared.Sort.{Sort}
use Rattle.saved.specs.declared.Sort.TheVariants as S
use Rattle.saved.specs.Layout.{Widths, frame, size_of, sort_number, source_number, first_frame, server_frame, entry_frame, note_frame, report_frame}
use Rattle.saved.specs.Editions.{Edition, widths1, widths3, editions, edition_numbered}
use Rattle.saved.specs.Saved.{note_frames, queued_reports, server_frames, all_frames, frames_of, text_of, saved_as}
use Rattle.saved.specs.Written.{Small, line_length, longest_server, longest}
use Rattle.saved.proofs.Fields.{Room, room_bytes}
use Rattle.saved.proofs.Lawful.{Lawful}
use Rattle.saved.proofs.First.{like}
use Rattle.saved.proofs.Texts.{AllBytes, all_none, all_more, text_append, text_length, text_frames}

-- ---- one frame

-- a frame whose numbers have room is of bytes
frame_bytes : (w : Widths) (k : Sort) (ns : List ℕ) → Room (w k) ns → Bytes (frame w k ns)
frame_bytes w k ns r = (sort_byte k, room_bytes (w k) ns r)
  where
    sort_byte : (k : Sort) → sort_number k < byte
    sort_byte S.First = omega arith
    sort_byte S.Server = omega arith
    sort_byte S.Entry = omega arith
    sort_byte S.Note = omega arith
    sort_byte S.Report = omega arith

-- ---- the frames of a record

module _ {A : Type 0} (f : A → List ℕ) where
  pub all_map : (d : A) (xs : List A) → ((i : ℕ) → i < length xs → Bytes (f (get_or xs i d))) → AllBytes (map f xs)
  all_map d [] h = all_none
  all_map d (x ∷ xs) h = all_more (h 0 (omega arith)) (all_map d xs (λ i l. h (suc i) (omega arith)))

  -- so many lines of one length
  map_length : (n : ℕ) → ((x : A) → length (f x) ≡ n) → (xs : List A) → length (text_of (map f xs)) ≡ length xs * (chars * n + 1)
  map_length n h [] = omega (arith, zero-mul (chars * n + 1))
  map_length n h (x ∷ xs) = omega (arith, suc-mul (length xs) (chars * n + 1), text_length (f x) (map f xs), map_length n h xs, h x)

pub all_append : {xs ys : List (List ℕ)} → AllBytes xs → AllBytes ys → AllBytes (xs ++ ys)
all_append all_none q = q
all_append (all_more p ps) q = all_more p (all_append ps q)

notes_bytes : {w : Widths} → Lawful w → (i : ℕ) (ns : List Note) → i + length ns ≤ byte → ((j : ℕ) → j < length ns → FitsNote (get_or ns j zero_note))
    → AllBytes (note_frames w i ns)
notes_bytes l i [] h f = all_none
notes_bytes {w} l i (n ∷ ns) h f = go (is_unused n) (notes_bytes l (suc i) ns (omega arith) (λ j k. f (suc j) (omega arith)))
  where
    go : (b : Bool) → AllBytes (note_frames w (suc i) ns) → AllBytes (cond b (note_frames w (suc i) ns) (note_frame w i n ∷ note_frames w (suc i) ns))
    go true rest = rest
    go false rest = all_more (frame_bytes w S.Note _ (l.note.room i n (omega arith) (f 0 (omega arith)))) rest

notes_length : (i : ℕ) (ns : List Note) → length (text_of (note_frames widths1 i ns)) ≤ length ns * line_length S.Note
notes_length i [] = omega arith
notes_length i (n ∷ ns) = go (is_unused n) (notes_length (suc i) ns)
  where
    go : (b : Bool) → length (text_of (note_frames widths1 (suc i) ns)) ≤ length ns * line_length S.Note
        → length (text_of (cond b (note_frames widths1 (suc i) ns) (note_frame widths1 i n ∷ note_frames widths1 (suc i) ns))) ≤ suc (length ns) * line_length S.Note
    go true h = omega arith
    go false h = omega (arith, text_length (note_frame widths1 i n) (note_frames widths1 (suc i) ns))

module _ {w : Widths} (l : Lawful w) {s : Server} (f : FitsServer s) (k : Small s) where
  entries_bytes : AllBytes (map (entry_frame w) (kept s.log))
  entries_bytes =
      all_map (entry_frame w) zero_entry (kept s.log)
      (λ i h. let m : i < s.log.len = omega (arith, length-take s.log.len s.log.entries) in
      rw (get_or-take s.log.len s.log.entries i zero_entry m) (frame_bytes w S.Entry _ (l.entry _ (f.log.each i (omega (arith, k.entries))))))

  reports_bytes : AllBytes (map (report_frame w) (queued_reports s.mail.queue))
  reports_bytes =
      let q = s.mail.queue in
      all_map (report_frame w) zero_report (queued_reports q)
      (λ i h. let m : i < q.len = omega (arith, length-take q.len q.reports) in
      let r = f.mail.queue.each i (omega (arith, k.reports)) in
      rw (get_or-take q.len q.reports i zero_report m) (frame_bytes w S.Report _ (l.report.room _ _ r.who r.note)))

  pub server_frames_bytes : AllBytes (server_frames w s)
  server_frames_bytes =
      all_more (frame_bytes w S.Server _ (l.server s f k))
      (all_append entries_bytes
      (all_append (notes_bytes l 0 s.mail.notes (omega (arith, f.mail.slots)) (λ j m. f.mail.each j (omega (arith, f.mail.slots)))) reports_bytes))

pub server_length : {s : Server} → Small s → length s.mail.notes ≡ note_slots → length (text_of (server_frames widths1 s)) ≤ longest_server
server_length {s} k slots =
    let es = map (entry_frame widths1) (kept s.log) in
    let ns = note_frames widths1 0 s.mail.notes in
    let rs = map (report_frame widths1) (queued_reports s.mail.queue) in
    omega (
      arith,
      text_length (server_frame widths1 s) (es ++ (ns ++ rs)),
      ap length (text_append es (ns ++ rs)),
      length-append (text_of es) (text_of (ns ++ rs)),
      ap length (text_append ns rs),
      length-append (text_of ns) (text_of rs),
      map_length (entry_frame widths1) (size_of widths1 S.Entry) (λ e. refl) (kept s.log),
      length-take s.log.len s.log.entries,
      k.entries,
      notes_length 0 s.mail.notes,
      slots,
      map_length (report_frame widths1) (size_of widths1 S.Report) (λ e. refl) (queued_reports s.mail.queue),
      length-take s.mail.queue.len s.mail.queue.reports,
      k.reports,
    )

-- ---- a well-formed record

source_small : {n i : ℕ} (source : Option ℕ) → n ≤ most_servers → SourceGood n i source → source_number source ≤ most_servers
source_small None seven g = omega arith
source_small (Some b) seven g = omega (arith, g.within)

counted_small : (n i : ℕ) {s : Server} → n ≤ most_servers → counted_ok s ≡ true → mail_ok n i s.mail ≡ true → Small s
unfolding counted_ok log_ok numbers_ok mail_ok queue_ok
counted_small n i {s} seven h m =
    let short = leb-true s.log.len log_limit (and_left _ _ (and_left _ _ h)) in
    let timed = and_right (log_ok s.head.term s.log) _ h in
    let numbers = and_right (not (is_before s.head.time (applied_time (live s.log)))) _ timed in
    let told = and_right (notes_ok n s.mail) _ m in
    record {
      entries = short;
      reports = leb-true s.mail.queue.len queue_limit (and_left _ _ (and_left _ _ told));
      source = source_small s.mail.source seven (source_good {i = i} s.mail.source (and_right (queue_ok n s.mail.queue) _ told));
      commit = omega (arith, leb-true s.head.commit (length_of s.log) (and_left _ _ numbers), length-take s.log.len s.log.entries);
    }

module _ (c : Cluster) (h : well_formed c ≡ true) where
  pub at_most_seven : c.count ≤ most_servers
  unfolding well_formed
  at_most_seven = (size_good (and_left _ _ h)).at_most_seven

  -- its counted servers are small
  pub small : (i : ℕ) → i < c.count → Small (server_at c i)
  unfolding well_formed server_ok
  small i l =
      let m : i < most_servers = omega (arith, at_most_seven) in
      let s = server_at c i in
      let ok =
      rw (lt-ltb i c.count l) at
      (and_right (rows_ok s.rows s.log s.head.commit) _ (every_at _ most_servers i (and_right (size_ok c.count c.followers) _ h) m)) in
      counted_small c.count i at_most_seven (and_left _ _ ok) (and_left _ _ (and_right (counted_ok (server_at c i)) _ ok))

-- servers that fit and are small
abbrev AllSmall : List Server → Type 0
AllSmall ss = (i : ℕ) → i < length ss → FitsServer (get_or ss i past_server) × Small (get_or ss i past_server)

all_bytes : {w : Widths} → Lawful w → (ss : List Server) → AllSmall ss → AllBytes (all_frames w ss)
all_bytes l [] h = all_none
all_bytes l (s ∷ ss) h = let k = h 0 (omega arith) in all_append (server_frames_bytes l k.0 k.1) (all_bytes l ss (λ i m. h (suc i) (omega arith)))

all_length : (ss : List Server) → AllSmall ss → length (text_of (all_frames widths1 ss)) ≤ length ss * longest_server
all_length [] h = omega arith
all_length (s ∷ ss) h =
    let k = h 0 (omega arith) in
    omega (
      arith,
      ap length (text_append (server_frames widths1 s) (all_frames widths1 ss)),
      length-append (text_of (server_frames widths1 s)) (text_of (all_frames widths1 ss)),
      server_length k.1 k.0.mail.slots,
      all_length ss (λ i l. h (suc i) (omega arith)),
    )

module _ (c : Cluster) (f : Fits c) (h : well_formed c ≡ true) where
  counted : AllSmall (take c.count c.servers)
  counted i l =
      let m : i < c.count = omega (arith, length-take c.count c.servers) in
      rw (get_or-take c.count c.servers i past_server m) (f.each i (omega (arith, at_most_seven c h)), small c h i m)

  module _ (e : Edition) (byte-number : e.number < byte) where
    -- each of its frames is of bytes
    pub frames_bytes : Lawful e.widths → AllBytes (frames_of e c)
    frames_bytes l =
        all_more (frame_bytes e.widths S.First _ (l.first.room e.number c.count c.followers byte-number (omega (arith, at_most_seven c h)) f.followers))
        (all_bytes l (take c.count c.servers) counted)

    -- the bytes of the lines of its saved form are its frames
    pub saved_frames : Lawful e.widths → map bytes_of (lines (saved_as e c)) ≡ frames_of e c
    saved_frames l = text_frames (frames_of e c) (frames_bytes l)

  -- no saved form is longer than the longest
  pub saved_length : (n : ℕ) → length (saved_as (edition_numbered editions n) c) ≤ longest
  saved_length n =
      let e = edition_numbered editions n in
      let ss = take c.count c.servers in
      omega (
        arith,
        text_length (first_frame e.widths e.number c.count c.followers) (all_frames e.widths ss),
        ap length ((like n).front e.number c.count c.followers),
        length-take (size_of e.widths S.First) (first_frame widths3 e.number c.count c.followers),
        ap (λ (fs : List (List ℕ)). length (text_of fs)) ((like n).servers ss),
        all_length ss counted,
        length-take c.count c.servers,
        at_most_seven c h,
      )
