-- The frames of a record decode to that record: server by server, and in it entries, notes and reports. Assumes nothing.
use Rattle.std.proofs.Common.{Option, None, Some}
use mathlib.Core.Path.{◌≡◌, refl, sym, ap, ◌∙◌}
use mathlib.Core.Bool.{Bool, true, false, cond}
use mathlib.Core.List.{List, [], ◌∷◌, ◌++◌, map}
use Prim.Native.Nat.{ℕ, suc, ◌+◌, ◌-◌, ◌<◌, ◌≤◌}
use native.Mathlib.Nat.{add-zero}
use native.Mathlib.Numerals.{add-one}
use native.Mathlib.Omega.{arith}
use lib.ListN.{length, get_or, set, replicate, length-set, length-map}
use lib.Seq.{sets, set-set, set-get_or, get_or-set_other, take_all, ext_get_or}
use borrow.Author.Tests.{lt-ltb, le-leb}
use Rattle.base.specs.Numbers.{byte}
use Rattle.base.proofs.Each.{length_each_from, each_at, map_at, taken_map}
use Rattle.base.proofs.Joined.{refilled}
use Rattle.words.specs.Words.{byte_at}
use Rattle.server_log.specs.declared.Entry.{Entry}
use Rattle.server_log.specs.declared.Log.{Log}
use Rattle.server_log.specs.Logs.{empty_log, kept, appended}
use Rattle.server_log.specs.Rows.{zero_rows}
use Rattle.server_log.proofs.Rowed.{rows_are}
use Rattle.server_log.proofs.Tidy.{appended_all, appended_again}
use Rattle.mail.specs.declared.Report.{Report}
use Rattle.mail.specs.declared.Note.{Note}
use Rattle.mail.specs.declared.Queue.{Queue}
use Rattle.mail.specs.declared.Mail.{Mail}
use Rattle.mail.specs.Reports.{zero_note}
use Rattle.mail.specs.Mails.{note_slots, zero_mail, note_at, with_notes, with_queue, with_source, received}
use Rattle.mail.specs.Order.{is_unused}
use Rattle.mail.proofs.Good.{unused_is}
use Rattle.mail.proofs.Held.{noted_new, zero_note_at}
use Rattle.mail.proofs.Filled.{queued_all, queued_again, used_greater}
use Rattle.cluster.specs.declared.Head.{Head}
use Rattle.cluster.specs.declared.Server.{Server}
use Rattle.cluster.specs.declared.Cluster.{Cluster}
use Rattle.cluster.specs.Servers.{most_servers, zero_server, past_server, server_at, with_log, with_mail, with_rows, with_server, rowed_of, rowed_all}
use Rattle.cluster.specs.WellFormed.{well_formed}
use Rattle.cluster.specs.Ranges.{Fits}
use Rattle.cluster.proofs.Changed.{replaced_here}
use Rattle.cluster.proofs.Good.{good}
use Rattle.cluster.proofs.Sound.{ServerSound, Sound, sound_rows}
use Rattle.saved.specs.declared.Sort.TheVariants as S
use Rattle.saved.specs.Layout.{Widths, frame, numbers_in, source_number, server_numbers, first_frame, server_frame, entry_frame, note_frame, report_frame}
use Rattle.saved.specs.Editions.{Edition, allows_followers}
use Rattle.saved.specs.Saved.{note_frames, queued_reports, server_frames, all_frames, frames_of, saved_as}
use Rattle.saved.proofs.Lawful.{Lawful}
use Rattle.saved.proofs.First.{first_numbers, first_taken, first_long, first_size, first_followers}
use Rattle.saved.proofs.Frames.{saved_frames}
use Rattle.loads.specs.declared.Draft.{Draft}
use Rattle.loads.specs.Decoded.{head_said, source_said, told_by, counting, beginning, telling, with_frame, roomy, decoded_by, fresh_draft, drafted_in, decoded_in}
use Rattle.loads.proofs.Counted.{counted, AllCount, counted_long, all_count}
use Rattle.loads.proofs.Fields.{reporting, sort_read, numbers_read, head_read, told_entry, told_note, told_report}

decoded_append : (w : Widths) (d : Draft) (xs ys : List (List ℕ)) → decoded_by w d (xs ++ ys) ≡ decoded_by w (decoded_by w d xs) ys
decoded_append w d [] ys = refl
decoded_append w d (x ∷ xs) ys = decoded_append w (with_frame w d (roomy x)) xs ys

-- server i was begun last
abbrev building : Cluster → ℕ → Server → Draft
building c i s = record { cluster = with_server c i s; begun = i + 1 }

-- a source's number tells that source
source_again : (source : Option ℕ) → source_said (source_number source) ≡ source
source_again None = refl
source_again (Some n) = refl

-- what its frame alone tells of a server
abbrev bare : Server → Server
bare s = record { head = s.head; log = empty_log; mail = with_source zero_mail s.mail.source; rows = zero_rows }

-- what all its frames tell: no rows
abbrev unrowed : Server → Server
unrowed s = with_rows s zero_rows

module _ {w : Widths} (l : Lawful w) (c : Cluster) (i : ℕ) (slots : length c.servers ≡ most_servers) (room : i < most_servers) where
  tells : (s : Server) (bs : List ℕ) → telling w (building c i s) bs ≡ building c i (told_by w s bs)
  unfolding telling
  tells s bs =
      let e : i + 1 - 1 ≡ i = omega arith in
      let here : server_at (with_server c i s) i ≡ s = replaced_here c i s (omega arith) in
      rw (le-leb 1 (i + 1) (omega arith), le-leb (i + 1) most_servers (omega arith), e, here)
      (λ k. record { cluster = record { count = c.count; followers = c.followers; servers = set-set c.servers i s (told_by w s bs) k }; begun = i + 1 })

  -- ---- entries

  an_entry : (s : Server) (e : Entry) → with_frame w (building c i s) (roomy (entry_frame w e)) ≡ building c i (with_log s (appended s.log e))
  unfolding with_frame
  an_entry s e = rw (sort_read l S.Entry _ (sym l.entry_long)) (tells s (roomy (entry_frame w e)) ∙ ap (building c i) (told_entry l s e))

  entries : (s : Server) (es : List Entry) → decoded_by w (building c i s) (map (entry_frame w) es) ≡ building c i (with_log s (appended_all s.log es))
  entries s [] = refl
  entries s (e ∷ es) = ap (λ (d : Draft). decoded_by w d (map (entry_frame w) es)) (an_entry s e) ∙ entries (with_log s (appended s.log e)) es

  -- ---- notes

  a_note : (s : Server) (j : ℕ) (n : Note) → note_at s.mail j ≡ zero_note → is_unused n ≡ false
      → with_frame w (building c i s) (roomy (note_frame w j n)) ≡ building c i (with_mail s (with_notes s.mail (set s.mail.notes j n)))
  unfolding with_frame
  a_note s j n z u =
      rw (sort_read l S.Note _ (sym l.note.long))
      (tells s (roomy (note_frame w j n)) ∙ ap (building c i) (told_note l s j n)
      ∙ ap (λ (m : Mail). building c i (with_mail s m)) (noted_new s.mail (reporting j n) (rw z (used_greater n u))))

  notes : (s : Server) (j : ℕ) (ns : List Note) → ((k : ℕ) → j ≤ k → note_at s.mail k ≡ zero_note)
      → decoded_by w (building c i s) (note_frames w j ns) ≡ building c i (with_mail s (with_notes s.mail (sets s.mail.notes j ns)))
  notes s j [] z = refl
  notes s j (n ∷ ns) z = go (is_unused n) refl (notes s (suc j) ns (λ k l. z k (omega arith)))
      (λ t. notes (with_mail s (with_notes s.mail (set s.mail.notes j n))) (suc j) ns t)
    where
      row : List Note
      row = s.mail.notes

      after : List Note → Draft
      after r = building c i (with_mail s (with_notes s.mail r))

      go : (b : Bool) → is_unused n ≡ b → decoded_by w (building c i s) (note_frames w (suc j) ns) ≡ after (sets row (suc j) ns)
          → (((k : ℕ) → suc j ≤ k → get_or (set row j n) k zero_note ≡ zero_note) → decoded_by w (after (set row j n)) (note_frames w (suc j) ns) ≡ after (sets (set row j n) (suc j) ns))
          → decoded_by w (building c i s) (cond b (note_frames w (suc j) ns) (note_frame w j n ∷ note_frames w (suc j) ns)) ≡ after (sets (set row j n) (suc j) ns)
      go true u old new =
          let same : set row j n ≡ row = ap (set row j) (unused_is n u ∙ sym (z j (omega arith))) ∙ set-get_or row j zero_note in
          old ∙ ap (λ (r : List Note). after (sets r (suc j) ns)) (sym same)
      go false u old new =
          ap (λ (d : Draft). decoded_by w d (note_frames w (suc j) ns)) (a_note s j n (z j (omega arith)) u)
          ∙ new (λ k l. get_or-set_other row j k n zero_note (omega arith) ∙ z k (omega arith))

  -- ---- reports

  a_report : (s : Server) (r : Report) → with_frame w (building c i s) (roomy (report_frame w r)) ≡ building c i (with_mail s (received s.mail r))
  unfolding with_frame
  a_report s r = rw (sort_read l S.Report _ (sym l.report.long)) (tells s (roomy (report_frame w r)) ∙ ap (building c i) (told_report l s r))

  reports : (s : Server) (rs : List Report)
      → decoded_by w (building c i s) (map (report_frame w) rs) ≡ building c i (with_mail s (with_queue s.mail (queued_all s.mail.queue rs)))
  reports s [] = refl
  reports s (r ∷ rs) = ap (λ (d : Draft). decoded_by w d (map (report_frame w) rs)) (a_report s r) ∙ reports (with_mail s (received s.mail r)) rs

  -- ---- a server

  begins : (s : Server) → with_frame w (record { cluster = c; begun = i }) (roomy (server_frame w s)) ≡ building c i (bare s)
  unfolding with_frame beginning
  begins s =
      rw (sort_read l S.Server _ (sym l.server_long), lt-ltb i most_servers room)
      (ap (λ (ns : List ℕ). building c i (record { head = head_said (numbers_in w S.Server (roomy (server_frame w s))); log = empty_log; mail = with_source zero_mail (source_said (byte_at ns 3)); rows = zero_rows }))
      (numbers_read l S.Server (server_numbers s) (sym l.server_long))
      ∙ ap (λ (o : Option ℕ). building c i (record { head = head_said (numbers_in w S.Server (roomy (server_frame w s))); log = empty_log; mail = with_source zero_mail o; rows = zero_rows })) (source_again s.mail.source)
      ∙ ap (λ (h : Head). building c i (record { head = h; log = empty_log; mail = (bare s).mail; rows = zero_rows })) (head_read l s))

  server : {n j : ℕ} (s : Server) → ServerSound n j s → decoded_by w (record { cluster = c; begun = i }) (server_frames w s) ≡ building c i (unrowed s)
  server s x =
      ap (λ (d : Draft). decoded_by w d (map (entry_frame w) (kept s.log) ++ rest)) (begins s)
      ∙ decoded_append w (building c i (bare s)) (map (entry_frame w) (kept s.log)) rest
      ∙ ap (λ (d : Draft). decoded_by w d rest) (entries (bare s) (kept s.log))
      ∙ ap (λ (g : Log). decoded_by w (building c i (with_log (bare s) g)) rest) (appended_again x.good.log.tidy)
      ∙ decoded_append w (building c i logged) (note_frames w 0 s.mail.notes) (map (report_frame w) (queued_reports q))
      ∙ ap (λ (d : Draft). decoded_by w d (map (report_frame w) (queued_reports q))) (notes logged 0 s.mail.notes (λ k l. zero_note_at k))
      ∙ ap (λ (r : List Note). decoded_by w (building c i (with_mail logged (with_notes logged.mail r))) (map (report_frame w) (queued_reports q))) row
      ∙ reports noting (queued_reports q) ∙ ap (λ (p : Queue). building c i (with_mail noting (with_queue noting.mail p))) (queued_again x.mailed.queue)
    where
      q : Queue
      q = s.mail.queue

      rest : List (List ℕ)
      rest = note_frames w 0 s.mail.notes ++ map (report_frame w) (queued_reports q)

      logged : Server
      logged = with_log (bare s) s.log

      noting : Server
      noting = with_mail logged (with_notes logged.mail s.mail.notes)

      row : sets (replicate note_slots zero_note) 0 s.mail.notes ≡ s.mail.notes
      row =
          ap (sets (replicate note_slots zero_note) 0) (sym (take_all note_slots s.mail.notes (omega (arith, x.fits.mail.slots))))
          ∙ refilled zero_note zero_note note_slots note_slots s.mail.notes x.fits.mail.slots (omega arith) (λ k l m. absurd (omega arith))

-- ---- the record

servers : {w : Widths} → Lawful w → (c : Cluster) (i : ℕ) (ss : List Server) → length c.servers ≡ most_servers → i + length ss ≤ most_servers → AllCount ss
    → decoded_by w (record { cluster = c; begun = i }) (all_frames w ss) ≡ record { cluster = record { count = c.count; followers = c.followers; servers = sets c.servers i (map unrowed ss) }; begun = i + length ss }
servers l c i [] slots room x = ap (λ (k : ℕ). record { cluster = c; begun = k }) (sym (add-zero i))
servers {w} l c i (s ∷ ss) slots room x =
    decoded_append w (record { cluster = c; begun = i }) (server_frames w s) (all_frames w ss)
    ∙ ap (λ (d : Draft). decoded_by w d (all_frames w ss)) (server l c i slots (omega arith) s (x 0 (omega arith)).2)
    ∙ servers l (with_server c i (unrowed s)) (i + 1) ss (length-set c.servers i (unrowed s) ∙ slots) (omega arith) (λ k l. x (suc k) (omega arith))
    ∙ more
  where
    more : ◌≡◌ {A = Draft} (record { cluster = record { count = c.count; followers = c.followers; servers = sets (set c.servers i (unrowed s)) (i + 1) (map unrowed ss) }; begun = i + 1 + length ss })
        (record { cluster = record { count = c.count; followers = c.followers; servers = sets (set c.servers i (unrowed s)) (suc i) (map unrowed ss) }; begun = i + suc (length ss) })
    more =
        let a = add-one i in
        let e : i + 1 + length ss ≡ i + suc (length ss) = omega arith in
        λ k. record { cluster = record { count = c.count; followers = c.followers; servers = sets (set c.servers i (unrowed s)) (a k) (map unrowed ss) }; begun = e k }

-- the first frame tells the server count and the followers
first_counts : {w : Widths} → Lawful w → (edition size followers : ℕ) → allows_followers w followers ≡ true
    → with_frame w fresh_draft (roomy (first_frame w edition size followers)) ≡ counting fresh_draft size followers
unfolding with_frame
first_counts {w} l edition size followers h =
    let long = first_long w edition size followers l.first in
    let told : with_frame w fresh_draft (roomy (frame w S.First ns)) ≡ counting fresh_draft (byte_at ns 1) (byte_at ns 2) =
    rw (sort_read l S.First ns long) (ap (λ (x : List ℕ). counting fresh_draft (byte_at x 1) (byte_at x 2)) (numbers_read l S.First ns long)) in
    ap (λ (f : List ℕ). with_frame w fresh_draft (roomy f)) (first_taken w edition size followers) ∙ told
    ∙ cc (first_size w edition size followers l.first, first_followers w edition size followers l.first h)
  where
    ns : List ℕ
    ns = first_numbers w edition size followers

-- a record whose servers have no rows
abbrev unrowed_all : Cluster → Cluster
unrowed_all c = record { count = c.count; followers = c.followers; servers = map unrowed c.servers }

-- the frames of a well-formed record that fits decode to it, but for its rows, in every edition that tells its followers
frames_decoded : (e : Edition) → Lawful e.widths → (c : Cluster) → Sound c → allows_followers e.widths c.followers ≡ true → (decoded_by e.widths fresh_draft (frames_of e c)).cluster ≡ unrowed_all c
frames_decoded e l c h told =
    let whole =
    refilled past_server zero_server most_servers c.count (map unrowed c.servers) (length-map c.servers unrowed ∙ h.fits.slots) h.good.at_most_seven past in
    ap (λ (d : Draft). d.cluster)
    (ap (λ (d : Draft). decoded_by e.widths d (all_frames e.widths (counted c))) (first_counts l e.number c.count c.followers told)
    ∙ servers l (record { count = c.count; followers = c.followers; servers = replicate most_servers zero_server }) 0 (counted c) refl (omega (arith, counted_long h, h.good.at_most_seven)) (all_count h))
    ∙ (λ k. record { count = c.count; followers = c.followers; servers = sets (replicate most_servers zero_server) 0 (taken_map unrowed c.count c.servers k) })
    ∙ (λ k. record { count = c.count; followers = c.followers; servers = whole k })
  where
    past : (i : ℕ) → c.count ≤ i → i < most_servers → get_or (map unrowed c.servers) i past_server ≡ zero_server
    past i k m = map_at unrowed c.servers i past_server past_server (omega (arith, h.fits.slots)) ∙ ap unrowed (h.good.past i k m)

-- and its rows are those that are worked out afresh
rowed_again : (c : Cluster) → Sound c → rowed_all (unrowed_all c) ≡ c
unfolding rowed_of
rowed_again c h =
    let same =
    ext_get_or past_server (rowed_all (unrowed_all c)).servers c.servers (length_each_from _ 0 _ ∙ length-map c.servers unrowed)
    (λ i l. each_at (λ i. rowed_of) (map unrowed c.servers) i past_server (omega (arith, length_each_from (λ i. rowed_of) 0 (map unrowed c.servers)))
    ∙ ap rowed_of (map_at unrowed c.servers i past_server past_server (long i l)) ∙ again i (omega (arith, long i l, h.fits.slots))) in
    λ k. record { count = c.count; followers = c.followers; servers = same k }
  where
    long : (i : ℕ) → i < length (rowed_all (unrowed_all c)).servers → i < length c.servers
    long i l = omega (arith, length_each_from (λ i. rowed_of) 0 (map unrowed c.servers), length-map c.servers unrowed)

    again : (i : ℕ) → i < most_servers → rowed_of (unrowed (server_at c i)) ≡ server_at c i
    again i m = ap (with_rows (server_at c i)) (sym (rows_are (h.fits.each i m).rows (sound_rows h i m)))

-- THE LAW: the saved form of a well-formed record that fits decodes to it, where its followers are told
pub saved_decoded : (e : Edition) → Lawful e.widths → e.number < byte → (c : Cluster) → Fits c → well_formed c ≡ true → allows_followers e.widths c.followers ≡ true
    → decoded_in e.widths (saved_as e c) ≡ c
unfolding drafted_in decoded_in
saved_decoded e l b c f h told =
    let s : Sound c = record { fits = f; good = good c f h } in
    ap (λ (fs : List (List ℕ)). rowed_all (decoded_by e.widths fresh_draft fs).cluster) (saved_frames c f h e b l) ∙ ap (λ (d : Cluster). rowed_all d) (frames_decoded e l c s told) ∙ rowed_again c s
