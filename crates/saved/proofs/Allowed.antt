-- The newest edition has a form for every well-formed record, and no edition has one for another. Assumes nothing.
use mathlib.Core.Path.{◌≡◌, refl, ap}
use mathlib.Core.Bool.{Bool, true, false, cond, ◌&&◌}
use mathlib.Core.Logic.{⊎_elim}
use Prim.Native.Nat.{ℕ, ◌≤◌}
use native.Mathlib.Omega.{arith}
use borrow.Author.Tests.{leb-true, le-leb, eqb-true}
use lib.Dec.{eqb, ltb, leb}
use lib.ListN.{length, length-take}
use Rattle.base.proofs.Bools.{and_both, and_left, and_right}
use Rattle.base.proofs.Every.{every_at, every_all}
use Rattle.server_log.specs.Logs.{log_limit, highest_position, kept}
use Rattle.server_log.specs.Order.{is_empty_log, log_ok}
use Rattle.server_log.specs.Rows.{rows_ok}
use Rattle.mail.specs.declared.Report.{Report}
use Rattle.mail.specs.declared.Note.{Note}
use Rattle.mail.specs.declared.Mail.{Mail}
use Rattle.mail.specs.Reports.{note_of}
use Rattle.mail.specs.Queues.{queue_limit, report_at}
use Rattle.mail.specs.Mails.{note_slots}
use Rattle.mail.specs.Order.{is_unused, note_ok, notes_ok, slot_ok, queue_ok, mail_ok}
use Rattle.mail.proofs.Good.{note_good, used_good, unused_is}
use Rattle.cluster.specs.declared.Server.{Server}
use Rattle.cluster.specs.declared.Cluster.{Cluster}
use Rattle.cluster.specs.Servers.{most_servers, server_at}
use Rattle.cluster.specs.WellFormed.{counted_ok, zero_ok, role_ok, server_ok, size_ok, well_formed}
use Rattle.saved.specs.Editions.{Edition, newest, notes_within, reports_within, allows_server, allows_followers, allows, has_form}

-- ---- lengths in mail

unused_short : (n : Note) → is_unused n ≡ true → n.len ≤ highest_position
unused_short n h = omega (arith, ap (λ (x : Note). x.len) (unused_is n h))

note_short : (count i : ℕ) (n : Note) → note_ok count i n ≡ true → n.len ≤ highest_position
note_short count i n h = ⊎_elim (λ e. omega (arith, ap (λ (x : Note). x.len) e)) (λ u. u.not_past) (note_good {count = count} {i = i} h)

slot_short : (count : ℕ) (b : Bool) (r : Report) → slot_ok count b r ≡ true → r.len ≤ highest_position
unfolding slot_ok
slot_short count true r h = (used_good {count = count} {who = r.who} {n = note_of r} h).not_past
slot_short count false r h = unused_short (note_of r) (and_right (eqb r.who 0) _ h)

module _ (count i : ℕ) (m : Mail) (h : mail_ok count i m ≡ true) where
  notes_short : notes_within highest_position m ≡ true
  unfolding notes_within mail_ok notes_ok
  notes_short = every_all _ note_slots (λ j l. le-leb _ _ (note_short count j _ (every_at _ note_slots j (and_left _ _ h) l)))

  reports_short : reports_within highest_position m.queue ≡ true
  unfolding reports_within mail_ok queue_ok
  reports_short =
      let q : queue_ok count m.queue ≡ true = and_left _ _ (and_right (notes_ok count m) _ h) in
      let slots = and_right (leb m.queue.len queue_limit) _ q in
      every_all _ queue_limit
      (λ j l. le-leb _ _ (slot_short count (ltb j m.queue.len) (report_at m.queue j) (every_at (λ k. slot_ok count (ltb k m.queue.len) (report_at m.queue k)) queue_limit j slots l)))

-- ---- a server

server_allowed : (s : Server) (count i : ℕ) → s.log.len ≤ log_limit → mail_ok count i s.mail ≡ true → allows_server newest s ≡ true
unfolding allows_server
server_allowed s count i short h =
    and_both _ _ (le-leb (length (kept s.log)) log_limit (omega (arith, length-take s.log.len s.log.entries))) (and_both _ _ (notes_short count i s.mail h) (reports_short count i s.mail h))

ok_allowed : (n f i : ℕ) (s : Server) → server_ok n f i s ≡ true → allows_server newest s ≡ true
unfolding server_ok counted_ok log_ok zero_ok is_empty_log
ok_allowed n f i s h = go (ltb i n) (and_right (rows_ok s.rows s.log s.head.commit) _ h)
  where
    go : (b : Bool) → cond b (counted_ok s && (mail_ok n i s.mail && role_ok f i s)) (zero_ok s && mail_ok 0 i s.mail) ≡ true → allows_server newest s ≡ true
    go true h = server_allowed s n i (leb-true s.log.len log_limit (and_left _ _ (and_left _ _ (and_left _ _ h)))) (and_left _ _ (and_right (counted_ok s) _ h))
    go false h = server_allowed s 0 i (omega (arith, eqb-true s.log.len 0 (and_left _ _ (and_left _ _ (and_left _ _ h))))) (and_right (zero_ok s) _ h)

-- ---- the record

pub newest_allows : (c : Cluster) → well_formed c ≡ true → allows newest c ≡ true
unfolding well_formed allows
newest_allows c h =
    every_all _ most_servers
    (λ i l. ok_allowed c.count c.followers i (server_at c i)
    (every_at (λ j. server_ok c.count c.followers j (server_at c j)) most_servers i (and_right (size_ok c.count c.followers) _ h) l))

pub newest_form : (c : Cluster) → has_form newest c ≡ well_formed c
unfolding has_form
newest_form c = go (well_formed c) (newest_allows c)
  where
    go : (b : Bool) → (b ≡ true → allows newest c ≡ true) → (b && allows newest c) ≡ b
    go true h = h refl
    go false h = refl

-- a record that some edition has a form for is well formed
pub form_formed : (e : Edition) (c : Cluster) → has_form e c ≡ true → well_formed c ≡ true
unfolding has_form
form_formed e c h = and_left _ _ h

-- and its followers have a field there, or it has none
pub form_followers : (e : Edition) (c : Cluster) → has_form e c ≡ true → allows_followers e.widths c.followers ≡ true
unfolding has_form allows
form_followers e c h = and_left _ _ (and_right (well_formed c) _ h)
