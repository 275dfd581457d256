-- The logs that refusal 2 lets through are just those that some well-formed record could hold. Assumes nothing.
use mathlib.Core.Path.{◌≡◌, refl, ap, sym, subst, ◌∙◌}
use mathlib.Core.List.{List}
use mathlib.Core.Bool.{false}
use mathlib.Core.Logic.{⊎_elim}
use Prim.Native.Nat.{ℕ, suc, ◌<◌, ◌≤◌}
use native.Mathlib.Omega.{arith}
use lib.ListN.{length, get_or, length-set}
use lib.Seq.{take-append_seam}
use Rattle.base.proofs.Bools.{not_both}
use Rattle.base.proofs.Facts.{lt_or_le}
use Rattle.clock.specs.Times.{limit}
use Rattle.clock.proofs.Order.{before_itself}
use Rattle.server_log.specs.declared.Entry.{Entry}
use Rattle.server_log.specs.Entries.{zero_entry, entry_at, applied_time}
use Rattle.server_log.specs.Logs.{log_limit, live}
use Rattle.server_log.specs.Rows.{rows_of}
use Rattle.server_log.specs.Ranges.{FitsEntry, FitsLog}
use Rattle.server_log.proofs.Live.{entry_at_slot}
use Rattle.server_log.proofs.Orderly.{Orderly, orderly, in_order_lem}
use Rattle.server_log.proofs.Ranges.{fits_rows_of}
use Rattle.server_log.proofs.Rowed.{rows_of_good}
use Rattle.server_log.proofs.Tidy.{log_of, tidy_log_of, tidy_highest}
use Rattle.mail.specs.Mails.{zero_mail}
use Rattle.mail.proofs.Kept.{zero_good}
use Rattle.mail.proofs.Ranges.{fits_zero_mail}
use Rattle.cluster.specs.declared.Server.{Server}
use Rattle.cluster.specs.declared.Cluster.{Cluster}
use Rattle.cluster.specs.Servers.{fewest_servers, most_servers, server_at, fresh_cluster, with_server}
use Rattle.cluster.specs.Ranges.{FitsServer, Fits}
use Rattle.cluster.proofs.Changed.{replaced_here, replaced_others}
use Rattle.cluster.proofs.Fresh.{good_fresh, fits_fresh, two_vote}
use Rattle.cluster.proofs.Good.{ServerGood, Good, good, well_formed_lem}
use Rattle.histories.specs.Committed.{Committed, committed_limit, entries_of}
use Rattle.histories.proofs.Lent.{length_together}
use Rattle.histories.specs.Obeying.{Together, LogFits, HeldBy}

-- ---- a record that holds them

-- a server of the highest term, with the last entry's time
abbrev holder : List Entry → Server
holder es = record { head = record { term = limit; primary = false; commit = 0; wall = 1; time = applied_time es }; log = log_of es; mail = zero_mail; rows = rows_of (log_of es) 0 }

abbrev record_of : List Entry → Cluster
record_of es = with_server (fresh_cluster fewest_servers 0) 0 (holder es)

module _ (es : List Entry) (short : length es ≤ committed_limit) (order : Orderly limit es) (each_fits : (n : ℕ) → FitsEntry (entry_at es n)) where
  -- one log keeps them all
  room : length es ≤ log_limit
  room = omega arith

  live_log : live (log_of es) ≡ es
  live_log = take-append_seam es _

  good_holder : ServerGood (holder es)
  good_holder =
      record {
        log = record { tidy = tidy_log_of es room; order = rw live_log order };
        last_time = rw live_log (before_itself (applied_time es));
        commit_point = omega arith;
        wall_clock = omega arith;
        primary_term = λ p. not_both false p refl;
        rows = rows_of_good (log_of es) 0;
      }

  fits_holder : FitsServer (holder es)
  fits_holder =
      record {
        head = record { term = omega arith; commit = omega arith; wall = omega arith; time = (each_fits (length es)).time };
        log = fits_log;
        mail = fits_zero_mail;
        rows = fits_rows_of fits_log 0;
      }
    where
      slot : (i : ℕ) → i < log_limit → FitsEntry (get_or (log_of es).entries i zero_entry)
      slot i h =
          ⊎_elim
          (λ l. subst FitsEntry (ap (λ (xs : List Entry). entry_at xs (suc i)) (sym live_log) ∙ entry_at_slot (log_of es) i l) (each_fits (suc i)))
          (λ l. rw ((tidy_log_of es room).rest i l) (record { term = omega arith; key = omega arith; value = omega arith; time = record { p = omega arith; l = omega arith } }))
          (lt_or_le i (length es))

      fits_log : FitsLog (log_of es)
      fits_log = record { slots = (tidy_log_of es room).slots; len = omega arith; each = slot }

  at_first : server_at (record_of es) 0 ≡ holder es
  at_first = replaced_here (fresh_cluster fewest_servers 0) 0 (holder es) (omega (arith, (fits_fresh fewest_servers 0 (omega arith) (omega arith)).slots))

  at_others : (i : ℕ) → 1 ≤ i → server_at (record_of es) i ≡ server_at (fresh_cluster fewest_servers 0) i
  at_others i h = replaced_others (fresh_cluster fewest_servers 0) 0 (holder es) i (λ z. omega arith)

  good_record : Good (record_of es)
  good_record =
      record {
        size = two_vote;
        at_least_two = omega arith;
        at_most_seven = omega arith;
        counted = λ i l. ⊎_elim (λ z. let e : i ≡ 0 = omega arith in rw (e, at_first) good_holder) (λ o. rw (at_others i o) (fresh.counted i l)) (lt_or_le i 1);
        mailed = λ i l. ⊎_elim (λ z. let e : i ≡ 0 = omega arith in rw (e, at_first) zero_good) (λ o. rw (at_others i o) (fresh.mailed i l)) (lt_or_le i 1);
        primaries_vote = λ i l p. ⊎_elim (λ z. let e : i ≡ 0 = omega arith in not_both false (rw (e, at_first) at p) refl) (λ o. fresh.primaries_vote i l (rw (at_others i o) at p)) (lt_or_le i 1);
        past = λ i l m. at_others i (omega arith) ∙ fresh.past i l m;
      }
    where
      fresh : Good (fresh_cluster fewest_servers 0)
      fresh = good_fresh fewest_servers 0 two_vote

  fits_record : Fits (record_of es)
  fits_record =
      record {
        count = omega arith;
        followers = omega arith;
        slots = length-set (fresh_cluster fewest_servers 0).servers 0 (holder es) ∙ fresh.slots;
        each = λ i l. ⊎_elim (λ z. let e : i ≡ 0 = omega arith in rw (e, at_first) fits_holder) (λ o. rw (at_others i o) (fresh.each i l)) (lt_or_le i 1);
      }
    where
      fresh : Fits (fresh_cluster fewest_servers 0)
      fresh = fits_fresh fewest_servers 0 (omega arith) (omega arith)

  held : HeldBy es
  held =
      record {
        cluster = record_of es;
        fits = fits_record;
        well_formed = well_formed_lem (record_of es) good_record;
        server = 0;
        counted = omega arith;
        same = ap (λ (s : Server). live s.log) at_first ∙ live_log;
      }

-- ---- and what any such record holds

orderly_up : {term : ℕ} {es : List Entry} → term ≤ limit → Orderly term es → Orderly limit es
orderly_up h o =
    record {
      each = λ n p l. let e = o.each n p l in record { from_one = e.from_one; not_above = omega (arith, e.not_above); writes = e.writes };
      terms = o.terms;
      times = o.times;
    }

module _ (g : Committed) where
  pub log_held : LogFits g → ((n : ℕ) → FitsEntry (entry_at (entries_of g) n)) → HeldBy (entries_of g)
  log_held f e = held (entries_of g) (omega (arith, length_together g f.together, f.short)) (orderly f.order) e

  pub held_log : Together g → HeldBy (entries_of g) → LogFits g
  held_log t h =
      let c = good h.cluster h.fits h.well_formed in
      let s = c.counted h.server h.counted in
      let small : h.server < most_servers = omega (arith, h.counted, c.at_most_seven) in
      record {
        together = t;
        short = omega (arith, length_together g t, ap length h.same, tidy_highest s.log.tidy);
        order = in_order_lem (subst (Orderly limit) h.same (orderly_up (h.fits.each h.server small).head.term s.log.order));
      }
