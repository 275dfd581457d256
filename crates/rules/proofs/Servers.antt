-- A counted server of a well-formed record stays one, kind by kind, where its rules are clear. Assumes nothing.
use Rattle.std.proofs.Common.{Some}
use mathlib.Core.Path.{◌≡◌, refl, ap, sym, ◌∙◌, subst}
use mathlib.Core.Bool.{Bool, true, false, cond, ◌&&◌, ◌||◌}
use mathlib.Core.Logic.{◌≢◌, ⊎_elim}
use mathlib.Core.List.{List, [], ◌∷◌, ◌++◌}
use Prim.Native.Nat.{ℕ, ◌<◌, ◌≤◌, max}
use native.Mathlib.Omega.{arith}
use lib.Dec.{eqb, ltb}
use lib.ListN.{length, take}
use lib.Seq.{take-append-le, take-length}
use borrow.Author.Tests.{ltb-true, leb-true, eqb-true}
use Rattle.base.proofs.Bools.{and_left, and_right, or_cases, not_both}
use Rattle.base.specs.Numbers.{byte}
use Rattle.base.specs.Lists.{joined_at}
use Rattle.base.proofs.Joined.{joined_first}
use Rattle.clock.specs.declared.Time.{Time}
use Rattle.clock.specs.Times.{limit, is_before}
use Rattle.clock.specs.Ranges.{FitsTime}
use Rattle.clock.proofs.Order.{before_itself, not_after_trans, later_left, later_right}
use Rattle.server_log.specs.declared.Entry.{Entry}
use Rattle.server_log.specs.declared.Log.{Log}
use Rattle.server_log.specs.declared.rows.Latest.{Latest}
use Rattle.server_log.specs.declared.rows.Rows.{Rows}
use Rattle.base.proofs.Facts.{lt_or_le}
use Rattle.server_log.specs.Entries.{entry_at, last_term, applied_time, equal_at}
use Rattle.server_log.proofs.Live.{entry_at_zero}
use Rattle.server_log.specs.Logs.{live, length_of, appended}
use Rattle.server_log.specs.Rows.{zero_row, latest_after, latest_over, between}
use Rattle.server_log.specs.Ranges.{FitsEntry, FitsLog, FitsLatest, FitsRows}
use Rattle.server_log.proofs.Common.{common_le, common_first, rolled_is}
use Rattle.server_log.proofs.Equal.{equal_at_lem}
use Rattle.server_log.proofs.Orderly.{Writing, LogGood}
use Rattle.server_log.proofs.Positions.{length_more, last_joined}
use Rattle.server_log.proofs.Tidy.{tidy_highest, live_joined, long_joined}
use Rattle.cluster.specs.declared.Head.{Head}
use Rattle.cluster.specs.declared.Server.{Server}
use Rattle.cluster.specs.Servers.{most_servers, with_primary, with_head, with_mail, with_rows, committed_to}
use Rattle.mail.specs.declared.Mail.{Mail}
use Rattle.mail.specs.Mails.{emptied, with_source}
use Rattle.mail.specs.Ranges.{FitsReport, FitsMail}
use Rattle.mail.proofs.Good.{UsedReport, MailGood, source_of}
use Rattle.mail.proofs.Kept.{oldest_used, zero_good, taken_good, noted_good, emptied_good, sourced_good}
use Rattle.mail.proofs.Ranges.{fits_zero_mail, fits_report_at, fits_taken, fits_noted, fits_emptied, fits_sourced}
use Rattle.cluster.proofs.Changed.{fits_head, fits_log, fits_mail, fits_rows}
use Rattle.cluster.proofs.Sound.{ServerSound}
use Rattle.steps.specs.Reasons.{Clear}
use Rattle.steps.specs.Answers.{number_of}
use Rattle.steps.proofs.Positions.{number_kept, number_fits}
use Rattle.pairs.specs.Hears.{takes_commit, heard_of}
use Rattle.pairs.specs.Pulls.{pull_rules, took_commit, took_of, pulled_log, pulled_of}
use Rattle.pairs.specs.RollsBack.{common, roll_rules, rolled_of}
use Rattle.pairs.specs.Reports.{report_of}
use Rattle.singles.specs.TakesReport.{take_rules, take_done}
use Rattle.singles.specs.Restarts.{restarted_of}
use Rattle.singles.specs.Appends.{append_rules, new_entry, stamped_of}
use Rattle.counts.specs.Advances.{committed_of}
use Rattle.rules.proofs.Appends.{stamp_from, ticked, stamp_after, room, live_more, applied_more}
use Rattle.rules.proofs.Others.{office_of, wall_of}
use Rattle.rules.proofs.Logs.{log_raised, appended_good, joined_good}
use Rattle.server_log.proofs.Ranges.{fits_entry, fits_appended, fits_joined, fit_live, fit_between, fits_zero_row, fits_after, fits_over}
use Rattle.server_log.proofs.Rowed.{HasLatest, RowsGood, has_none, has_after, has_between, has_rest, has_over}
use Rattle.rules.proofs.Ranges.{fits_later, fits_tick}

-- ---- rows

-- both rows fit, and have what a walk finds
pub record RowsSound (r : Rows) (g : Log) (commit : ℕ) : Type 0 where
  pub fits : FitsRows r
  pub good : RowsGood r g commit

-- the row of the committed beginning, brought up to a commit point that is not below the one before, in a log that begins as the old one as far as that
raised_rows : {n i : ℕ} {s : Server} → ServerSound n i s → (g : Log) (v : Latest) (p : ℕ) → FitsLog g → FitsLatest v → HasLatest v (live g) → s.head.commit ≤ p
    → take s.head.commit (live g) ≡ take s.head.commit (live s.log) → RowsSound (record { whole = v; committed = committed_to s g p }) g p
raised_rows {s = s} x g v p fits range has up same =
    record {
      fits = record { whole = range; committed = fits_over (between g s.head.commit p) x.fits.rows.committed (fit_between fits s.head.commit p) };
      good = record {
        whole = has;
        committed = has_between g s.head.commit p x.fits.rows.committed up (subst (HasLatest s.rows.committed) (sym same) x.good.rows.committed);
      };
    }

-- the same where the log stays
committed_rows : {n i : ℕ} {s : Server} → ServerSound n i s → (p : ℕ) → s.head.commit ≤ p
    → RowsSound (record { whole = s.rows.whole; committed = committed_to s s.log p }) s.log p
committed_rows {s = s} x p up = raised_rows x s.log s.rows.whole p x.fits.log x.fits.rows.whole x.good.rows.whole up refl

same_rows : {n i : ℕ} {s : Server} → ServerSound n i s → RowsSound s.rows s.log s.head.commit
same_rows x = record { fits = x.fits.rows; good = x.good.rows }

-- ---- kinds that keep the log

-- a server with the same log: its other head and rows have to meet these
pub log_kept : {n i : ℕ} {s : Server} {h : Head} {r : Rows} → ServerSound n i s → s.head.term ≤ h.term → h.term ≤ limit → (h.primary ≡ true → 1 ≤ h.term)
    → h.commit ≤ length_of s.log → 1 ≤ h.wall → h.wall ≤ limit → FitsTime h.time → is_before h.time (applied_time (live s.log)) ≡ false
    → RowsSound r s.log h.commit → ServerSound n i (with_rows (with_head s h) r)
log_kept x up term role commit wall clock time last rows =
    record {
      fits = fits_rows (fits_head x.fits (record { term = term; commit = omega (arith, tidy_highest x.good.log.tidy); wall = clock; time = time })) rows.fits;
      good = record { log = log_raised up x.good.log; last_time = last; commit_point = commit; wall_clock = wall; primary_term = role; rows = rows.good };
      mailed = x.mailed;
    }

-- a server with other mail
pub mail_set : {n i : ℕ} {s : Server} {m : Mail} → ServerSound n i s → FitsMail m → MailGood n i m → ServerSound n i (with_mail s m)
mail_set x f g =
    record {
      fits = fits_mail x.fits f;
      good = record { log = x.good.log; last_time = x.good.last_time; commit_point = x.good.commit_point; wall_clock = x.good.wall_clock; primary_term = x.good.primary_term; rows = x.good.rows };
      mailed = g;
    }

module _ {n i : ℕ} {s : Server} (h : ServerSound n i s) where
  pub down_sound : ServerSound n i (with_head s (with_primary s.head false))
  down_sound =
      log_kept h (omega arith) h.fits.head.term (λ p. not_both false p refl) h.good.commit_point h.good.wall_clock h.fits.head.wall h.fits.head.time h.good.last_time
      (same_rows h)

  pub wall_sound : (w : ℕ) → 1 ≤ w → w ≤ limit → ServerSound n i (wall_of s w)
  wall_sound w from to =
      log_kept h (omega arith) h.fits.head.term h.good.primary_term h.good.commit_point from to h.fits.head.time h.good.last_time (same_rows h)

  pub restarted_sound : ServerSound n i (restarted_of s)
  restarted_sound =
      mail_set (log_kept h (omega arith) h.fits.head.term (λ p. not_both false p refl) (omega arith) h.good.wall_clock h.fits.head.wall
      (fits_entry h.fits.log (length_of s.log)).time (before_itself (applied_time (live s.log))) none) fits_zero_mail zero_good
    where
      none : RowsSound (record { whole = s.rows.whole; committed = zero_row }) s.log 0
      none =
          record {
            fits = record { whole = h.fits.rows.whole; committed = fits_zero_row };
            good = record { whole = h.good.rows.whole; committed = has_none };
          }

  pub committed_sound : (p : ℕ) → s.head.commit ≤ p → p ≤ length_of s.log → ServerSound n i (committed_of s p)
  committed_sound p up l =
      log_kept h (omega arith) h.fits.head.term h.good.primary_term l h.good.wall_clock h.fits.head.wall h.fits.head.time
      h.good.last_time (committed_rows h p up)

  -- a member takes a term that is above its own
  pub voted_sound : (t : ℕ) (p : Bool) → s.head.term < t → t ≤ limit → ServerSound n i (office_of s t p)
  voted_sound t p up to =
      mail_set (log_kept h (omega arith) to (λ q. omega arith) h.good.commit_point h.good.wall_clock h.fits.head.wall h.fits.head.time h.good.last_time
      (same_rows h)) (fits p) (good p)
    where
      -- a winner's mail is emptied, and the others' stays
      fits : (b : Bool) → FitsMail (cond b (emptied s.mail) s.mail)
      fits true = fits_emptied h.fits.mail
      fits false = h.fits.mail

      good : (b : Bool) → MailGood n i (cond b (emptied s.mail) s.mail)
      good true = emptied_good h.mailed
      good false = h.mailed

  -- the oldest report is noted and leaves the queue
  pub taken_sound : Clear (take_rules s) → ServerSound n i (take_done s).server
  taken_sound c =
      let some = leb-true 1 s.mail.queue.len c.0 in
      mail_set h (fits_taken (fits_noted h.fits.mail (fits_report_at h.fits.mail.queue 0))) (taken_good (noted_good h.mailed (oldest_used h.mailed.queue some)))

  -- and what a log of some entries is told of is a used report
  pub report_used : i < n → 1 ≤ length_of s.log → UsedReport n (report_of i s)
  report_used l some =
      let highest = tidy_highest h.good.log.tidy in
      let last = h.good.log.order.each (length_of s.log) some (omega arith) in
      let kept : number_of (length_of s.log) ≡ length_of s.log = number_kept (length_of s.log) (omega (arith, highest)) in
      record { below = l; from_one = omega (arith, kept); not_past = omega (arith, kept, highest); last_from_one = last.from_one; last_not_above = last.not_above }

  pub report_fits : i < byte → FitsReport (report_of i s)
  report_fits l =
      record {
        who = l;
        note = record { term = h.fits.head.term; last = (fits_entry h.fits.log (length_of s.log)).term; len = number_fits (length_of s.log) };
      }

  -- b is its source
  pub sourced_sound : (b : ℕ) → b < n → b ≢ i → n ≤ most_servers → ServerSound n i (with_mail s (with_source s.mail (Some b)))
  sourced_sound b l ne few =
      mail_set h (fits_sourced h.fits.mail (omega arith)) (sourced_good h.mailed (source_of l ne))

-- ---- kinds that look at another server

module _ {n i j : ℕ} {s t : Server} (h : ServerSound n i s) (k : ServerSound n j t) where
  pub heard_sound : ServerSound n i (heard_of s t)
  unfolding heard_of takes_commit
  heard_sound =
      log_kept h (omega arith) (omega (arith, h.fits.head.term, k.fits.head.term)) (λ p. omega (arith, h.good.primary_term (and_left _ _ p))) (reached _ refl)
      h.good.wall_clock h.fits.head.wall (fits_later s.head.time t.head.time h.fits.head.time k.fits.head.time)
      (not_after_trans _ s.head.time _ h.good.last_time (later_left s.head.time t.head.time))
      (committed_rows h _ (above _ refl))
    where
      -- one that is taken is above the own
      above : (b : Bool) → (ltb s.head.commit t.head.commit && equal_at (live s.log) (live t.log) t.head.commit) ≡ b → s.head.commit ≤ cond b t.head.commit s.head.commit
      above true e = omega (arith, ltb-true s.head.commit t.head.commit (and_left _ _ e))
      above false e = omega arith

      -- and a position of the own log
      reached : (b : Bool) → (ltb s.head.commit t.head.commit && equal_at (live s.log) (live t.log) t.head.commit) ≡ b → cond b t.head.commit s.head.commit ≤ length_of s.log
      reached true e =
          (equal_at_lem (live s.log) (live t.log) t.head.commit (and_right (ltb s.head.commit t.head.commit) _ e)).left
      reached false e = h.good.commit_point

  -- a log that begins as the own one up to the own commit point, and a row that has its latest values
  took_sound : (g : Log) (v : Latest) → LogGood (max s.head.term t.head.term) g → FitsLog g → applied_time (live g) ≡ applied_time (live t.log)
      → s.head.commit ≤ length_of g → t.head.commit ≤ length_of g → FitsLatest v → HasLatest v (live g)
      → take s.head.commit (live g) ≡ take s.head.commit (live s.log) → ServerSound n i (took_of s t g v)
  unfolding took_of
  took_sound g v order range last sc tc row has same =
      record {
        fits = fits_rows (fits_log (fits_head h.fits (record {
          term = omega (arith, h.fits.head.term, k.fits.head.term);
          commit = omega (arith, h.fits.head.commit, k.fits.head.commit);
          wall = h.fits.head.wall;
          time = fits_later s.head.time t.head.time h.fits.head.time k.fits.head.time;
        })) range) rows.fits;
        good = record {
          log = order;
          last_time = rw last (not_after_trans _ t.head.time _ k.good.last_time (later_right s.head.time t.head.time));
          commit_point = omega arith;
          wall_clock = h.good.wall_clock;
          primary_term = λ p. omega (arith, h.good.primary_term p);
          rows = rows.good;
        };
        mailed = h.mailed;
      }
    where
      rows : RowsSound (record { whole = v; committed = committed_to s g (took_commit s t) }) g (took_commit s t)
      rows = raised_rows h g v (took_commit s t) range row has (omega arith) same

  pub pulled_sound : Clear (pull_rules s t) → ServerSound n i (pulled_of s t)
  pulled_sound c =
      let shorter : length_of s.log < length_of t.log = ltb-true _ _ c.1.0 in
      let long = long_joined h.good.log.tidy k.good.log.tidy (length_of s.log) (omega arith) (omega arith) in
      let is = live_joined h.good.log.tidy k.good.log.tidy (length_of s.log) (omega arith) (omega arith) in
      let range = fits_joined (length_of s.log) h.fits.log k.fits.log (omega arith) in
      took_sound (pulled_log s t) _
      (joined_good h.good.log k.good.log (length_of s.log) (omega arith) (omega arith) (agree c.1.1.0)) range
      (ap (λ (es : List Entry). applied_time es) is ∙ ap (λ (e : Entry). e.time) (last_joined (length_of s.log) (live s.log) (live t.log) (omega arith) shorter))
      (omega (arith, long, h.good.commit_point)) (omega (arith, long, k.good.commit_point))
      (fits_over (between (pulled_log s t) (length_of s.log) (length_of (pulled_log s t))) h.fits.rows.whole (fit_between range (length_of s.log) (length_of (pulled_log s t))))
      (has_rest (pulled_log s t) (length_of s.log) h.fits.rows.whole (omega (arith, long))
      (subst (HasLatest s.rows.whole) (sym (first is (length_of s.log) (omega arith) ∙ take-length (live s.log))) h.good.rows.whole))
      (first is s.head.commit h.good.commit_point)
    where
      -- up to its own length it is the own log
      first : live (pulled_log s t) ≡ joined_at (length_of s.log) (live s.log) (live t.log) → (p : ℕ) → p ≤ length_of s.log
          → take p (live (pulled_log s t)) ≡ take p (live s.log)
      first is p l = ap (take p) is ∙ joined_first p (length_of s.log) (live s.log) (live t.log) l (omega arith)

      -- the logs join at an equal entry
      agree : (eqb (length_of s.log) 0 || equal_at (live s.log) (live t.log) (length_of s.log)) ≡ true → 1 ≤ length_of s.log
          → entry_at (live s.log) (length_of s.log) ≡ entry_at (live t.log) (length_of s.log)
      agree e p =
          ⊎_elim (λ z. absurd (omega (arith, eqb-true (length_of s.log) 0 z)))
          (λ q. (equal_at_lem (live s.log) (live t.log) (length_of s.log) q).same) (or_cases (eqb (length_of s.log) 0) _ e)

  -- a rollback's log is the other server's
  pub rolled_sound : Clear (roll_rules s t) → ServerSound n i (rolled_of s t)
  rolled_sound c =
      let kept : s.head.commit ≤ common s t = leb-true _ _ c.1.1.1.1.0 in
      subst (λ (g : Log). ServerSound n i (took_of s t g (latest_over zero_row (live g)))) (sym (rolled_is s.log t.log))
      (took_sound t.log _ (log_raised (omega arith) k.good.log) k.fits.log refl
      (omega (arith, (common_le (live s.log) (live t.log)).1)) k.good.commit_point (fits_over (live t.log) fits_zero_row (fit_live k.fits.log)) (has_over (live t.log))
      (common_first s.head.commit (live s.log) (live t.log) kept))

  -- either way there are entries then, as many as the other has
  took_some : (g : Log) (v : Latest) → length_of g ≡ length_of t.log → 1 ≤ length_of t.log → 1 ≤ length_of (took_of s t g v).log
  unfolding took_of
  took_some g v e some = omega arith

  pub pulled_some : Clear (pull_rules s t) → 1 ≤ length_of (pulled_of s t).log
  pulled_some c =
      let shorter : length_of s.log < length_of t.log = ltb-true _ _ c.1.0 in
      took_some _ _ (long_joined h.good.log.tidy k.good.log.tidy (length_of s.log) (omega arith) (omega arith)) (omega arith)

  pub rolled_some : Clear (roll_rules s t) → 1 ≤ length_of (rolled_of s t).log
  rolled_some c = took_some _ _ (ap (λ (g : Log). length_of g) (rolled_is s.log t.log)) (⊎_elim (λ l. l) none (lt_or_le 0 (length_of t.log)))
    where
      -- the last term of no entries is 0, and none is below it
      none : length_of t.log ≤ 0 → 1 ≤ length_of t.log
      none l =
          let z = ap (λ (e : Entry). e.term) (entry_at_zero (live t.log) (length_of t.log) (omega arith)) in
          absurd (omega (arith, ltb-true (last_term (live s.log)) (last_term (live t.log)) c.1.1.0, z))

-- ---- an entry that is appended, at a tick from a time that is not before the cluster time

module _ {n i : ℕ} {s : Server} (h : ServerSound n i s) (key value : ℕ) (kept : key < byte) (small : value ≤ limit) (w : Writing key value) (from : Time) (fits : FitsTime from)
    (reached : is_before from s.head.time ≡ false) (c : Clear (append_rules s from)) where
  abbrev new : Entry
  new = new_entry s key value (stamp_from s from)

  time_fits : FitsTime (stamp_from s from)
  time_fits = fits_tick s.head.wall from _ h.fits.head.wall fits (ticked s from c)

  more : live (appended s.log new) ≡ live s.log ++ (new ∷ [])
  more = live_more s from c h.good.log.tidy new

  longer : length_of s.log < length_of (appended s.log new)
  longer = omega (arith, ap (λ (es : List Entry). length es) more, length_more (live s.log) new)

  new_fits : FitsEntry new
  new_fits = record { term = h.fits.head.term; key = kept; value = small; time = time_fits }

  -- the start is not before the cluster time, which is not before the applied time
  pub appended_sound : ServerSound n i (stamped_of s key value (stamp_from s from))
  unfolding stamped_of
  appended_sound =
      record {
        fits = fits_rows (fits_log (fits_head h.fits (record { term = h.fits.head.term; commit = h.fits.head.commit; wall = h.fits.head.wall; time = time_fits }))
            (fits_appended h.fits.log new_fits)) (record { whole = fits_after h.fits.rows.whole new_fits; committed = h.fits.rows.committed });
        good = record {
          log = appended_good h.good.log (record { from_one = h.good.primary_term c.0; not_above = omega arith; writes = w }) (omega arith)
              (stamp_after s from c _ (not_after_trans _ s.head.time from h.good.last_time reached)) (room s from c);
          last_time = rw (applied_more s from c h.good.log.tidy new) (before_itself (stamp_from s from));
          commit_point = omega (arith, longer, h.good.commit_point);
          wall_clock = h.good.wall_clock;
          primary_term = h.good.primary_term;
          rows = record {
            whole = subst (HasLatest (latest_after s.rows.whole new)) (sym more) (has_after (live s.log) h.fits.rows.whole h.good.rows.whole new);
            committed = subst (HasLatest s.rows.committed) (sym (ap (take s.head.commit) more ∙ take-append-le s.head.commit (live s.log) (new ∷ []) h.good.commit_point))
                h.good.rows.committed;
          };
        };
        mailed = h.mailed;
      }
