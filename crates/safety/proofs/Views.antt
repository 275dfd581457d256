-- Laws of the view: one server replaced, a report delivered, all servers changed, the fresh cluster, and what the view's entries say of the
-- record's.
-- Assumes nothing.
use Rattle.std.proofs.Common.{Option, None, Some}
use mathlib.Core.Path.{◌≡◌, refl, ap, sym, ◌∙◌, subst}
use mathlib.Core.Bool.{true}
use mathlib.Core.Logic.{⊎_elim, by_cases}
use Prim.Native.Nat.{ℕ, ◌<◌, ◌≤◌}
use native.Mathlib.Decide.{ℕ_discrete}
use native.Mathlib.Omega.{arith}
use lib.Dec.{ltb}
use lib.ListN.{take, get_or-eq_default}
use borrow.Author.Tests.{ltb-true}
use Rattle.base.specs.Lists.{each}
use Rattle.base.proofs.Each.{length_each_from}
use Rattle.base.proofs.Facts.{lt_or_le}
use Rattle.clock.specs.Ranges.{FitsTime}
use Rattle.server_log.specs.declared.Entry.{Entry}
use Rattle.server_log.specs.declared.Log.{Log}
use Rattle.server_log.specs.Entries.{entry_at, common_beginning, is_beginning}
use Rattle.server_log.specs.Logs.{live, length_of}
use Rattle.server_log.specs.Ranges.{FitsLog}
use Rattle.server_log.proofs.Common.{common_longest, first_beginning}
use Rattle.server_log.proofs.Positions.{same_first}
use Rattle.server_log.proofs.Ranges.{fits_entry}
use Rattle.cluster.specs.declared.Server.{Server}
use Rattle.cluster.specs.declared.Cluster.{Cluster}
use Rattle.cluster.specs.Ranges.{Fits}
use Rattle.mail.specs.declared.Report.{Report}
use Rattle.mail.specs.declared.Note.{Note}
use Rattle.mail.specs.Reports.{zero_report, zero_note}
use Rattle.mail.specs.Queues.{report_at}
use Rattle.mail.specs.Mails.{note_at, received}
use Rattle.mail.proofs.Held.{zero_note_at, zero_report_at}
use Rattle.cluster.specs.Servers.{most_servers, zero_server, fresh_server, past_server, zero_cluster, started_of, fresh_cluster, server_count, server_at, with_mail, with_server}
use Rattle.cluster.proofs.Fresh.{fresh_at, fresh_past}
use Rattle.cluster.proofs.Changed.{replaced_here, replaced_others}
use Rattle.steps.specs.declared.Sent.{Sent}
use Rattle.steps.specs.declared.Stepped.{Stepped}
use Rattle.rules.specs.Rules.{delivered, put_back}
use Rattle.rules.proofs.Others.{put_either, changed_either}
use Rattle.safety.specs.Quorum.{Quorums}
use Rattle.safety.specs.Cluster.{EntrySeen, ServerSeen, Holds, Others}
use Rattle.safety.specs.Told.{Place, note, slot, Told}
use Rattle.safety.specs.Steps.{Goes, Fresh}
use Rattle.safety.specs.View.{seen_entry, seen_server, view, told_in, seen_cluster}
use Rattle.safety.proofs.Joins.{unchanged}
use Rattle.safety.proofs.Time.{stamp_same}

-- ---- servers

-- a number below the server count is one of a server
pub in_range_lem : (c : Cluster) (a : ℕ) → ltb a (server_count c) ≡ true → a < most_servers
in_range_lem c a l = omega (arith, ltb-true a (server_count c) l)

-- a delivery changes a queue alone, which no server shows
delivered_view : (c : Cluster) (x : Option Sent) (i : ℕ) → view (delivered c x) i ≡ view c i
unfolding delivered
delivered_view c None i = refl
delivered_view c (Some t) i =
    put_either (λ s. seen_server s ≡ view c i) c t.to (with_mail (server_at c t.to) (received (server_at c t.to).mail t.report)) i (λ e. ap (view c) (sym e)) refl

-- server a as a step left it, whatever that sends
module _ (c : Cluster) (f : Fits c) (a : ℕ) (l : ltb a (server_count c) ≡ true) (o : Stepped) where
  pub here : view (put_back c a o).cluster a ≡ seen_server o.server
  here =
      delivered_view (with_server c a o.server) o.sends a
      ∙ ap seen_server (replaced_here c a o.server (omega (arith, f.slots, in_range_lem c a l)))

  pub others : Others (view c) (view (put_back c a o).cluster) a
  others i ne = delivered_view (with_server c a o.server) o.sends i ∙ ap seen_server (replaced_others c a o.server i ne)

  -- a step that the view does not show
  pub not_shown : {𝓠 : Quorums} {m : Told} → seen_server o.server ≡ view c a → Goes 𝓠 m (view c) (view (put_back c a o).cluster)
  not_shown e = unchanged (λ i. by_cases (ℕ_discrete i a) (λ q. rw q (here ∙ e)) (others i))

-- a change of all servers that the view does not show at i
pub changed_view : (g : ℕ → Server → Server) (c : Cluster) (i : ℕ) → seen_server (g i (server_at c i)) ≡ view c i
    → view (record { count = c.count; followers = c.followers; servers = each g c.servers }) i ≡ view c i
changed_view g c i e = changed_either (λ s. seen_server s ≡ view c i) g c i e refl

-- ---- the fresh cluster

-- each server of it is fresh, zero or none
pub fresh_each : (P : Server → Type 0) → P fresh_server → P zero_server → P past_server → (n f i : ℕ) → P (server_at (fresh_cluster n f) i)
fresh_each P x y z n f i = ⊎_elim one past (lt_or_le i most_servers)
  where
    one : i < most_servers → P (server_at (fresh_cluster n f) i)
    one h = ⊎_elim (λ l. subst P (sym (fresh_at n f i l h)) x) (λ l. subst P (sym (fresh_past n f i l h)) y) (lt_or_le i n)

    past : most_servers ≤ i → P (server_at (fresh_cluster n f) i)
    past h =
        subst P (sym (get_or-eq_default (fresh_cluster n f).servers past_server (omega (arith, length_each_from (started_of n) 0 zero_cluster.servers)))) z

-- so it looks like none
fresh_view : (n f i : ℕ) → view (fresh_cluster n f) i ≡ seen_server past_server
fresh_view n f i = fresh_each (λ s. seen_server s ≡ seen_server past_server) refl refl refl n f i

-- and was told nothing
fresh_notes : (n f i j : ℕ) → note_at (server_at (fresh_cluster n f) i).mail j ≡ zero_note
fresh_notes n f i j = fresh_each (λ s. note_at s.mail j ≡ zero_note) (zero_note_at j) (zero_note_at j) refl n f i

fresh_reports : (n f i k : ℕ) → report_at (server_at (fresh_cluster n f) i).mail.queue k ≡ zero_report
fresh_reports n f i k = fresh_each (λ s. report_at s.mail.queue k ≡ zero_report) (zero_report_at k) (zero_report_at k) refl n f i

fresh_told : (n f : ℕ) (p : Place) → (told_in (fresh_cluster n f) p).len ≡ 0
fresh_told n f (note i j) = ap (λ (x : Note). x.len) (fresh_notes n f i j)
fresh_told n f (slot i k) = ap (λ (x : Report). x.len) (fresh_reports n f i k)

pub fresh_seen : (n f : ℕ) → Fresh (seen_cluster (fresh_cluster n f))
unfolding entry_at
fresh_seen n f =
    record {
      servers =
          record {
            len = λ i. ap (λ (s : ServerSeen). s.len) (fresh_view n f i);
            log = λ i. refl;
            term = λ i. ap (λ (s : ServerSeen). s.term) (fresh_view n f i);
            role = λ i. ap (λ (s : ServerSeen). s.primary) (fresh_view n f i);
            commit = λ i. ap (λ (s : ServerSeen). s.commit) (fresh_view n f i);
            mark = λ i. ap (λ (s : ServerSeen). s.mark) (fresh_view n f i);
          };
      told = fresh_told n f;
    }

-- ---- entries

-- the time at any position fits
pub fits_time : (g : Log) → FitsLog g → (n : ℕ) → FitsTime (entry_at (live g) n).time
fits_time g f n = (fits_entry f n).time

-- entries whose times fit are equal where they look equal
pub same_entry_lem : (d e : Entry) → FitsTime d.time → FitsTime e.time → seen_entry d ≡ seen_entry e → d ≡ e
same_entry_lem d e f g q =
    let times = stamp_same d.time e.time f g (ap (λ (x : EntrySeen). x.time) q) in
    λ i. record { term = (q i).term; key = (q i).key; value = (q i).value; time = times i }

-- ---- the first entries of s, which t holds

module _ (s t : Server) (f : FitsLog s.log) (g : FitsLog t.log) {k : ℕ} (long : k ≤ length_of s.log) (h : Holds k (seen_server s).log (seen_server t)) where
  -- position by position
  holds_at : (n : ℕ) → n ≤ k → entry_at (live t.log) n ≡ entry_at (live s.log) n
  holds_at n l = same_entry_lem _ _ (fits_time t.log g n) (fits_time s.log f n) (h.same n l)

  pub first_same : take k (live s.log) ≡ take k (live t.log)
  first_same = same_first k (live s.log) (live t.log) long h.long (λ n l. sym (holds_at n l))

  -- they are within the longest common beginning
  pub holds_common : k ≤ common_beginning (live s.log) (live t.log)
  holds_common = common_longest k (live s.log) (live t.log) long h.long first_same

  -- and all of them are a beginning of t's log
  pub holds_beginning : is_beginning (take k (live s.log)) (live t.log) ≡ true
  holds_beginning = first_beginning k (live s.log) (live t.log) long h.long first_same
