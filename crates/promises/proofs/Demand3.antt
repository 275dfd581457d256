-- Demand 3 holds of every run.
-- Assumes nothing.
use mathlib.Core.Path.{◌≡◌, sym, ◌∙◌}
use mathlib.Core.Bool.{true, false}
use Prim.Native.Nat.{ℕ, ◌<◌, ◌≤◌}
use native.Mathlib.Omega.{arith}
use lib.ListN.{length}
use lib.Seq.{length-take-le}
use borrow.Author.Tests.{ltb-true}
use Rattle.clock.specs.declared.Time.{Time}
use Rattle.clock.specs.Times.{is_before}
use Rattle.clock.proofs.Order.{not_after_trans}
use Rattle.server_log.specs.Entries.{entry_at}
use Rattle.server_log.specs.Logs.{live, length_of}
use Rattle.server_log.specs.Ranges.{FitsLog}
use Rattle.server_log.proofs.Latest.{found, latest_found, key_of, value_of, found_at}
use Rattle.server_log.proofs.Live.{entry_at_take}
use Rattle.cluster.specs.declared.Server.{Server}
use Rattle.cluster.specs.declared.Cluster.{Cluster}
use Rattle.cluster.specs.Servers.{server_count, server_at}
use Rattle.reads.specs.MajorityRead.{commit_time, covered}
use Rattle.wholes.specs.Starts.{Opening}
use Rattle.safety.specs.Cluster.{Holds}
use Rattle.safety.specs.Steps.{Walk}
use Rattle.safety.specs.Demand3.{LastFor, Demand3}
use Rattle.safety.specs.Time.{stamp}
use Rattle.safety.specs.View.{seen_server, view, seen_cluster}
use Rattle.promises.specs.Demand3.{entry_of, first_of, holds, Shows, Kept, Demand3Promised}
use Rattle.safety.proofs.Quorum.{majority_count}
use Rattle.safety.proofs.Time.{stamp_before, not_before_stamp}
use Rattle.safety.proofs.Joins.{commit_within}
use Rattle.safety.proofs.Demand3.{demand3}
use Rattle.safety.proofs.Views.{fresh_seen, fits_time, same_entry_lem, holds_beginning}
use Rattle.safety.proofs.Stepped.{quorums, Now, never_9}
use Rattle.promises.proofs.Turns.{led, reached}
use Rattle.promises.proofs.Answered.{Answered, answered}

-- ---- a read that is answered

-- the position that a read at s looks at is that of the last entry for the key
found_is : (s : Server) (key p : ℕ) → s.head.commit ≤ length_of s.log → LastFor (seen_server s).log key s.head.commit p → found key (covered s) ≡ p
found_is s key p within h =
    found_at key (covered s) p (omega (arith, long, h.within)) (λ one. key_of (same p h.within) ∙ h.key)
    (λ j l m e. h.last j l (omega (arith, long)) (key_of (sym (same j (omega (arith, long)))) ∙ e))
  where
    long : length (covered s) ≡ s.head.commit
    long = length-take-le s.head.commit (live s.log) within

    same : (j : ℕ) → j ≤ s.head.commit → entry_at (covered s) j ≡ entry_at (live s.log) j
    same j l = entry_at_take s.head.commit j (live s.log) l

-- ---- what is covered once

module _ {z : Opening} {x y : Cluster} (X : Now z x) (Y : Now z y) (w : Walk (quorums z) (seen_cluster x) (seen_cluster y))
    (s k : ℕ) (hs : s < z.servers) (one : 1 ≤ k) (cov : k ≤ (server_at x s).head.commit) where
  log_x : FitsLog (server_at x s).log
  log_x = (X.fits.each s (omega (arith, X.few))).log

  log_y : (i : ℕ) → i < z.servers → FitsLog (server_at y i).log
  log_y i h = (Y.fits.each i (omega (arith, Y.few))).log

  long : k ≤ length_of (server_at x s).log
  long = omega (arith, commit_within (fresh_seen z.servers z.followers) X.walk s)

  seen : Demand3 (quorums z) (view x) (view y) s k
  seen = demand3 (fresh_seen z.servers z.followers) X.walk w s k cov

  held : (i : ℕ) → i < z.servers → Holds k (view x s).log (view y i) → holds y (first_of x s k) i ≡ true
  held i h = holds_beginning (server_at x s) (server_at y i) log_x (log_y i h) long

  shown : (q : ℕ) (asked : Time) (v : ℕ) (u : Time) → is_before asked (entry_of x s k).time ≡ false → Answered y q (entry_of x s k).key asked v u → Shows y q (entry_of x s k) k v
  shown q asked v u late a =
      let e = entry_of x s k in
      let t = server_at y q in
      let hq : q < z.servers = omega (arith, ltb-true q (server_count y) a.below, Y.counted) in
      let in-time = not_before_stamp e.time (commit_time t) (fits_time (server_at x s).log log_x k)
      (not_after_trans e.time asked (commit_time t) late a.reached) in
      let S = seen.reads q (stamp e.time) (omega arith) in-time in
      let p = S.found in
      let f = found_is t e.key p (commit_within (fresh_seen z.servers z.followers) Y.walk q) S.read in
      record {
        position = p;
        from = S.from;
        covered = S.read.within;
        key = S.read.key;
        value = value_of (sym (entry_at_take t.head.commit p (live t.log) S.read.within)) ∙ sym (rw f at (latest_found e.key (covered t))) ∙ a.value;
        same = λ z. same_entry_lem (entry_of y q p) e (fits_time t.log (log_y q hq) p) (fits_time (server_at x s).log log_x k) (S.same z);
        newer = λ l. stamp_before e.time (entry_of y q p).time (fits_time t.log (log_y q hq) p) (S.newer l);
      }

  kept_in : Kept x y s k
  kept_in =
      record {
        whole = length-take-le k (live (server_at x s).log) long;
        majority = rw (Y.counted, Y.follows) (majority_count z.servers z.followers (holds y (first_of x s k)) _ held seen.majority);
        primaries = λ i l p t. held i (omega (arith, Y.counted)) (seen.primaries i p t);
        commits = λ i l h. held i (omega (arith, Y.counted)) (seen.commits i h);
        reads = λ q asked v t late a. shown q asked v t late (answered y Y.fits q _ asked v t a);
      }

-- ---- the promise

pub demand_3 : Demand3Promised
demand_3 c d f l =
    let N = reached f in
    let T = led N l in
    record {
      counted = T.later.counted ∙ sym N.counted;
      follow = T.later.follows ∙ sym N.follows;
      kept = λ s k h one cov. kept_in N T.later T.walk s k (omega (arith, N.counted)) one cov;
      never_9 = never_9 T.later;
    }
