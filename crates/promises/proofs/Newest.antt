-- A newest read takes in all that any commit point covered before the kind 14 step.
-- Assumes nothing.
use mathlib.Core.Path.{◌≡◌, refl, ap, sym, ◌∙◌}
use mathlib.Core.Bool.{true, false}
use mathlib.Core.Logic.{by_cases}
use mathlib.Core.List.{List}
use Prim.Native.Nat.{ℕ, ◌≤◌, ◌<◌}
use native.Mathlib.Decide.{dec_le}
use native.Mathlib.Omega.{arith}
use lib.ListN.{length, take}
use lib.Seq.{length-take-le, take-take}
use Rattle.base.proofs.Bools.{not_both}
use Rattle.clock.specs.Times.{is_before}
use Rattle.server_log.specs.declared.Entry.{Entry}
use Rattle.server_log.specs.Entries.{entry_at, latest_value}
use Rattle.server_log.specs.Logs.{live, length_of}
use Rattle.server_log.specs.Ranges.{FitsLog}
use Rattle.server_log.proofs.Common.{first_beginning}
use Rattle.server_log.proofs.Latest.{found, latest_found, found_le, found_key, found_last, key_of, value_of, latest_first}
use Rattle.server_log.proofs.Live.{entry_at_take}
use Rattle.server_log.proofs.Positions as P
use Rattle.cluster.specs.declared.Cluster.{Cluster}
use Rattle.cluster.specs.Servers.{server_at}
use Rattle.steps.specs.declared.Step.TheVariants.{WritesNothing}
use Rattle.wholes.specs.Starts.{Opening}
use Rattle.safety.specs.Steps.{Walk}
use Rattle.safety.specs.NewestSeen.{NewestSeen}
use Rattle.safety.specs.View.{view, seen_cluster}
use Rattle.promises.specs.Runs.{comes}
use Rattle.promises.specs.Demand3.{entry_of, first_of}
use Rattle.promises.specs.Newest.{Reading, NoneFor, NewestValue, last_of_those, of_a_newer, TakenIn, NewestPromised}
use Rattle.safety.proofs.Time.{stamp_before}
use Rattle.safety.proofs.Joins.{commit_within, times_ordered}
use Rattle.safety.proofs.NewestSeen as S
use Rattle.safety.proofs.Views.{fresh_seen, fits_time, first_same}
use Rattle.promises.proofs.SeenNewest.{Asked, asked_of, Read, read_of}
use Rattle.safety.proofs.Stepped.{quorums, Now}
use Rattle.promises.proofs.Turns.{then, next, led, reached}

-- ---- what is read

module _ {y : Cluster} {r : Reading} (read : Read y r) (long : r.position ≤ length_of (server_at y r.server).log) where
  -- the entries that are read
  abbrev es : List Entry
  es = first_of y r.server r.position

  es_long : length es ≡ r.position
  es_long = length-take-le r.position (live (server_at y r.server).log) long

  es_at : (p : ℕ) → p ≤ r.position → entry_at es p ≡ entry_of y r.server p
  es_at p = entry_at_take r.position p (live (server_at y r.server).log)

  none_above : (k : ℕ) → found r.key es ≤ k → NoneFor y r.server r.key k r.position
  none_above k low p l h e = found_last r.key es p (omega arith) (omega (arith, es_long)) (key_of (es_at p h) ∙ e)

  -- an entry for the key that is found has a value
  found_none : r.value ≡ 0 → found r.key es ≤ 0
  found_none z = by_cases (dec_le (found r.key es) 0) (λ h. h) (λ h. absurd (some (omega arith)))
    where
      p : ℕ
      p = found r.key es

      some : 1 ≤ p → ⊥
      some one =
          let h : p ≤ r.position = omega (arith, found_le r.key es, es_long) in
          let e = value_of (es_at p h) in
          omega (arith, read.valued p one h (key_of (sym (es_at p h)) ∙ found_key r.key es one), latest_found r.key es, read.value)

-- ---- what it takes in

-- a is asked in x, w is any moment up to x, and r is read in the later y
module _ {z : Opening} {w x y : Cluster} (W : Now z w) (Y : Now z y)
    (wx : Walk (quorums z) (seen_cluster w) (seen_cluster x)) (xy : Walk (quorums z) (seen_cluster x) (seen_cluster y))
    {a : ℕ} {r : Reading} (asked : Asked x a r) (read : Read y r) where
  seen : (s k : ℕ) → k ≤ (server_at w s).head.commit → NewestSeen (view w) (view x) (view y) a r.server s k
  seen s k cov =
      S.newest (fresh_seen z.servers z.followers) W.walk wx xy a r.server asked.primary (rw (asked.position, asked.term) at read.answers) s k cov

  module _ (s k : ℕ) (hs : s < z.servers) (cov : k ≤ (server_at w s).head.commit) where
    abbrev q : ℕ
    q = r.server

    abbrev m : ℕ
    m = r.position

    long_w : k ≤ length_of (server_at w s).log
    long_w = omega (arith, commit_within (fresh_seen z.servers z.followers) W.walk s)

    long_y : m ≤ length_of (server_at y q).log
    long_y = omega (arith, commit_within (fresh_seen z.servers z.followers) Y.walk q, read.answers.reached)

    log_w : FitsLog (server_at w s).log
    log_w = (W.fits.each s (omega (arith, W.few))).log

    log_y : FitsLog (server_at y q).log
    log_y = (Y.fits.each q (omega (arith, read.counted, Y.counted, Y.few))).log

    below : k < m
    below = omega (arith, (seen s k cov).below, asked.position)

    -- the first k entries that are read are those of s
    same : first_of w s k ≡ take k (first_of y q m)
    same =
        first_same (server_at w s) (server_at y q) log_w log_y long_w (seen s k cov).holds
        ∙ sym (take-take k m (live (server_at y q).log) (omega (arith, below)))

    same_at : (p : ℕ) → p ≤ k → entry_of w s p ≡ entry_of y q p
    same_at p h = P.first_same k (live (server_at w s).log) (first_of y q m) same p h ∙ es_at read long_y p (omega (arith, below))

    newer_time : (p : ℕ) → k < p → p ≤ m → is_before (entry_of w s k).time (entry_of y q p).time ≡ true
    newer_time p l h =
        rw (same_at k (omega arith))
        (stamp_before (entry_of y q k).time (entry_of y q p).time (fits_time (server_at y q).log log_y p)
        (times_ordered (fresh_seen z.servers z.followers) Y.walk q k p l (omega (arith, long_y))))

    shown : NewestValue w y s k r
    shown = by_cases (dec_le p k) those (λ h. above (omega arith))
      where
        p : ℕ
        p = found r.key (first_of y q m)

        those : p ≤ k → NewestValue w y s k r
        those h =
            last_of_those (ap (latest_value r.key) same ∙ latest_first r.key k (first_of y q m) (omega (arith, below, es_long read long_y)) h ∙ read.value)
            (none_above read long_y k h)

        above : k < p → NewestValue w y s k r
        above l =
            let h : p ≤ m = omega (arith, found_le r.key (first_of y q m), es_long read long_y) in
            let e = es_at read long_y p h in
            of_a_newer p l h (key_of (sym e) ∙ found_key r.key (first_of y q m) (omega arith))
            (value_of (sym e) ∙ sym (latest_found r.key (first_of y q m)) ∙ read.value) (newer_time p l h)

    nothing : r.value ≡ 0 → NoneFor w s r.key 0 k × NoneFor y q r.key k m
    nothing z =
        let f = found_none read long_y z in
        (λ p l h e. none_above read long_y 0 f p l (omega (arith, below)) (key_of (sym (same_at p h)) ∙ e), none_above read long_y k (omega arith))

    taken_in : TakenIn w y s k r
    taken_in =
        record {
          whole = length-take-le k (live (server_at w s).log) long_w;
          below = below;
          beginning = first_beginning k (live (server_at w s).log) (first_of y q m) long_w (omega (arith, below, es_long read long_y)) same;
          newest = shown;
          none = nothing;
        }

-- ---- the promise

pub newest_read : NewestPromised
newest_read w x y a r t f wx asked xy answered =
    let W = reached f in
    let X = led W wx in
    let A = asked_of x X.later.fits a r t asked in
    let N = next X.later (comes (WritesNothing a)) (A.fits, λ e. not_both false e refl) in
    let Y = then N (led N.later xy) in
    let R = read_of y Y.later.fits r answered in
    record {
      same_server = (seen W Y.later X.walk Y.walk A R 0 0 (omega arith)).same_server;
      taken_in = λ s k l one cov. taken_in W Y.later X.walk Y.walk A R s k (omega (arith, W.counted)) cov;
    }
