-- Wall clocks never fall, and no time runs more than 600 ahead of the greatest of them.
-- Assumes nothing.
use mathlib.Core.Path.{◌≡◌, refl, ap, sym, ◌∙◌, subst}
use mathlib.Core.Bool.{Bool, true, false, cond}
use mathlib.Core.Logic.{◌≢◌, ⊎_elim}
use mathlib.Core.List.{List, [], ◌∷◌}
use Prim.Native.Nat.{ℕ, ◌+◌, ◌≤◌, ◌<◌}
use native.Mathlib.Nat.{le_trans}
use native.Mathlib.Omega.{arith}
use lib.Dec.{eqb, ltb}
use borrow.Author.Tests.{ltb-true, leb-true}
use Rattle.base.proofs.Greatest.{greatest_above, greatest_below}
use Rattle.clock.specs.declared.Time.{Time}
use Rattle.clock.specs.Times.{later_of}
use Rattle.clock.proofs.Order.{not_before_lem, later_either}
use Rattle.clock.proofs.Ticks.{tick_p}
use Rattle.server_log.specs.Entries.{applied_time, entry_at}
use Rattle.server_log.specs.Logs.{live}
use Rattle.server_log.proofs.Orderly.{not_after_last}
use Rattle.cluster.specs.declared.Server.{Server}
use Rattle.cluster.specs.declared.Cluster.{Cluster}
use Rattle.cluster.specs.Servers.{server_count, server_at, with_server, voted_of, elected_all, clocked_of, clocks_set}
use Rattle.cluster.specs.Sets.{member}
use Rattle.cluster.proofs.Good.{Good, ServerGood, good}
use Rattle.steps.specs.declared.Step.{Step}
use Rattle.steps.specs.declared.Step.TheVariants.{Start, Elect, StepDown, Hears, Pulls, RollsBack, Writes, Advances, WallClock, Restarts, LocalRead, MajorityRead, Acknowledged, ClocksAgree, WritesNothing, NewestRead, TakesReport}
use Rattle.steps.specs.declared.Answer.TheVariants.{Done}
use Rattle.steps.specs.declared.Outcome.{Outcome}
use Rattle.steps.specs.declared.Stepped.{Stepped}
use Rattle.steps.specs.Reasons.{Clear}
use Rattle.pairs.specs.Hears.{heard_of, hears_of}
use Rattle.pairs.specs.Pulls.{took_of, pull_done}
use Rattle.pairs.specs.RollsBack.{roll_done}
use Rattle.singles.specs.Appends.{append_rules, stamped_of}
use Rattle.singles.specs.Writes.{most_ahead, write_done}
use Rattle.singles.specs.WritesNothing.{nothing_done}
use Rattle.singles.specs.StepsDown.{down_done}
use Rattle.singles.specs.WallClock.{clock_done}
use Rattle.singles.specs.Restarts.{restarts_of}
use Rattle.reads.specs.Acknowledged.{acknowledge_done}
use Rattle.reads.specs.LocalRead.{local_done}
use Rattle.reads.specs.MajorityRead.{majority_done}
use Rattle.reads.specs.NewestRead.{newest_done}
use Rattle.singles.specs.TakesReport.{take_done}
use Rattle.wholes.specs.Elects.{new_term}
use Rattle.wholes.specs.ClocksAgree.{greatest_clock}
use Rattle.wholes.specs.Starts.{Opening, fresh_of}
use Rattle.rules.specs.Rules.{put_back, row_of, rules_of, done_of, is_start, step_of}
use Rattle.rules.proofs.Appends.{stamp_from, ticked}
use Rattle.rules.proofs.Others.{office_of, wall_of, put_either, changed_either, delivered_queue, delivered_size}
use Rattle.rules.proofs.Outcomes.{StepDone, step_cases}
use Rattle.promises.specs.Runs.{Event, comes, overnight, happens, run_to, GoesOn, Onward, LeadsTo}
use Rattle.promises.specs.Clocks.{ClocksHeld, NotFallen, ClocksPromised}
use Rattle.safety.proofs.Views.{fresh_each}
use Rattle.safety.proofs.Stepped.{Now, begun}
use Rattle.promises.proofs.Turns.{given_back, next, reached}

-- no wall clock is above the greatest
clock_le : (c : Cluster) (i : ℕ) → i < server_count c → (server_at c i).head.wall ≤ greatest_clock c
clock_le c = greatest_above (λ j. (server_at c j).head.wall) (server_count c)

-- ---- what each kind does to the clocks

-- t's wall clock is not below s's, and the p of its cluster time is not above m
abbrev ClockKept : ℕ → Server → Server → Type 0
ClockKept m s t = (s.head.wall ≤ t.head.wall) × (t.head.time.p ≤ m)

-- so it is of every server from c to d
record ClocksKept (m : ℕ) (c d : Cluster) : Type 0 where
  count : d.count ≡ c.count
  each : (i : ℕ) → ClockKept m (server_at c i) (server_at d i)

-- an applied time is not past the cluster time
applied_p : {s : Server} → ServerGood s → (applied_time (live s.log)).p ≤ s.head.time.p
applied_p {s} g = (not_before_lem (applied_time (live s.log)) s.head.time g.last_time).le

module _ (c : Cluster) (g : Good c) (m : ℕ) (walls : (i : ℕ) → i < server_count c → (server_at c i).head.wall + most_ahead ≤ m) (times : (i : ℕ) → (server_at c i).head.time.p ≤ m) where
  same : (i : ℕ) → ClockKept m (server_at c i) (server_at c i)
  same i = (omega arith, times i)

  put : (a : ℕ) (t : Server) → ClockKept m (server_at c a) t → ClocksKept m c (with_server c a t)
  put a t h =
      record { count = refl; each = λ i. put_either (ClockKept m (server_at c i)) c a t i (λ e. subst (λ (k : ℕ). ClockKept m (server_at c k) t) (sym e) h) (same i) }

  back : (a : ℕ) (o : Stepped) → ClockKept m (server_at c a) o.server → ClocksKept m c (put_back c a o).cluster
  back a o h =
      let d = with_server c a o.server in
      record {
        count = (delivered_size d o.sends).0;
        each = λ i. subst (ClockKept m (server_at c i)) (sym (delivered_queue d o.sends i)) ((put a o.server h).each i);
      }

  elected : (a k : ℕ) → ClocksKept m c (elected_all c a k (new_term c a))
  unfolding voted_of
  elected a k = record { count = refl; each = λ i. changed_either (ClockKept m (server_at c i)) (voted_of a k (new_term c a)) c i (go i (member k i)) (same i) }
    where
      go : (i : ℕ) (b : Bool) → ClockKept m (server_at c i) (cond b (office_of (server_at c i) (new_term c a) (eqb i a)) (server_at c i))
      go i true = same i
      go i false = same i

  agreed : ClocksKept m c (clocks_set c (greatest_clock c))
  unfolding clocked_of
  agreed =
      record {
        count = refl;
        each = λ i. changed_either (ClockKept m (server_at c i)) (clocked_of c.count (greatest_clock c)) c i (go i (ltb i c.count) refl) (same i);
      }
    where
      go : (i : ℕ) (b : Bool) → ltb i c.count ≡ b → ClockKept m (server_at c i) (cond b (wall_of (server_at c i) (greatest_clock c)) (server_at c i))
      go i true e = (clock_le c i (omega (arith, ltb-true i c.count e, g.at_most_seven)), times i)
      go i false e = same i

  -- the later of two cluster times
  heard : (a b : ℕ) → (later_of (server_at c a).head.time (server_at c b).head.time).p ≤ m
  heard a b = later_either _ _ (λ t. t.p ≤ m) (times a) (times b)

  -- a tick from a time that is not above m
  stamped : (a : ℕ) (from : Time) → a < server_count c → from.p ≤ m → Clear (append_rules (server_at c a) from) → (stamp_from (server_at c a) from).p ≤ m
  stamped a from l h k = omega (arith, walls a l, tick_p (server_at c a).head.wall from _ (ticked (server_at c a) from k))

  done_kept : (s : Step) → (is_start s ≡ true → (done_of c s).answer ≢ Done) → Clear (rules_of c s) → ClocksKept m c (done_of c s).cluster
  unfolding row_of heard_of took_of stamped_of
  done_kept (Start n f) no_start k = absurd (no_start refl refl)
  done_kept (Elect a v) no_start k = elected a v
  done_kept (StepDown a) no_start k = back a (down_done (server_at c a)) (same a)
  done_kept (Hears a b) no_start k = back a (hears_of (server_at c a) (server_at c b)) (omega arith, heard a b)
  done_kept (Pulls a b) no_start k = back a (pull_done (server_at c a) (server_at c b) a b) (omega arith, heard a b)
  done_kept (RollsBack a b) no_start k = back a (roll_done (server_at c a) (server_at c b) a b) (omega arith, heard a b)
  done_kept (Writes a key value client) no_start k =
      let l = ltb-true a (server_count c) k.0 in
      let h : client.p ≤ m = le_trans (leb-true _ _ k.1.1.1.0) (walls a l) in
      back a (write_done (server_at c a) key value client)
      (omega arith, stamped a _ l (later_either (server_at c a).head.time client (λ t. t.p ≤ m) (times a) h) k.1.1.1.1)
  done_kept (Advances a) no_start k = put a _ (same a)
  done_kept (WallClock a) no_start k = back a (clock_done (server_at c a)) (omega arith, times a)
  done_kept (Restarts a) no_start k =
      back a (restarts_of (server_at c a)) (omega arith, le_trans (applied_p (g.counted a (omega (arith, ltb-true a (server_count c) k.0)))) (times a))
  done_kept (LocalRead a key asked) no_start k = back a (local_done (server_at c a) key) (same a)
  done_kept (MajorityRead a key asked) no_start k = back a (majority_done (server_at c a) key) (same a)
  done_kept (Acknowledged a n position term) no_start k = back a (acknowledge_done (server_at c a) position) (same a)
  done_kept ClocksAgree no_start k = agreed
  done_kept (WritesNothing a) no_start k =
      back a (nothing_done (server_at c a)) (omega arith, stamped a _ (ltb-true a (server_count c) k.0) (times a) k.1)
  done_kept (NewestRead a key n term) no_start k = back a (newest_done (server_at c a) key n) (same a)
  done_kept (TakesReport a) no_start k = back a (take_done (server_at c a)) (same a)

  step_kept : (s : Step) → (is_start s ≡ true → (step_of c s).answer ≢ Done) → ClocksKept m c (step_of c s).cluster
  step_kept s no_start = ⊎_elim is_done_lem (λ d. by d.is (record { count = refl; each = same })) (step_cases c s)
    where
      by : {o : Outcome} → step_of c s ≡ o → ClocksKept m c o.cluster → ClocksKept m c (step_of c s).cluster
      by e x = subst (λ (o : Outcome). ClocksKept m c o.cluster) (sym e) x

      is_done_lem : StepDone c s → ClocksKept m c (step_of c s).cluster
      is_done_lem d = by d.is (done_kept s (λ q a. no_start q (ap (λ (o : Outcome). o.answer) d.is ∙ a)) d.clear)

-- ---- runs

-- what is known of every record that is reached, beside what the safety theory knows
abbrev InTime : Cluster → Type 0
InTime c = (i : ℕ) → (server_at c i).head.time.p ≤ greatest_clock c + most_ahead

-- the greatest of clocks that have not fallen has not
not_fallen : {m : ℕ} {x y : Cluster} → ClocksKept m x y → NotFallen x y
not_fallen {m} {x} {y} h =
    record {
      each = λ i. (h.each i).0;
      greatest = greatest_below _ (server_count x) (greatest_clock y) (λ i l. le_trans (h.each i).0 (clock_le y i (omega (arith, h.count))));
    }

fallen_trans : {x y z : Cluster} → NotFallen x y → NotFallen y z → NotFallen x z
fallen_trans p q = record { each = λ i. le_trans (p.each i) (q.each i); greatest = le_trans p.greatest q.greatest }

fallen_refl : {c : Cluster} → NotFallen c c
fallen_refl = record { each = λ i. omega arith; greatest = omega arith }

module _ {z : Opening} where
  -- one event on
  in_time : {c : Cluster} → Now z c → InTime c → (e : Event) → GoesOn c e → InTime (happens c e) × NotFallen c (happens c e)
  in_time {c} N t (comes s) g =
      let k = step_kept c (good c N.fits N.formed) (greatest_clock c + most_ahead) (λ i l. omega (arith, clock_le c i l)) t s g.1 in
      let f = not_fallen k in
      (λ i. omega (arith, (k.each i).1, f.greatest), f)
  in_time {c} N t (overnight d) g =
      subst (λ (x : Cluster). InTime x × NotFallen c x) (sym (given_back N d)) (t, fallen_refl)

  along : {c : Cluster} → Now z c → InTime c → (es : List Event) → Onward c es → InTime (run_to c es) × NotFallen c (run_to c es)
  along N t [] h = (t, fallen_refl)
  along {c = c} N t (e ∷ es) h =
      let x = in_time N t e h.0 in
      let y = along {c = happens c e} (next N e h.0).later x.0 es h.1 in
      (y.0, fallen_trans x.1 y.1)

  onward : {c d : Cluster} → Now z c → InTime c → LeadsTo c d → InTime d × NotFallen c d
  onward {c} N t l = subst (λ (x : Cluster). InTime x × NotFallen c x) l.ends (along N t l.events l.onward)

  -- no entry's time is past the applied time
  held : {c : Cluster} → Now z c → InTime c → ClocksHeld c
  held {c} N t i l =
      let s = server_at c i in
      let g = (good c N.fits N.formed).counted i l in
      record {
        cluster_time = t i;
        entries = λ n p q. le_trans (le_trans (not_before_lem (entry_at (live s.log) n).time (applied_time (live s.log)) (not_after_last g.log.order n p q)).le (applied_p g)) (t i);
      }

pub clocks_held : ClocksPromised
clocks_held c d f l =
    let z = f.opening in
    let fresh : InTime (fresh_of z) =
    fresh_each (λ s. s.head.time.p ≤ greatest_clock (fresh_of z) + most_ahead) (omega arith) (omega arith) (omega arith) z.servers z.followers in
    let N = reached f in
    let t = (onward (begun z) fresh f.leads).0 in
    (held N t, (onward N t l).1)
