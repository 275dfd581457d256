-- Kinds 2, 3, 8 to 13, 15 and 16 as the view shows them: no log changes, and a commit point stays, is lost or is heard.
-- Assumes nothing.
use mathlib.Core.Path.{◌≡◌, refl, ap}
use mathlib.Core.Bool.{Bool, true, false, cond}
use Prim.Native.Nat.{ℕ}
use native.Mathlib.Omega.{arith}
use lib.Dec.{ltb}
use borrow.Author.Tests.{ltb-true, ltb-false, not-true}
use Rattle.base.proofs.Bools.{and_left, and_right, not_both}
use Rattle.clock.specs.declared.Time.{Time}
use Rattle.server_log.proofs.Equal.{equal_at_lem}
use Rattle.cluster.specs.declared.Server.{Server}
use Rattle.cluster.specs.declared.Cluster.{Cluster}
use Rattle.cluster.specs.Ranges.{Fits}
use Rattle.cluster.specs.Servers.{with_wall, with_head, server_count, server_at, clocked_of}
use Rattle.steps.specs.declared.Step.{Step}
use Rattle.steps.specs.declared.Step.TheVariants.{StepDown, Hears, WallClock, Restarts, LocalRead, MajorityRead, Acknowledged, ClocksAgree, NewestRead, TakesReport}
use Rattle.steps.specs.declared.Stepped.{Stepped}
use Rattle.steps.specs.Reasons.{Clear}
use Rattle.pairs.specs.Hears.{takes_commit, heard_of, hears_of}
use Rattle.singles.specs.StepsDown.{down_done}
use Rattle.singles.specs.WallClock.{clock_done}
use Rattle.singles.specs.Restarts.{restarts_of}
use Rattle.reads.specs.Acknowledged.{acknowledge_done}
use Rattle.reads.specs.LocalRead.{local_done}
use Rattle.reads.specs.MajorityRead.{majority_done}
use Rattle.reads.specs.NewestRead.{newest_done}
use Rattle.singles.specs.TakesReport.{take_done}
use Rattle.wholes.specs.ClocksAgree.{greatest_clock}
use Rattle.rules.specs.Rules.{put_back, row_of, rules_of, done_of}
use Rattle.safety.specs.Quorum.{Quorums}
use Rattle.safety.specs.Cluster.{ServerSeen}
use Rattle.safety.specs.Steps.{Settles, stays, restarts, hears, unmoved, Rests, Goes}
use Rattle.safety.specs.View.{seen_entry, seen_server, view, told_in}
use Rattle.safety.proofs.Joins.{alone, unchanged}
use Rattle.safety.proofs.Views.{here, others, not_shown, changed_view}

-- a step whose rules are clear is one of the theory
abbrev pub Sees : Quorums → Cluster → Step → Type 0
Sees 𝓠 c s = Clear (rules_of c s) → Goes 𝓠 (told_in c) (view c) (view (done_of c s).cluster)

-- the wall clock is not seen
clocked_seen : (n w i : ℕ) (s : Server) → seen_server (clocked_of n w i s) ≡ seen_server s
unfolding clocked_of
clocked_seen n w i s = go (ltb i n)
  where
    go : (b : Bool) → seen_server (cond b (with_head s (with_wall s.head w)) s) ≡ seen_server s
    go true = refl
    go false = refl

-- a primary that hears a higher term is none
heard_rests : (s t : Server) → Rests (seen_server s) (seen_server (heard_of s t))
unfolding heard_of
heard_rests s t =
    record {
      keeps = record { len = refl; log = refl };
      raised = omega arith;
      role = λ p. and_left _ _ p;
      unraised = λ p. omega (arith, ltb-false s.head.term t.head.term (not-true _ (and_right s.head.primary _ p)));
    }

-- b's commit point is taken only with an equal entry there
heard_settles : (c : Cluster) (a b : ℕ) → Settles (view c) a (heard_of (server_at c a) (server_at c b)).head.commit
unfolding heard_of takes_commit
heard_settles c a b = go (takes_commit (server_at c a) (server_at c b)) refl
  where
    go : (x : Bool) → takes_commit (server_at c a) (server_at c b) ≡ x → Settles (view c) a (cond x (server_at c b).head.commit (server_at c a).head.commit)
    go true e =
        let l = ltb-true (server_at c a).head.commit (server_at c b).head.commit (and_left _ _ e) in
        let q = equal_at_lem _ _ (server_at c b).head.commit (and_right (ltb (server_at c a).head.commit (server_at c b).head.commit) _ e) in
        hears b refl (omega arith) q.left (ap seen_entry q.same)
    go false e = stays refl

-- a server that is secondary afterwards, whatever its commit point
lowered : (r : ServerSeen) (k : ℕ) → Rests r (record { len = r.len; log = r.log; term = r.term; primary = false; commit = k; mark = r.mark })
lowered r k = record { keeps = record { len = refl; log = refl }; raised = omega arith; role = λ p. not_both false p refl; unraised = λ p. refl }

module _ {𝓠 : Quorums} (c : Cluster) (f : Fits c) where
  quietly : (a : ℕ) → ltb a (server_count c) ≡ true → (o : Stepped) → Rests (view c a) (seen_server o.server)
      → Settles (view c) a o.server.head.commit → Goes 𝓠 (told_in c) (view c) (view (put_back c a o).cluster)
  quietly a l o r t = alone (others c f a l o) (rw (here c f a l o) (record { rests = r; settles = t; marks = unmoved refl }))

  pub sees_down : (a : ℕ) → Sees 𝓠 c (StepDown a)
  unfolding row_of
  sees_down a h = quietly a h.0 (down_done (server_at c a)) (lowered (view c a) (view c a).commit) (stays refl)

  pub sees_restart : (a : ℕ) → Sees 𝓠 c (Restarts a)
  unfolding row_of
  sees_restart a h = quietly a h.0 (restarts_of (server_at c a)) (lowered (view c a) 0) (restarts refl)

  pub sees_hears : (a b : ℕ) → Sees 𝓠 c (Hears a b)
  unfolding row_of
  sees_hears a b h =
      quietly a h.0 (hears_of (server_at c a) (server_at c b)) (heard_rests (server_at c a) (server_at c b)) (heard_settles c a b)

  pub sees_clock : (a : ℕ) → Sees 𝓠 c (WallClock a)
  unfolding row_of
  sees_clock a h = not_shown c f a h.0 (clock_done (server_at c a)) refl

  pub sees_local : (a key : ℕ) (asked : Time) → Sees 𝓠 c (LocalRead a key asked)
  unfolding row_of
  sees_local a key asked h = not_shown c f a h.0 (local_done (server_at c a) key) refl

  pub sees_majority : (a key : ℕ) (asked : Time) → Sees 𝓠 c (MajorityRead a key asked)
  unfolding row_of
  sees_majority a key asked h = not_shown c f a h.0 (majority_done (server_at c a) key) refl

  pub sees_acknowledged : (a k n term : ℕ) → Sees 𝓠 c (Acknowledged a k n term)
  unfolding row_of
  sees_acknowledged a k n term h = not_shown c f a h.0 (acknowledge_done (server_at c a) n) refl

  pub sees_newest : (a key n term : ℕ) → Sees 𝓠 c (NewestRead a key n term)
  unfolding row_of
  sees_newest a key n term h = not_shown c f a h.0 (newest_done (server_at c a) key n) refl

  pub sees_take : (a : ℕ) → Sees 𝓠 c (TakesReport a)
  unfolding row_of
  sees_take a h = not_shown c f a h.0 (take_done (server_at c a)) refl

pub sees_agree : {𝓠 : Quorums} (c : Cluster) → Sees 𝓠 c ClocksAgree
unfolding row_of
sees_agree c h =
    unchanged (λ i. changed_view (clocked_of c.count (greatest_clock c)) c i (clocked_seen c.count (greatest_clock c) i (server_at c i)))
