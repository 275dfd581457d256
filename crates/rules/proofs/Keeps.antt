-- Every step that fits keeps what the types give and well-formedness, from every well-formed record, reached or not. Assumes nothing.
use Rattle.std.proofs.Common.{Option, None, Some}
use Rattle.std.specs.Option.{option_and_then}
use mathlib.Core.Path.{◌≡◌, refl, ap, sym}
use mathlib.Core.Bool.{Bool, true, false, cond, not, ◌||◌}
use mathlib.Core.Logic.{◌≢◌, inl, inr, ⊎_elim}
use Prim.Native.Nat.{ℕ, ◌<◌, ◌≤◌}
use native.Mathlib.Omega.{arith}
use lib.Dec.{eqb, ltb}
use borrow.Author.Tests.{eqb-false, ltb-true, leb-true, lt-ltb, le-ltb, not-true}
use Rattle.base.proofs.Bools.{and_left, and_right, or_cases, not_both}
use Rattle.base.proofs.Every.{every_at}
use Rattle.base.proofs.Greatest.{greatest_above, greatest_below}
use Rattle.clock.specs.Times.{limit}
use Rattle.clock.proofs.Order.{before_itself, later_left}
use Rattle.server_log.specs.Logs.{length_of}
use Rattle.server_log.specs.Order.{no_key}
use Rattle.mail.specs.declared.Report.{Report}
use Rattle.mail.specs.Ranges.{FitsReport}
use Rattle.mail.proofs.Good.{UsedReport, SourceGood}
use Rattle.mail.proofs.Kept.{received_good, oldest_used}
use Rattle.mail.proofs.Ranges.{fits_received, fits_report_at}
use Rattle.cluster.specs.declared.Server.{Server}
use Rattle.cluster.specs.declared.Cluster.{Cluster}
use Rattle.cluster.specs.Ranges.{Fits}
use Rattle.cluster.specs.Servers.{fresh_cluster, server_count, zero_server, server_at, with_server, voted_of, elected_all, clocked_of, clocks_set}
use Rattle.cluster.specs.Sets.{member}
use Rattle.cluster.specs.WellFormed.{well_formed}
use Rattle.cluster.proofs.Fresh.{good_fresh, fits_fresh}
use Rattle.cluster.proofs.Good.{size_good, Good, good, well_formed_lem}
use Rattle.cluster.proofs.Masks.{within_member, apart_member}
use Rattle.steps.specs.declared.Outcome.{Outcome}
use Rattle.steps.specs.declared.Step.{Step}
use Rattle.steps.specs.declared.Step.TheVariants.{Start, Elect, StepDown, Hears, Pulls, RollsBack, Writes, Advances, WallClock, Restarts, LocalRead, MajorityRead, Acknowledged, ClocksAgree, WritesNothing, NewestRead, TakesReport}
use Rattle.steps.specs.Answers.{report_to}
use Rattle.base.specs.Numbers.{byte}
use Rattle.steps.specs.Ranges.{FitsStep}
use Rattle.steps.specs.Reasons.{Clear}
use Rattle.wholes.specs.Elects.{may_vote, all_may_vote, elect_rules, new_term}
use Rattle.wholes.proofs.Voting.{taking}
use Rattle.counts.specs.Advances.{passes, advance_rules, advance_done}
use Rattle.counts.proofs.Passing.{passing_passes}
use Rattle.wholes.specs.Starts.{start_rules}
use Rattle.wholes.specs.ClocksAgree.{greatest_clock}
use Rattle.pairs.specs.Hears.{heard_of}
use Rattle.pairs.specs.Pulls.{took_of}
use Rattle.pairs.specs.Reports.{report_of, sent_of}
use Rattle.singles.specs.Appends.{stamped_of}
use Rattle.singles.specs.TakesReport.{take_rules, oldest_of, forwards, take_done}
use Rattle.rules.specs.Rules.{delivered, put_back, row_of, rules_of, done_of, is_start, step_of}
use Rattle.rules.proofs.Outcomes.{step_done, StepDone, step_cases}
use Rattle.rules.proofs.Others.{voted_inside, voted_outside, clocked_counted, clocked_past}
use Rattle.rules.proofs.Servers.{mail_set, sourced_sound, report_used, report_fits, taken_sound, pulled_some, rolled_some, down_sound, wall_sound, restarted_sound, committed_sound, voted_sound, heard_sound, pulled_sound, rolled_sound, appended_sound}
use Rattle.rules.proofs.Ranges.{fits_later}
use Rattle.cluster.proofs.Sound.{ServerSound, Sound, counted_sound}
use Rattle.rules.proofs.Records.{replaced_sound, changed_sound}

-- ---- what is done keeps the record

-- a member of a set that may elect s may vote for it
pub voter_may : (c : Cluster) (s : Server) (m : ℕ) → all_may_vote c s m ≡ true → (i : ℕ) → i < server_count c → member m i ≡ true → may_vote s (server_at c i) ≡ true
unfolding all_may_vote
voter_may c s m k i l e =
    ⊎_elim (λ n. not_both (member m i) e (not-true (member m i) n)) (λ v. v) (or_cases (not (member m i)) _ (every_at _ (server_count c) i k l))

module _ {c : Cluster} (h : Sound c) where
  -- a number below the server count is a counted server's
  counted : (a : ℕ) → ltb a (server_count c) ≡ true → a < c.count
  counted a e = omega (arith, ltb-true a (server_count c) e)

  at : (a : ℕ) → ltb a (server_count c) ≡ true → ServerSound c.count a (server_at c a)
  at a e = counted_sound h a (counted a e)

  -- no step but an election makes a primary
  put : (a : ℕ) (s : Server) → ltb a (server_count c) ≡ true → (ServerSound c.count a (server_at c a) → ServerSound c.count a s)
      → (s.head.primary ≡ true → (server_at c a).head.primary ≡ true) → Sound (with_server c a s)
  put a s e new role = replaced_sound h a s (counted a e) (new (at a e)) (λ p. h.good.primaries_vote a (counted a e) (role p))

  -- a member has a term not above a's and is no follower, and none votes from past the count
  elected_sound : (a m : ℕ) → m < byte → Clear (elect_rules c a m) → Sound (elected_all c a m (new_term c a))
  unfolding may_vote
  elected_sound a m small k =
      changed_sound h (voted_of a m (new_term c a)) (λ i l. new i l (member m i) refl) (λ i l. votes i l (member m i) refl)
      (λ i l. voted_outside a m (new_term c a) i zero_server (none i l (member m i) refl))
    where
      up : (i : ℕ) → i < c.count → member m i ≡ true → (server_at c i).head.term < new_term c a
      up i l e =
          let v = voter_may c (server_at c a) m k.1.1.1.0 i (omega (arith, h.good.at_most_seven)) e in
          omega (arith, leb-true (server_at c i).head.term (server_at c a).head.term (and_left _ _ v))

      new : (i : ℕ) → i < c.count → (b : Bool) → member m i ≡ b → ServerSound c.count i (voted_of a m (new_term c a) i (server_at c i))
      new i l true e =
          rw (voted_inside a m (new_term c a) i (server_at c i) e)
          (voted_sound (counted_sound h i l) (new_term c a) (eqb i a) (up i l e) (omega (arith, ltb-true (server_at c a).head.term limit k.1.1.1.1.0)))
      new i l false e = rw (voted_outside a m (new_term c a) i (server_at c i) e) (counted_sound h i l)

      votes : (i : ℕ) → i < c.count → (b : Bool) → member m i ≡ b → (voted_of a m (new_term c a) i (server_at c i)).head.primary ≡ true → member c.followers i ≡ false
      votes i l true e p = apart_member m c.followers i small (taking k.0).apart e
      votes i l false e p = h.good.primaries_vote i l (rw (voted_outside a m (new_term c a) i (server_at c i) e) at p)

      none : (i : ℕ) → c.count ≤ i → (b : Bool) → member m i ≡ b → b ≡ false
      none i l true e = absurd (omega (arith, within_member m (server_count c) i small (taking k.0).within e))
      none i l false e = refl

  -- the greatest clock is not below any clock, and fits as they do
  agreed_sound : Sound (clocks_set c (greatest_clock c))
  agreed_sound =
      changed_sound h (clocked_of c.count (greatest_clock c))
      (λ i l. rw (clocked_counted c.count (greatest_clock c) i (server_at c i) (lt-ltb i c.count l))
      (wall_sound (counted_sound h i l) (greatest_clock c) (from i l) to))
      (λ i l p. h.good.primaries_vote i l (rw (clocked_counted c.count (greatest_clock c) i (server_at c i) (lt-ltb i c.count l)) at p))
      (λ i l. clocked_past c.count (greatest_clock c) i zero_server (le-ltb i c.count l))
    where
      from : (i : ℕ) → i < c.count → 1 ≤ greatest_clock c
      from i l =
          omega (
            arith,
            greatest_above (λ j. (server_at c j).head.wall) (server_count c) i (omega (arith, h.good.at_most_seven)),
            (h.good.counted i l).wall_clock,
          )

      to : greatest_clock c ≤ limit
      to = greatest_below (λ j. (server_at c j).head.wall) (server_count c) limit (λ i l. (h.fits.each i (omega arith)).head.wall)

  -- a position that passes is one of the log
  advanced_sound : (a : ℕ) → Clear (advance_rules c a) → Sound (advance_done c a).cluster
  unfolding passes
  advanced_sound a k =
      let p = passing_passes (server_count c) c.followers (server_at c a) a (leb-true 1 _ k.1.1.0) in
      let up = ltb-true (server_at c a).head.commit _ (and_left _ _ p) in
      let to = leb-true _ (length_of (server_at c a).log) (and_left _ _ (and_right (ltb (server_at c a).head.commit _) _ p)) in
      put a _ k.0 (λ x. committed_sound x _ (omega arith) to) (λ r. r)

-- a used report that a counted server is sent
delivered_sound : {c : Cluster} → Sound c → (b : ℕ) (r : Report) → b < c.count → UsedReport c.count r → FitsReport r → Sound (delivered c (report_to b r))
unfolding delivered
delivered_sound h b r l used fits =
    replaced_sound h b _ l (let x = counted_sound h b l in mail_set x (fits_received x.fits.mail fits) (received_good x.mailed used))
    (h.good.primaries_vote b l)

-- servers that are not the same
apart : (a b : ℕ) → not (eqb a b) ≡ true → b ≢ a
apart a b e q = eqb-false a b (not-true (eqb a b) e) (sym q)

-- a server that took over entries, its source and its report
sent_sound : {c : Cluster} (h : Sound c) (a b : ℕ) (s : Server) → ltb a (server_count c) ≡ true → ltb b (server_count c) ≡ true → not (eqb a b) ≡ true
    → (ServerSound c.count a (server_at c a) → ServerSound c.count b (server_at c b) → ServerSound c.count a s × (1 ≤ length_of s.log))
    → (s.head.primary ≡ true → (server_at c a).head.primary ≡ true) → Sound (delivered (with_server c a (sent_of a b s).server) (report_to b (report_of a s)))
sent_sound h a b s la lb ne new role =
    let few = h.good.at_most_seven in
    let l = counted h a la in
    let x = new (at h a la) (at h b lb) in
    delivered_sound (replaced_sound h a _ l (sourced_sound x.0 b (counted h b lb) (apart a b ne) few) (λ p. h.good.primaries_vote a l (role p))) b (report_of a s) (counted h b lb)
    (report_used x.0 l x.1) (report_fits x.0 (omega (arith, l, few)))

-- the oldest report, taken and sent on to the source where there is one
took_report : {c : Cluster} → Sound c → (a : ℕ) → a < c.count → Clear (take_rules (server_at c a)) → Sound (put_back c a (take_done (server_at c a))).cluster
unfolding forwards delivered
took_report {c} h a l k = go s.head.primary s.mail.source x.mailed.source
  where
    s : Server
    s = server_at c a

    x : ServerSound c.count a s
    x = counted_sound h a l

    d : Sound (with_server c a (take_done s).server)
    d = replaced_sound h a _ l (taken_sound x k) (h.good.primaries_vote a l)

    go : (p : Bool) (source : Option ℕ) → SourceGood c.count a source
        → Sound (delivered (with_server c a (take_done s).server) (cond p None (option_and_then (λ b. report_to b (oldest_of s)) source)))
    go true source g = d
    go false None g = d
    go false (Some b) g =
        delivered_sound d b (oldest_of s) g.within (oldest_used x.mailed.queue (leb-true 1 s.mail.queue.len k.0)) (fits_report_at x.fits.mail.queue 0)

-- a start needs nothing of the record before
done_sound : (c : Cluster) (s : Step) → (is_start s ≡ false → Sound c) → FitsStep s → Clear (rules_of c s) → Sound (done_of c s).cluster
unfolding row_of delivered heard_of took_of stamped_of
done_sound c (Start n m) h f k = record { fits = fits_fresh n m (size_good k.0).at_most_seven f.set; good = good_fresh n m k.0 }
done_sound c (Elect a m) h f k = elected_sound (h refl) a m f.set k
done_sound c (StepDown a) h f k = put (h refl) a _ k.0 down_sound (λ p. not_both false p refl)
done_sound c (Hears a b) h f k = put (h refl) a _ k.0 (λ x. heard_sound x (at (h refl) b k.1.0)) (λ p. and_left _ _ p)
done_sound c (Pulls a b) h f k =
    sent_sound (h refl) a b _ k.0 k.1.0 k.1.1.0 (λ x y. (pulled_sound x y k.1.1.1, pulled_some x y k.1.1.1)) (λ p. p)
done_sound c (RollsBack a b) h f k =
    sent_sound (h refl) a b _ k.0 k.1.0 k.1.1.0 (λ x y. (rolled_sound x y k.1.1.1, rolled_some x y k.1.1.1)) (λ p. p)
done_sound c (Writes a key value client) h f k =
    put (h refl) a _ k.0 (λ x. appended_sound x key value f.key f.number (inl (leb-true _ _ k.1.0, leb-true _ _ k.1.1.0))
    _ (fits_later _ client x.fits.head.time f.time) (later_left (server_at c a).head.time client) k.1.1.1.1) (λ p. p)
done_sound c (Advances a) h f k = advanced_sound (h refl) a k
done_sound c (WallClock a) h f k = put (h refl) a _ k.0 (λ x. wall_sound x _ (omega arith) (omega (arith, ltb-true (server_at c a).head.wall limit k.1.0))) (λ p. p)
done_sound c (Restarts a) h f k = put (h refl) a _ k.0 restarted_sound (λ p. not_both false p refl)
done_sound c (LocalRead a key asked) h f k = put (h refl) a _ k.0 (λ x. x) (λ p. p)
done_sound c (MajorityRead a key asked) h f k = put (h refl) a _ k.0 (λ x. x) (λ p. p)
done_sound c (Acknowledged a n position term) h f k = put (h refl) a _ k.0 (λ x. x) (λ p. p)
done_sound c ClocksAgree h f k = agreed_sound (h refl)
done_sound c (WritesNothing a) h f k = put (h refl) a _ k.0 (λ x. appended_sound x no_key 0 (omega arith) (omega arith) (inr (refl, refl)) _ x.fits.head.time (before_itself (server_at c a).head.time) k.1) (λ p. p)
done_sound c (NewestRead a key n term) h f k = put (h refl) a _ k.0 (λ x. x) (λ p. p)
done_sound c (TakesReport a) h f k = took_report (h refl) a (counted (h refl) a k.0) k.1

-- ---- every step keeps it

-- a record that a step other than a start looked at is well formed
seen_sound : (c : Cluster) (s : Step) → Fits c → (is_start s || well_formed c) ≡ true → is_start s ≡ false → Sound c
seen_sound c s f e n = record { fits = f; good = good c f (⊎_elim (λ y. not_both (is_start s) y n) (λ w. w) (or_cases (is_start s) (well_formed c) e)) }

step_sound : (c : Cluster) (s : Step) → Fits c → FitsStep s → StepDone c s → Sound (step_of c s).cluster
step_sound c s f fs d = rw d.is (done_sound c s (seen_sound c s f d.seen) fs d.clear)

pub step_fits : (c : Cluster) (s : Step) → Fits c → FitsStep s → Fits (step_of c s).cluster
step_fits c s f fs = ⊎_elim (λ d. (step_sound c s f fs d).fits) (λ d. rw d.is f) (step_cases c s)

pub step_good : (c : Cluster) (s : Step) → Fits c → FitsStep s → Good c → Good (step_of c s).cluster
step_good c s f fs g = ⊎_elim (λ d. (step_sound c s f fs d).good) (λ d. rw d.is g) (step_cases c s)

pub step_well_formed : (c : Cluster) (s : Step) → Fits c → FitsStep s → well_formed c ≡ true → well_formed (step_of c s).cluster ≡ true
step_well_formed c s f fs w = well_formed_lem (step_of c s).cluster (step_good c s f fs (good c f w))

-- a start that succeeds gives the fresh cluster, which is well formed, from any record
pub start_fresh : (c : Cluster) (n f : ℕ) → Clear (start_rules n f) → (step_of c (Start n f)).cluster ≡ fresh_cluster n f
unfolding row_of
start_fresh c n f k = ap (λ (o : Outcome). o.cluster) (step_done c (Start n f) refl k)

pub start_good : (c : Cluster) (n f : ℕ) → Clear (start_rules n f) → Good (step_of c (Start n f)).cluster
start_good c n f k = rw (start_fresh c n f k) (good_fresh n f k.0)
