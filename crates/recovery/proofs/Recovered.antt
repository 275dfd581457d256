-- The plan gets every reached record going: refusal 9 is never given, and logs of one length and last term are the same. Assumes nothing.
use mathlib.Core.Path.{◌≡◌, refl, ap, sym, ◌∙◌, subst}
use mathlib.Core.Bool.{Bool, true, false, cond}
use mathlib.Core.List.{List, [], ◌∷◌, ◌++◌, map}
use mathlib.Core.Logic.{◌≢◌, ◌⊎◌, inl, inr, ⊎_elim, by_cases}
use Prim.Native.Nat.{ℕ, zero, suc, ◌+◌, ◌*◌, ◌≤◌, ◌<◌}
use native.Mathlib.Decide.{ℕ_discrete}
use native.Mathlib.Omega.{arith}
use lib.Dec.{ltb}
use lib.ListN.{length, take}
use lib.Seq.{take-length}
use borrow.Author.Tests.{le-leb}
use Rattle.base.specs.Numbers.{byte}
use Rattle.base.proofs.Bools.{and_both, not_both}
use Rattle.clock.specs.Times.{limit}
use Rattle.server_log.specs.declared.Entry.{Entry}
use Rattle.server_log.specs.declared.Log.{Log}
use Rattle.server_log.specs.Entries.{entry_at, equal_at}
use Rattle.server_log.specs.Logs.{live, length_of}
use Rattle.server_log.specs.Order.{highest_key}
use Rattle.server_log.specs.Ranges.{FitsLog}
use Rattle.server_log.proofs.Equal.{same_entry_refl}
use Rattle.server_log.proofs.Positions.{same_first}
use Rattle.cluster.specs.declared.Cluster.{Cluster}
use Rattle.cluster.specs.Servers.{server_count, server_at}
use Rattle.cluster.proofs.Good.{size_good, good, well_formed_lem}
use Rattle.steps.specs.declared.Answer.{Answer}
use Rattle.steps.specs.declared.Answer.TheVariants as A
use Rattle.steps.specs.declared.Outcome.{Outcome}
use Rattle.steps.specs.declared.Refusal.TheVariants.{BelowCommitPoint}
use Rattle.steps.specs.declared.Step.{Step}
use Rattle.steps.specs.declared.Step.TheVariants.{Hears, Pulls, RollsBack, TakesReport}
use Rattle.steps.specs.Answers.{is_refused}
use Rattle.steps.specs.Ranges.{FitsStep}
use Rattle.wholes.specs.Starts.{Opening}
use Rattle.rules.specs.Rules.{is_start, step_of}
use Rattle.frames.specs.Steps.{write_step}
use Rattle.replay.specs.Texts.{record_after}
use Rattle.safety.specs.Cluster.{Agree}
use Rattle.safety.specs.Steps.{stop}
use Rattle.safety.specs.View.{seen_entry}
use Rattle.safety.proofs.Joins.{matching_later}
use Rattle.safety.proofs.Stepped.{Now, now_next, never_9}
use Rattle.safety.proofs.Views.{fresh_seen, fits_time, same_entry_lem}
use Rattle.promises.specs.Runs.{comes, Onward}
use Rattle.promises.proofs.Texts.{line_is}
use Rattle.promises.proofs.Turns.{led, reached}
use Rattle.plans.specs.Moves.{Move, steps_by, turns, once, one_by_one, NoneRefused, first_refused, other}
use Rattle.plans.specs.Plan.{others, chosen, newest_server, copies, hearing, plan_lines, plan_for}
use Rattle.plans.specs.Making.{no_frames, frames_by, planned_of}
use Rattle.plans.proofs.Made.{length_steps, lines_short}
use Rattle.plans.proofs.Lines.{planned_is}
use Rattle.recovery.specs.Promise.{held_by, Going, Asked, NoLineRefused, PlanGiven, Recovers, RecoveryPromised, OnlyNine}
use Rattle.recovery.proofs.Getting.{run_by, other_every, other_below}
use Rattle.recovery.proofs.Sets.{voting_small}
use Rattle.recovery.proofs.First.{chosen_below, newest_below}
use Rattle.recovery.proofs.Standing.{Stands, counts_n}
use Rattle.recovery.proofs.Planned.{Ended, gets_ended}

-- ---- logs of one length and last term are the same

-- logs that look the same hold the same entries
same_live : (g k : Log) → FitsLog g → FitsLog k → length_of g ≡ length_of k → Agree (length_of k) (λ n. seen_entry (entry_at (live g) n)) (λ n. seen_entry (entry_at (live k) n)) → live g ≡ live k
same_live g k fg fk e h =
    sym (take-length (live g)) ∙ ap (λ (n : ℕ). take n (live g)) e
    ∙ same_first (length_of k) (live g) (live k) (omega arith) (omega arith) (λ n l. same_entry_lem _ _ (fits_time g fg n) (fits_time k fk n) (h n l)) ∙ take-length (live k)

module _ {z : Opening} {c : Cluster} (now : Now z c) where
  level_same : (i j : ℕ) → i < z.servers → j < z.servers → length (held_by c i) ≡ length (held_by c j)
      → (entry_at (held_by c i) (length (held_by c j))).term ≡ (entry_at (held_by c j) (length (held_by c j))).term → held_by c i ≡ held_by c j
  level_same i j li lj len last =
      same_live (server_at c i).log (server_at c j).log (now.fits.each i (omega (arith, now.few))).log (now.fits.each j (omega (arith, now.few))).log len
      (matching_later (fresh_seen z.servers z.followers) now.walk stop i j (length (held_by c j)) (omega arith) (omega arith) last)

-- ---- the end of the plan, in a reached record

module _ {z : Opening} {m f a key value : ℕ} {c : Cluster} (now : Now z c) (size : z.servers ≡ suc m) (e : Ended m f a key value c) where
  abbrev es : List Entry
  es = e.entries

  same : (i : ℕ) → i < suc m → held_by c i ≡ es
  same i l =
      let h = e.hearing in
      let y : length (held_by c a) ≡ length es = ap length h.leads.held in
      let li = h.level i l in
      let len : length (held_by c i) ≡ length (held_by c a) = omega (arith, li.len) in
      level_same now i a (omega arith) (omega (arith, e.tasked.below)) len
      (ap (λ (k : ℕ). (entry_at (held_by c i) k).term) (sym len) ∙ li.last ∙ sym e.tasked.last ∙ ap (λ (xs : List Entry). (entry_at xs (length xs)).term) (sym h.leads.held))
      ∙ h.leads.held

  equal_there : (i : ℕ) → i < suc m → equal_at (held_by c i) es (length es) ≡ true
  unfolding equal_at
  equal_there i l =
      rw (same i l)
      (and_both _ _ (le-leb 1 (length es) e.tasked.some)
      (and_both _ _ (le-leb (length es) (length es) (omega arith)) (and_both _ _ (le-leb (length es) (length es) (omega arith)) (same_entry_refl _))))

  covers : (i : ℕ) → i < suc m → (server_at c i).head.commit ≡ length es
  covers i l =
      by_cases (ℕ_discrete i a) (λ q. ap (λ (x : ℕ). (server_at c x).head.commit) q ∙ e.hearing.commit)
      (λ ne. let o = other_every a m i (omega (arith, e.tasked.below)) l ne in
      ap (λ (x : ℕ). (server_at c x).head.commit) (sym o.is)
      ∙ e.hearing.heard o.number o.below (equal_there (other a o.number) (other_below a o.number m o.below)))

  ended_going : Going c a key value
  ended_going =
      let h = e.hearing in
      let n : c.count ≡ suc m = h.leads.stands.counted in
      record {
        counted = omega (arith, e.tasked.below);
        primary = h.leads.primary;
        alone = λ i l. h.leads.secondary i (omega arith);
        highest = λ i l. omega (arith, h.leads.terms i (omega arith), h.leads.own);
        same = λ i l. same i (omega arith) ∙ sym h.leads.held;
        covered = λ i l. covers i (omega arith) ∙ ap length (sym (same i (omega arith)));
        wrote_key = rw h.leads.held e.wrote_key;
        wrote_value = rw h.leads.held e.wrote_value;
      }

-- ---- refusal 9 is never given

never_first : {z : Opening} (c : Cluster) → Now z c → (ss : List Step) → Onward c (map comes ss) → first_refused c ss ≢ A.Refused BelowCommitPoint
never_first c now [] k e = let y : ◌≡◌ {A = ℕ} 0 1 = cc in omega arith
never_first c now (s ∷ ss) k e = go (is_refused (step_of c s).answer) (never_first (step_of c s).cluster (now_next now s k.0.0 k.0.1) ss k.1) e
  where
    go : (b : Bool) → first_refused (step_of c s).cluster ss ≢ A.Refused BelowCommitPoint
        → cond b (step_of c s).answer (first_refused (step_of c s).cluster ss) ≢ A.Refused BelowCommitPoint
    go true ih q = never_9 now s q
    go false ih q = ih q

-- ---- the plan's steps fit

-- moves whose steps fit, and are no start, in any record
abbrev Fit : List Move → Type 0
Fit [] = Unit {0}
Fit (m ∷ ms) = ((c : Cluster) → FitsStep (m c) × (is_start (m c) ≡ false)) × Fit ms

fit_onward : (c : Cluster) (ms : List Move) → Fit ms → Onward c (map comes (steps_by c ms))
fit_onward c [] f = tt
fit_onward c (m ∷ ms) f = (((f.0 c).0, λ e. not_both (is_start (m c)) e (f.0 c).1), fit_onward (step_of c (m c)).cluster ms f.1)

fit_both : (ms ns : List Move) → Fit ms → Fit ns → Fit (ms ++ ns)
fit_both [] ns f g = g
fit_both (m ∷ ms) ns f g = (f.0, fit_both ms ns f.1 g)

fit_turns : (m : ℕ → Move) (j k : ℕ) → ((i : ℕ) → i < j + k → (c : Cluster) → FitsStep (m i c) × (is_start (m i c) ≡ false)) → Fit (turns m j k)
fit_turns m j zero f = tt
fit_turns m j (suc k) f = (f j (omega arith), fit_turns m (suc j) k (λ i l. f i (omega arith)))

fit_hearing : (c : Cluster) (a : ℕ) → a < byte → newest_server c < byte → Fit (hearing c a)
unfolding hearing
fit_hearing c a la lb = go (ltb (server_at c a).head.term (server_at c (newest_server c)).head.term)
  where
    go : (b : Bool) → Fit (cond b (once (λ d. Hears a (newest_server c))) [])
    go true = ((λ d. (omega arith, refl)), tt)
    go false = tt

fit_copies : (a b : ℕ) → a < byte → b < byte → (c : Cluster) → FitsStep (copies a b c) × (is_start (copies a b c) ≡ false)
fit_copies a b la lb c = go (is_refused (step_of c (Pulls a b)).answer)
  where
    go : (x : Bool) → FitsStep (cond x (RollsBack a b) (Pulls a b)) × (is_start (cond x (RollsBack a b) (Pulls a b)) ≡ false)
    go true = (omega arith, refl)
    go false = (omega arith, refl)

fit_plan : {n f : ℕ} {c : Cluster} (key value : ℕ) → Stands n f c → key ≤ highest_key → value ≤ limit → Fit (one_by_one (plan_lines c (chosen c) key value))
fit_plan {n} {f} {c} key value h small fits =
    let a = chosen c in
    let la : a < byte = omega (arith, chosen_below h, h.few) in
    let lb : newest_server c < byte = omega (arith, newest_below h, h.few) in
    let lk : (k : ℕ) → k < others c → other a k < byte = λ k l. omega (arith, other_below a k (others c) l, counts_n h, h.few) in
    fit_both (hearing c a) _ (fit_hearing c a la lb) (
      (λ d. (omega (arith, la, voting_small (server_count c) c.followers (omega arith)), refl)),
      (
        (λ d. (omega (arith, la, small, fits), refl)),
        fit_both (turns (λ k. copies (other a k) a) 0 (others c)) _ (fit_turns (λ k. copies (other a k) a) 0 (others c) (λ i l. fit_copies (other a i) a (lk i (omega arith)) la))
            (fit_both (turns (λ k d. TakesReport a) 0 (others c)) _ (fit_turns (λ k d. TakesReport a) 0 (others c) (λ i l d. (omega (arith, la), refl))) (
              (λ d. (omega (arith, la), refl)),
              fit_both (turns (λ k d. Hears (other a k) a) 0 (others c)) [] (fit_turns (λ k d. Hears (other a k) a) 0 (others c) (λ i l d. (let z = lk i (omega arith) in omega (arith, la), refl))) tt,
            )),
      ),
    )

-- ---- as lines

no_line : (c : Cluster) (ss : List Step) → Onward c (map comes ss) → NoneRefused c ss → NoLineRefused c (map write_step ss)
no_line c [] k h = tt
no_line c (s ∷ ss) k h =
    let e = line_is c s k.0.0 in (
      ap (λ (o : Outcome). is_refused o.answer) e ∙ h.0,
      subst (λ (o : Outcome). NoLineRefused o.cluster (map write_step ss)) (sym e) (no_line (step_of c s).cluster ss k.1 h.1),
    )

lines_lead : (c : Cluster) (ss : List Step) → Onward c (map comes ss) → record_after c (map write_step ss) ≡ run_by c ss
lines_lead c [] k = refl
lines_lead c (s ∷ ss) k = ap (λ (o : Outcome). record_after o.cluster (map write_step ss)) (line_is c s k.0.0) ∙ lines_lead (step_of c s).cluster ss k.1

-- ---- what is given

none_first : (c : Cluster) (ss : List Step) → NoneRefused c ss → first_refused c ss ≡ A.Done
none_first c [] h = refl
none_first c (s ∷ ss) h = rw h.0 (none_first (step_of c s).cluster ss h.1)

module _ {n f : ℕ} {c : Cluster} {key value : ℕ} (h : Stands n f c) (asked : Asked c key value) where
  given_by : planned_of c key value ≡ frames_by (first_refused c (plan_for c key value)) (no_frames A.Done) (plan_for c key value)
  given_by = planned_is c key value (well_formed_lem c h.good) asked.a_key asked.a_value asked.room asked.low

  short : length (plan_for c key value) ≤ 4 * c.count
  short =
      omega (
        arith,
        length_steps c (one_by_one (plan_lines c (chosen c) key value)),
        lines_short c (chosen c) key value,
        counts_n h,
        h.good.at_least_two,
        h.counted,
      )

  given : NoneRefused c (plan_for c key value) → PlanGiven c key value
  unfolding frames_by
  given none =
      record {
        frames = given_by ∙ ap (λ (x : Answer). frames_by x (no_frames A.Done) (plan_for c key value)) (none_first c (plan_for c key value) none);
        short = short;
        none_refused = none;
      }

  nine_given : first_refused c (plan_for c key value) ≡ A.Refused BelowCommitPoint → planned_of c key value ≡ no_frames (A.Refused BelowCommitPoint)
  unfolding frames_by
  nine_given e = given_by ∙ ap (λ (x : Answer). frames_by x (no_frames A.Done) (plan_for c key value)) e

-- ---- the promises

pub only_nine : OnlyNine
only_nine c key value fits well asked = go c.count refl
  where
    stands : (n : ℕ) → c.count ≡ n → Stands n c.followers c
    stands n e = let g = good c fits well in record { fits = fits; good = g; counted = e; follows = refl; few = omega (arith, g.at_most_seven) }

    go : (n : ℕ) → c.count ≡ n → PlanGiven c key value ⊎ (planned_of c key value ≡ no_frames (A.Refused BelowCommitPoint))
    go zero e = absurd (omega (arith, (good c fits well).at_least_two))
    go (suc m) e =
        let h = stands (suc m) e in
        ⊎_elim (λ g. inl (given h asked g.none)) (λ x. inr (nine_given h asked x)) (gets_ended h asked)

recovers : {z : Opening} {c : Cluster} {key value : ℕ} → Now z c → Asked c key value → (m : ℕ) → z.servers ≡ suc m → Recovers c key value
recovers {z} {c} {key} {value} N asked m e =
    let h : Stands (suc m) c.followers c = record { fits = N.fits; good = good c N.fits N.formed; counted = N.counted ∙ e; follows = refl; few = omega (arith, N.few) } in
    let ss = plan_for c key value in
    let on = fit_onward c (one_by_one (plan_lines c (chosen c) key value)) (fit_plan key value h asked.a_key asked.fits) in
    let after = (led N (record { events = map comes ss; onward = on; ends = refl })).later in
    ⊎_elim
    (λ g. record {
      given = given h asked g.none;
      no_line_refused = no_line c ss on g.none;
      lines_lead = lines_lead c ss on;
      onward = on;
      going = ended_going after e g.then;
    })
    (λ x. absurd (never_first c N ss on x)) (gets_ended h asked)

pub recovery : RecoveryPromised
recovery c key value from asked = go from.opening.servers refl
  where
    go : (n : ℕ) → from.opening.servers ≡ n → Recovers c key value
    go zero e = absurd (omega (arith, (size_good from.opening.allowed).at_least_two))
    go (suc m) e = recovers (reached from) asked m e
