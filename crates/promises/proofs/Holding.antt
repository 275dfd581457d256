-- What servers hold is what their logs have, in every run: nothing is dropped from a log. Assumes nothing.
use mathlib.Core.Path.{◌≡◌, refl, sym, ap, ◌∙◌, subst}
use mathlib.Core.Logic.{◌≢◌, ⊎_elim}
use mathlib.Core.Bool.{Bool, true, false, cond}
use mathlib.Core.List.{List, [], ◌∷◌, ◌++◌}
use Prim.Native.Nat.{ℕ, ◌<◌, ◌≤◌}
use native.Mathlib.Omega.{arith}
use lib.Dec.{eqb, ltb}
use lib.ListN.{length}
use borrow.Author.Tests.{eq-eqb, ltb-true, eqb-true, eqb-false}
use Rattle.base.specs.Lists.{joined_at}
use Rattle.server_log.specs.declared.Entry.{Entry}
use Rattle.server_log.specs.Entries.{entry_at}
use Rattle.server_log.specs.Logs.{live, length_of, joined, appended, has_room}
use Rattle.server_log.proofs.Tidy.{Tidy, live_appended, live_joined}
use Rattle.server_log.proofs.Positions.{last_more}
use Rattle.server_log.proofs.Common.{common_le}
use Rattle.cluster.specs.declared.Cluster.{Cluster}
use Rattle.cluster.specs.declared.Server.{Server}
use Rattle.cluster.specs.Servers.{server_at, server_count, with_server}
use Rattle.cluster.specs.Ranges.{Fits}
use Rattle.cluster.proofs.Changed.{replaced_here, replaced_others}
use Rattle.cluster.proofs.Good.{Good, good}
use Rattle.cluster.proofs.Fresh.{fresh_at}
use Rattle.steps.specs.declared.Step.{Step}
use Rattle.steps.specs.declared.Step.TheVariants.{Start, Elect, StepDown, Hears, Pulls, RollsBack, Writes, Advances, WallClock, Restarts, LocalRead, MajorityRead, Acknowledged, ClocksAgree, WritesNothing, NewestRead, TakesReport}
use Rattle.steps.specs.declared.Answer.TheVariants.{Done}
use Rattle.steps.specs.declared.Stepped.{Stepped}
use Rattle.steps.specs.declared.Outcome.{Outcome}
use Rattle.steps.specs.Ranges.{FitsStep}
use Rattle.steps.specs.Answers.{is_refused}
use Rattle.rules.specs.Rules.{row_of, put_back, step_of, is_start}
use Rattle.rules.proofs.Outcomes.{StepDone, StepRefused, step_cases, done_not_refused}
use Rattle.rules.proofs.Others.{put_either, delivered_queue, elect_changes, agree_changes}
use Rattle.pairs.specs.Pulls.{took_of, pull_done}
use Rattle.pairs.specs.RollsBack.{common, roll_done}
use Rattle.pairs.specs.Hears.{heard_of, hears_of}
use Rattle.singles.specs.Appends.{stamped_of}
use Rattle.singles.specs.StepsDown.{down_done}
use Rattle.singles.specs.WallClock.{clock_done}
use Rattle.singles.specs.Restarts.{restarts_of}
use Rattle.singles.specs.Writes.{write_done}
use Rattle.singles.specs.WritesNothing.{nothing_done}
use Rattle.singles.specs.TakesReport.{take_done}
use Rattle.reads.specs.Acknowledged.{acknowledge_done}
use Rattle.reads.specs.LocalRead.{local_done}
use Rattle.reads.specs.MajorityRead.{majority_done}
use Rattle.reads.specs.NewestRead.{newest_done}
use Rattle.wholes.specs.Starts.{Opening, fresh_of}
use Rattle.safety.proofs.Stepped.{Now, step_next, begun}
use Rattle.promises.proofs.Turns.{next, given_back}
use Rattle.promises.specs.Runs.{Event, comes, overnight, happens, run_to, Onward}
use Rattle.promises.specs.Held.{Held, hold_nothing, held_with, held_done, held_after, held_over, HoldsLogs}

abbrev log_at : Cluster → ℕ → List Entry
log_at c i = live (server_at c i).log

-- one server is put back as a step left it: its log, and the others'
module _ (c : Cluster) (a : ℕ) (o : Stepped) where
  told : (i : ℕ) → (server_at (put_back c a o).cluster i).log ≡ (server_at (with_server c a o.server) i).log
  told i = ap (λ (s : Server). s.log) (delivered_queue (with_server c a o.server) o.sends i)

  back_same : o.server.log ≡ (server_at c a).log → (i : ℕ) → log_at (put_back c a o).cluster i ≡ log_at c i
  back_same e i =
      ap live
      (told i ∙ put_either (λ (s : Server). s.log ≡ (server_at c i).log) c a o.server i (λ q. e ∙ ap (λ (k : ℕ). (server_at c k).log) (sym q)) refl)

  back_here : a < length c.servers → log_at (put_back c a o).cluster a ≡ live o.server.log
  back_here l = ap live (told a ∙ ap (λ (s : Server). s.log) (replaced_here c a o.server l))

  back_other : (i : ℕ) → i ≢ a → log_at (put_back c a o).cluster i ≡ log_at c i
  back_other i n = ap live (told i ∙ ap (λ (s : Server). s.log) (replaced_others c a o.server i n))

module _ (c : Cluster) (f : Fits c) (g : Good c) (h : Held) (hl : HoldsLogs c h) where
  -- of a server that is named by a step
  counted : (a : ℕ) → ltb a (server_count c) ≡ true → a < c.count
  counted a l = omega (arith, ltb-true a (server_count c) l)

  tidy_at : (a : ℕ) → ltb a (server_count c) ≡ true → Tidy (server_at c a).log
  tidy_at a l = (g.counted a (counted a l)).log.tidy

  -- a step that leaves a's log, and one that leaves it with the entries that a then holds
  left : (a : ℕ) (o : Stepped) → o.server.log ≡ (server_at c a).log → (i : ℕ) → i < c.count → h i ≡ log_at (put_back c a o).cluster i
  left a o e i l = hl i l ∙ sym (back_same c a o e i)

  given : (a : ℕ) (o : Stepped) (es : List Entry) → ltb a (server_count c) ≡ true → es ≡ live o.server.log
      → (i : ℕ) → i < c.count → held_with h a es i ≡ log_at (put_back c a o).cluster i
  unfolding held_with
  given a o es la e i l = go (eqb i a) refl
    where
      go : (x : Bool) → eqb i a ≡ x → cond x es (h i) ≡ log_at (put_back c a o).cluster i
      go true q =
          e ∙ sym (back_here c a o (omega (arith, f.slots, ltb-true a (server_count c) la)))
          ∙ ap (log_at (put_back c a o).cluster) (sym (eqb-true i a q))
      go false q = hl i l ∙ sym (back_other c a o i (eqb-false i a q))

  -- a copy: a's first k entries, and then b's
  copied : (a b k : ℕ) (o : Stepped) → ltb a (server_count c) ≡ true → ltb b (server_count c) ≡ true → k ≤ length_of (server_at c a).log → k ≤ length_of (server_at c b).log
      → o.server.log ≡ joined (server_at c a).log (server_at c b).log k
      → (i : ℕ) → i < c.count → held_with h a (joined_at k (h a) (h b)) i ≡ log_at (put_back c a o).cluster i
  copied a b k o la lb ka kb e =
      given a o (joined_at k (h a) (h b)) la
      (ap (λ (es : List Entry). joined_at k es (h b)) (hl a (counted a la)) ∙ ap (joined_at k (log_at c a)) (hl b (counted b lb))
      ∙ sym (live_joined (tidy_at a la) (tidy_at b lb) k ka kb) ∙ ap live (sym e))

  -- an entry more, which is then the last
  appends : (a : ℕ) (o : Stepped) (e : Entry) → ltb a (server_count c) ≡ true → has_room (server_at c a).log ≡ true → o.server.log ≡ appended (server_at c a).log e
      → (i : ℕ) → i < c.count
      → held_with h a (h a ++ (entry_at (log_at (put_back c a o).cluster a) (length (log_at (put_back c a o).cluster a)) ∷ [])) i ≡ log_at (put_back c a o).cluster i
  appends a o e la room q =
      let d = (put_back c a o).cluster in
      let after : live o.server.log ≡ log_at c a ++ (e ∷ []) = ap live q ∙ live_appended (tidy_at a la) e room in
      let here : log_at d a ≡ log_at c a ++ (e ∷ []) = back_here c a o (omega (arith, f.slots, ltb-true a (server_count c) la)) ∙ after in
      let last : entry_at (log_at d a) (length (log_at d a)) ≡ e = ap (λ (es : List Entry). entry_at es (length es)) here ∙ last_more (log_at c a) e in
      given a o _ la (ap (λ (x : Entry). h a ++ (x ∷ [])) last ∙ ap (λ (es : List Entry). es ++ (e ∷ [])) (hl a (counted a la)) ∙ sym after)

  -- kind by kind
  done : (s : Step) → (is_start s ≡ true → (step_of c s).answer ≢ Done) → StepDone c s
      → (i : ℕ) → i < c.count → held_done c (step_of c s).cluster h s i ≡ log_at (step_of c s).cluster i
  unfolding row_of heard_of took_of stamped_of
  done (Start n m) e d i l = absurd (e (eq-eqb 0 0 refl) (ap (λ (o : Outcome). o.answer) d.is))
  done (Elect a m) e d i l = hl i l ∙ sym (ap (λ (s : Server). live s.log) (elect_changes c a m i))
  done (StepDown a) e d i l = rw d.is (left a (down_done (server_at c a)) refl i l)
  done (Hears a b) e d i l = rw d.is (left a (hears_of (server_at c a) (server_at c b)) refl i l)
  done (Pulls a b) e d i l =
      let r = d.clear in
      rw d.is
      (copied a b (length_of (server_at c a).log) (pull_done (server_at c a) (server_at c b) a b) r.0 r.1.0 (omega arith)
      (omega (arith, ltb-true (length_of (server_at c a).log) (length_of (server_at c b).log) r.1.1.1.1.0)) refl i l)
  done (RollsBack a b) e d i l =
      let r = d.clear in
      let k = common_le (log_at c a) (log_at c b) in
      rw d.is (copied a b (common (server_at c a) (server_at c b)) (roll_done (server_at c a) (server_at c b) a b) r.0 r.1.0 k.0 k.1 refl i l)
  done (Writes a key value client) e d i l =
      let r = d.clear in
      rw d.is (appends a (write_done (server_at c a) key value client) _ r.0 r.1.1.1.1.1.0 refl i l)
  done (Advances a) e d i l = rw d.is (hl i l ∙ sym (put_either (λ (s : Server). live s.log ≡ log_at c i) c a _ i (λ q. ap (log_at c) (sym q)) refl))
  done (WallClock a) e d i l = rw d.is (left a (clock_done (server_at c a)) refl i l)
  done (Restarts a) e d i l = rw d.is (left a (restarts_of (server_at c a)) refl i l)
  done (LocalRead a key asked) e d i l = rw d.is (left a (local_done (server_at c a) key) refl i l)
  done (MajorityRead a key asked) e d i l = rw d.is (left a (majority_done (server_at c a) key) refl i l)
  done (Acknowledged a k n term) e d i l = rw d.is (left a (acknowledge_done (server_at c a) n) refl i l)
  done ClocksAgree e d i l = hl i l ∙ sym (ap (λ (s : Server). live s.log) (agree_changes c i))
  done (WritesNothing a) e d i l =
      let r = d.clear in
      rw d.is (appends a (nothing_done (server_at c a)) _ r.0 r.1.1.0 refl i l)
  done (NewestRead a key n term) e d i l = rw d.is (left a (newest_done (server_at c a) key n) refl i l)
  done (TakesReport a) e d i l = rw d.is (left a (take_done (server_at c a)) refl i l)

  -- any step of a run
  stepped : {z : Opening} → Now z c → (s : Step) → FitsStep s → (is_start s ≡ true → (step_of c s).answer ≢ Done) → HoldsLogs (step_of c s).cluster (held_after c h s)
  unfolding held_after
  stepped N s fits e i l = ⊎_elim goes stays (step_cases c s)
    where
      m : i < c.count
      m = omega (arith, l, (step_next N s fits e).size.0)

      goes : StepDone c s → held_after c h s i ≡ log_at (step_of c s).cluster i
      goes d =
          ap (λ (x : Bool). cond x h (held_done c (step_of c s).cluster h s) i) (ap (λ (o : Outcome). is_refused o.answer) d.is ∙ done_not_refused c s)
          ∙ done s e d i m

      stays : StepRefused c s → held_after c h s i ≡ log_at (step_of c s).cluster i
      stays r = rw r.is (hl i m)

-- along a run
holds_along : {z : Opening} {c : Cluster} → Now z c → (h : Held) → HoldsLogs c h → (es : List Event) → Onward c es → HoldsLogs (run_to c es) (held_over c h es)
holds_along N h hl [] o = hl
holds_along {c = c} N h hl (comes s ∷ es) o =
    holds_along {c = happens c (comes s)} (next N (comes s) o.0).later (held_after c h s) (stepped c N.fits (good c N.fits N.formed) h hl N s o.0.0 o.0.1) es o.1
holds_along {c = c} N h hl (overnight d ∷ es) o =
    holds_along {c = happens c (overnight d)} (next N (overnight d) tt).later h (subst (λ (x : Cluster). HoldsLogs x h) (sym (given_back N d)) hl) es o.1

-- a fresh server has no entry
fresh_holds : (b : Opening) → HoldsLogs (fresh_of b) hold_nothing
fresh_holds b i l = sym (ap (λ (s : Server). live s.log) (fresh_at b.servers b.followers i l (omega (arith, l, (begun b).few))))

-- THE THEOREM: from a fresh cluster on, whatever happens, servers hold what their logs have
pub holds_logs : (b : Opening) (es : List Event) → Onward (fresh_of b) es → HoldsLogs (run_to (fresh_of b) es) (held_over (fresh_of b) hold_nothing es)
holds_logs b es o = holds_along (begun b) hold_nothing (fresh_holds b) es o
