-- Kinds 14 and 15 where they are answered: what the answers say of the servers, and that the steps fit their bytes.
-- Assumes nothing.
use mathlib.Core.Path.{◌≡◌, refl, ap, sym, ◌∙◌}
use mathlib.Core.Bool.{true}
use mathlib.Core.Logic.{⊎_elim}
use Prim.Native.Nat.{ℕ, suc, ◌≤◌, ◌<◌}
use native.Mathlib.Omega.{arith}
use lib.Dec.{leb}
use lib.ListN.{length}
use borrow.Author.Tests.{ltb-true, leb-true, eqb-true}
use Rattle.base.proofs.Bools.{and_left, and_right}
use Rattle.clock.specs.declared.Time.{Time}
use Rattle.server_log.specs.Entries.{has_entry, latest_value}
use Rattle.server_log.specs.Logs.{highest_position, may_ask, live, length_of, appended}
use Rattle.server_log.specs.Order.{highest_key, no_key}
use Rattle.server_log.proofs.Orderly.{Writing}
use Rattle.server_log.proofs.Positions.{length_more}
use Rattle.cluster.specs.declared.Cluster.{Cluster}
use Rattle.cluster.specs.Ranges.{Fits}
use Rattle.cluster.specs.Servers.{server_count, server_at}
use Rattle.cluster.proofs.Good.{good}
use Rattle.steps.specs.declared.Step.TheVariants.{WritesNothing}
use Rattle.steps.specs.declared.Answer.TheVariants as A
use Rattle.steps.specs.Ranges.{FitsStep}
use Rattle.singles.specs.Appends.{new_entry}
use Rattle.rules.specs.Rules.{row_of, step_of}
use Rattle.rules.proofs.Appends.{stamp_from, live_more}
use Rattle.rules.proofs.Outcomes.{answered_done}
use Rattle.safety.specs.NewestSeen.{Answers}
use Rattle.safety.specs.View.{view}
use Rattle.promises.specs.Demand3.{entry_of, first_of}
use Rattle.promises.specs.Newest.{Reading, reading_step, reading_answer}
use Rattle.safety.proofs.Views.{in_range_lem}

-- kind 14 at a, answered with the reading's position and term
pub record Asked (x : Cluster) (a : ℕ) (r : Reading) : Type 0 where
  pub fits : FitsStep (WritesNothing a)
  pub primary : (view x a).primary ≡ true
  pub position : r.position ≡ suc (view x a).len
  pub term : r.term ≡ (view x a).term

pub asked_of : (x : Cluster) → Fits x → (a : ℕ) (r : Reading) (time : Time) → (step_of x (WritesNothing a)).answer ≡ A.Entry r.position r.term time
    → Asked x a r
unfolding row_of
asked_of x f a r time told =
    let d = answered_done x (WritesNothing a) told refl in
    let s = server_at x a in
    let e = new_entry s no_key 0 (stamp_from s s.head.time) in
    let k = (good x f d.seen).counted a (omega (arith, ltb-true a (server_count x) d.clear.0)) in
    let l = live_more s s.head.time d.clear.1 k.log.tidy e in
    let n : length_of (appended s.log e) ≡ r.position = cc d.answers in
    record {
      fits = omega (arith, ltb-true a (server_count x) d.clear.0);
      primary = d.clear.1.0;
      position = sym n ∙ ap length l ∙ length_more (live s.log) e;
      term = cc d.answers;
    }

-- kind 15 answered; each entry for its key has a value
pub record Read (y : Cluster) (r : Reading) : Type 0 where
  pub fits : FitsStep (reading_step r)
  pub counted : r.server < y.count
  pub answers : Answers (view y r.server) r.term r.position
  pub value : latest_value r.key (first_of y r.server r.position) ≡ r.value
  pub valued : (p : ℕ) → 1 ≤ p → p ≤ r.position → (entry_of y r.server p).key ≡ r.key → 1 ≤ (entry_of y r.server p).value

-- an entry for a key that can be read writes a value
some_value : {key value : ℕ} → key ≤ highest_key → Writing key value → 1 ≤ value
some_value h w = ⊎_elim (λ x. x.1) (λ x. absurd (omega arith)) w

pub read_of : (y : Cluster) → Fits y → (r : Reading) → (step_of y (reading_step r)).answer ≡ reading_answer r → Read y r
unfolding row_of has_entry may_ask
read_of y f r told =
    let d = answered_done y (reading_step r) told refl in
    let k = d.clear.1 in
    let es = live (server_at y r.server).log in
    let below : r.server < y.count = omega (arith, ltb-true r.server (server_count y) d.clear.0) in
    let key = leb-true r.key highest_key k.0 in
    let within = leb-true r.position (length es) (and_left _ _ k.1.1.1.1.0) in
    let few = in_range_lem y r.server d.clear.0 in
    let position = leb-true r.position highest_position (and_left _ _ (and_right (leb 1 r.position) _ k.1.0)) in
    let term : (server_at y r.server).head.term ≡ r.term = eqb-true _ _ k.1.1.1.0 in
    record {
      fits = omega (arith, few, key, position, term, (f.each r.server few).head.term);
      counted = below;
      answers =
          record {
            primary = k.1.1.0;
            term = term;
            entry = eqb-true _ _ (and_right (leb r.position (length es)) _ k.1.1.1.1.0);
            reached = leb-true _ _ k.1.1.1.1.1.0;
          };
      value = cc d.answers;
      valued = λ p one h q. some_value (omega (arith, key, q)) (((good y f d.seen).counted r.server below).log.order.each p one (omega (arith, within))).writes;
    }
