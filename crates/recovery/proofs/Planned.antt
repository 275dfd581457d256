-- From every well-formed record none of the plan's steps is refused, or the first that is gets refusal 9. Assumes nothing.
use mathlib.Core.Path.{◌≡◌, ap, sym, subst}
use mathlib.Core.List.{List, [], ◌∷◌}
use mathlib.Core.Logic.{inl}
use Prim.Native.Nat.{ℕ, suc, ◌≤◌}
use native.Mathlib.Omega.{arith}
use lib.ListN.{length}
use Rattle.clock.specs.Times.{limit, zero_time}
use Rattle.server_log.specs.declared.Entry.{Entry}
use Rattle.server_log.specs.Entries.{entry_at}
use Rattle.server_log.specs.Order.{highest_key}
use Rattle.cluster.specs.declared.Cluster.{Cluster}
use Rattle.cluster.specs.Servers.{server_count}
use Rattle.cluster.specs.Sets.{votes}
use Rattle.steps.specs.declared.Step.TheVariants.{Elect, Hears, Writes, Advances, TakesReport}
use Rattle.wholes.specs.Elects.{new_term}
use Rattle.plans.specs.Moves.{Move, turns, once, one_by_one, other, set_from}
use Rattle.plans.specs.Plan.{others, chosen, all_voters, copies, hearing, plan_lines}
use Rattle.recovery.specs.Promise.{Asked}
use Rattle.recovery.proofs.Getting.{GetsOr9, gets_none, gets_more, gets_then, gets_all}
use Rattle.recovery.proofs.Standing.{Stands, counts_n}
use Rattle.recovery.proofs.Leading.{Task}
use Rattle.recovery.proofs.Copying.{Copying, copies_steps}
use Rattle.recovery.proofs.Taking.{Taking, taking, takes_steps}
use Rattle.recovery.proofs.Hearing.{Hearing, advances_steps, hears_steps}
use Rattle.recovery.proofs.Winning.{Ready, elect_steps, written, task, last_written, writes_steps}
use Rattle.recovery.proofs.First.{gets_ready}

-- after all lines
pub record Ended (m f a key value : ℕ) (c : Cluster) : Type 0 where
  pub term : ℕ
  pub entries : List Entry
  pub tasked : Task m a term entries
  pub hearing : Hearing m f a term entries m c
  pub wrote_key : (entry_at entries (length entries)).key ≡ key
  pub wrote_value : (entry_at entries (length entries)).value ≡ value

-- the lines after the first, of m + 1 servers
abbrev lines_after : ℕ → ℕ → ℕ → ℕ → ℕ → List (List Move)
lines_after a set m key value =
    once (λ d. Elect a set)
    ∷ once (λ d. Writes a key value zero_time)
    ∷ turns (λ k. copies (other a k) a) 0 m
    ∷ turns (λ k d. TakesReport a) 0 m
    ∷ once (λ d. Advances a)
    ∷ turns (λ k d. Hears (other a k) a) 0 m
    ∷ []

from_ready : {m f : ℕ} (a key value : ℕ) → key ≤ highest_key → 1 ≤ value → value ≤ limit → (c : Cluster) → Ready (suc m) f a c
    → GetsOr9 (Ended m f a key value) c (one_by_one (lines_after a (set_from (votes f) 0 (suc m)) m key value))
from_ready {m} {f} a key value small from_one fits c p =
    gets_more {m = λ d. Elect a (set_from (votes f) 0 (suc m))} (inl (elect_steps p))
    (λ d h.
    let t = new_term c a in
    let es = written h key value small from_one fits in
    let k = task h key value small from_one fits in
    let last = last_written h key value small from_one fits in
    gets_more {m = λ d. Writes a key value zero_time} (inl (writes_steps h key value small from_one fits))
    (λ d p. gets_then (turns (λ k. copies (other a k) a) 0 m) (gets_all (Copying m f a t es) (λ k. copies (other a k) a) m (λ i x l q. copies_steps k l q) p)
    (λ d p. gets_then (turns (λ k d. TakesReport a) 0 m) (gets_all (Taking m f a t es) (λ k d. TakesReport a) m (λ i x l q. inl (takes_steps k l q)) (taking k p))
    (λ d p. gets_more {m = λ d. Advances a} (inl (advances_steps k p))
    (λ d p. gets_then (turns (λ k d. Hears (other a k) a) 0 m) (gets_all (Hearing m f a t es) (λ k d. Hears (other a k) a) m (λ i x l q. inl (hears_steps k l q)) p)
    (λ d q. gets_none (record { term = t; entries = es; tasked = k; hearing = q; wrote_key = ap (λ (e : Entry). e.key) last; wrote_value = ap (λ (e : Entry). e.value) last })))))))

pub gets_ended : {m f : ℕ} {c : Cluster} {key value : ℕ} → Stands (suc m) f c → Asked c key value
    → GetsOr9 (Ended m f (chosen c) key value) c (one_by_one (plan_lines c (chosen c) key value))
gets_ended {m} {f} {c} {key} {value} h asked =
    let e : server_count c ≡ suc m = counts_n h in
    let z : others c ≡ m = omega arith in
    let a = chosen c in
    let set : all_voters c ≡ set_from (votes f) 0 (suc m) = λ i. set_from (votes (h.follows i)) 0 (e i) in
    gets_then (hearing c a) (gets_ready h asked.room asked.low)
    (λ d p. subst (λ (k : ℕ). GetsOr9 (Ended m f a key value) d (one_by_one (lines_after a (all_voters c) k key value))) (sym z)
    (subst (λ (s : ℕ). GetsOr9 (Ended m f a key value) d (one_by_one (lines_after a s m key value))) (sym set)
    (from_ready a key value asked.a_key asked.a_value asked.fits d p)))
