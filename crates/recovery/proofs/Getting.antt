-- Moves that get a record to what they are for: one after the other, and in turns. Assumes nothing.
use mathlib.Core.Path.{◌≡◌, refl, ap, subst}
use mathlib.Core.Bool.{Bool, true, false, cond}
use mathlib.Core.List.{List, [], ◌∷◌, ◌++◌, map}
use mathlib.Core.Logic.{◌≢◌, ◌⊎◌, inl, inr, ⊎_elim}
use Prim.Native.Nat.{ℕ, zero, suc, ◌+◌, ◌≤◌, ◌<◌}
use native.Mathlib.Omega.{arith}
use borrow.Author.Tests.{lt-ltb, le-ltb}
use Rattle.base.proofs.Facts.{lt_or_le}
use Rattle.cluster.specs.declared.Cluster.{Cluster}
use Rattle.steps.specs.declared.Answer.{Answer}
use Rattle.steps.specs.declared.Answer.TheVariants as A
use Rattle.steps.specs.declared.Refusal.TheVariants.{BelowCommitPoint}
use Rattle.steps.specs.declared.Step.{Step}
use Rattle.rules.specs.Rules.{step_of}
use Rattle.steps.specs.Answers.{is_refused}
use Rattle.plans.specs.Moves.{Move, steps_by, turns, NoneRefused, first_refused, other}
use Rattle.promises.specs.Runs.{comes, run_to}

-- the record after steps
abbrev pub run_by : Cluster → List Step → Cluster
run_by c ss = run_to c (map comes ss)

-- a step that isn't refused, and what holds after it
pub record Steps (P : Cluster → Type 0) (c : Cluster) (s : Step) : Type 0 where
  pub done : is_refused (step_of c s).answer ≡ false
  pub then : P (step_of c s).cluster

-- moves of which none is refused, and what holds after them
pub record Gets (P : Cluster → Type 0) (c : Cluster) (ms : List Move) : Type 0 where
  pub none : NoneRefused c (steps_by c ms)
  pub then : P (run_by c (steps_by c ms))

-- or the first that is refused gets refusal 9
abbrev pub StepsOr9 : (Cluster → Type 0) → Cluster → Step → Type 0
StepsOr9 P c s = Steps P c s ⊎ ((step_of c s).answer ≡ A.Refused BelowCommitPoint)

abbrev pub GetsOr9 : (Cluster → Type 0) → Cluster → List Move → Type 0
GetsOr9 P c ms = Gets P c ms ⊎ (first_refused c (steps_by c ms) ≡ A.Refused BelowCommitPoint)

pub gets_none : {P : Cluster → Type 0} {c : Cluster} → P c → GetsOr9 P c []
gets_none p = inl (record { none = tt; then = p })

-- a move, and what it lets follow
pub gets_more : {P Q : Cluster → Type 0} {c : Cluster} {m : Move} {ms : List Move} → StepsOr9 P c (m c) → ((d : Cluster) → P d → GetsOr9 Q d ms) → GetsOr9 Q c (m ∷ ms)
gets_more {c = c} {m = m} {ms = ms} (inr e) f =
    inr (ap (λ (x : Answer). cond (is_refused x) x (first_refused (step_of c (m c)).cluster (steps_by (step_of c (m c)).cluster ms))) e)
gets_more {Q = Q} {c = c} {m = m} {ms = ms} (inl s) f = go (f (step_of c (m c)).cluster s.then)
  where
    go : GetsOr9 Q (step_of c (m c)).cluster ms → GetsOr9 Q c (m ∷ ms)
    go (inl g) = inl (record { none = (s.done, g.none); then = g.then })
    go (inr e) = inr (rw s.done e)

pub gets_then : {P Q : Cluster → Type 0} {c : Cluster} (ms : List Move) {ns : List Move} → GetsOr9 P c ms → ((d : Cluster) → P d → GetsOr9 Q d ns) → GetsOr9 Q c (ms ++ ns)
gets_then [] (inl g) f = f _ g.then
gets_then [] (inr e) f = let z : ◌≡◌ {A = ℕ} 0 1 = cc in absurd (omega arith)
gets_then {P} {Q} {c} (m ∷ ms) {ns} (inl g) f = gets_more {P = λ d. Gets P d ms} (inl (record { done = g.none.0; then = record { none = g.none.1; then = g.then } })) (λ d h. gets_then ms (inl h) f)
gets_then {P} {Q} {c} (m ∷ ms) {ns} (inr e) f = go (is_refused (step_of c (m c)).answer) refl (λ d h. gets_then {P = P} {Q = Q} {c = d} ms (inr h) f) e
  where
    go : (b : Bool) → is_refused (step_of c (m c)).answer ≡ b → ((d : Cluster) → first_refused d (steps_by d ms) ≡ A.Refused BelowCommitPoint → GetsOr9 Q d (ms ++ ns))
        → cond b (step_of c (m c)).answer (first_refused (step_of c (m c)).cluster (steps_by (step_of c (m c)).cluster ms)) ≡ A.Refused BelowCommitPoint
        → GetsOr9 Q c (m ∷ (ms ++ ns))
    go true q more e = gets_more {P = λ d. ⊥} {m = m} (inr e) (λ d h. absurd h)
    go false q more e = gets_more {P = λ d. first_refused d (steps_by d ms) ≡ A.Refused BelowCommitPoint} {m = m} (inl (record { done = q; then = e })) more

-- in turns: what holds after so many
gets_turns : (P : ℕ → Cluster → Type 0) (m : ℕ → Move) (j k : ℕ) → ((i : ℕ) (c : Cluster) → i < j + k → P i c → StepsOr9 (P (suc i)) c (m i c)) → {c : Cluster} → P j c
    → GetsOr9 (P (j + k)) c (turns m j k)
gets_turns P m j zero f {c} p = gets_none (subst (λ (i : ℕ). P i c) (omega arith) p)
gets_turns P m j (suc k) f {c} p =
    gets_more (f j c (omega arith) p)
    (λ d q. subst (λ (i : ℕ). GetsOr9 (P i) d (turns m (suc j) k)) (omega arith) (gets_turns P m (suc j) k (λ i e l. f i e (omega arith)) q))

pub gets_all : (P : ℕ → Cluster → Type 0) (m : ℕ → Move) (k : ℕ) → ((i : ℕ) (c : Cluster) → i < k → P i c → StepsOr9 (P (suc i)) c (m i c)) → {c : Cluster} → P 0 c
    → GetsOr9 (P k) c (turns m 0 k)
gets_all P m k f {c} p =
    let z : 0 + k ≡ k = omega arith in
    subst (λ (i : ℕ). GetsOr9 (P i) c (turns m 0 k)) z (gets_turns P m 0 k (λ i d l. f i d (omega arith)) p)

-- ---- the servers but a

other_low : (a k : ℕ) → k < a → other a k ≡ k
unfolding other
other_low a k l = rw (lt-ltb k a l)

other_high : (a k : ℕ) → a ≤ k → other a k ≡ suc k
unfolding other
other_high a k l = rw (le-ltb k a l)

pub other_cases : (a k : ℕ) → ((other a k ≡ k) × (k < a)) ⊎ ((other a k ≡ suc k) × (a ≤ k))
other_cases a k = ⊎_elim (λ l. inl (other_low a k l, l)) (λ l. inr (other_high a k l, l)) (lt_or_le k a)

pub other_not : (a k : ℕ) → other a k ≢ a
other_not a k e = ⊎_elim (λ h. omega (arith, h.0, h.1)) (λ h. omega (arith, h.0, h.1)) (other_cases a k)

pub other_below : (a k m : ℕ) → k < m → other a k < suc m
other_below a k m l = ⊎_elim (λ h. omega (arith, h.0)) (λ h. omega (arith, h.0)) (other_cases a k)

pub other_apart : (a j k : ℕ) → j ≢ k → other a j ≢ other a k
other_apart a j k ne e =
    ⊎_elim (λ g. ⊎_elim (λ h. ne (omega (arith, g.0, h.0))) (λ h. omega (arith, g.0, h.0, g.1, h.1)) (other_cases a k))
    (λ g. ⊎_elim (λ h. omega (arith, g.0, h.0, g.1, h.1)) (λ h. ne (omega (arith, g.0, h.0))) (other_cases a k)) (other_cases a j)

-- every server is one of them, or a
pub record Other (a m i : ℕ) : Type 0 where
  pub number : ℕ
  pub below : number < m
  pub is : other a number ≡ i

pub other_every : (a m i : ℕ) → a ≤ m → i < suc m → i ≢ a → Other a m i
other_every a m zero la l ne = record { number = 0; below = omega arith; is = other_low a 0 (omega arith) }
other_every a m (suc i) la l ne =
    ⊎_elim (λ h. record { number = suc i; below = omega arith; is = other_low a (suc i) h })
    (λ h. record { number = i; below = omega arith; is = other_high a i (omega arith) }) (lt_or_le (suc i) a)
