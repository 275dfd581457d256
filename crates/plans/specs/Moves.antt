-- Moves: steps that depend on the record as it then is, and what they come to. Assumes nothing.
use Rattle.std.specs.Prelude.{◌≡◌, Bool, false, cond, List, [], ◌∷◌, ◌++◌, ℕ, zero, suc, ◌+◌, ◌*◌, ltb}
use Rattle.cluster.specs.declared.Cluster.{Cluster}
use Rattle.steps.specs.declared.Answer.{Answer}
use Rattle.steps.specs.declared.Answer.TheVariants.{Done}
use Rattle.steps.specs.declared.Step.{Step}
use Rattle.steps.specs.Answers.{is_refused}
use Rattle.rules.specs.Rules.{step_of}

-- a step, by the record that it is given to
abbrev pub Move : Type 0
Move = Cluster → Step

-- the steps of moves from c on, each chosen in the record that those before it leave
abbrev pub steps_by : Cluster → List Move → List Step
steps_by c [] = []
steps_by c (m ∷ ms) = m c ∷ steps_by (step_of c (m c)).cluster ms

-- a line of moves: one alone; or those of the numbers j, j + 1 and on, k of them
abbrev pub once : Move → List Move
once m = m ∷ []

abbrev pub turns : (ℕ → Move) → ℕ → ℕ → List Move
turns m j zero = []
turns m j (suc k) = m j ∷ turns m (suc j) k

-- lines, one after the other
abbrev pub one_by_one : List (List Move) → List Move
one_by_one [] = []
one_by_one (l ∷ ls) = l ++ one_by_one ls

-- none of the steps from c on is refused
abbrev pub NoneRefused : Cluster → List Step → Type 0
NoneRefused c [] = Unit {0}
NoneRefused c (s ∷ ss) = (is_refused (step_of c s).answer ≡ false) × NoneRefused (step_of c s).cluster ss

-- the answer of the first of the steps from c on that is refused; done, where none is
abbrev pub first_refused : Cluster → List Step → Answer
first_refused c [] = Done
first_refused c (s ∷ ss) = cond (is_refused (step_of c s).answer) (step_of c s).answer (first_refused (step_of c s).cluster ss)

-- the servers but a, ascending: the one of the number k
unfoldable pub other : ℕ → ℕ → ℕ
other a k = cond (ltb k a) k (suc k)

-- the numbers up to k in turn: the one so far stays where it holds its own against the next; so the lowest of the best
unfoldable pub best : (ℕ → ℕ → Bool) → ℕ → ℕ
best holds_own zero = 0
best holds_own (suc k) = cond (holds_own (best holds_own k) (suc k)) (best holds_own k) (suc k)

-- the set of the numbers from j on that pass, n of them, with j as bit 0
unfoldable pub set_from : (ℕ → Bool) → ℕ → ℕ → ℕ
set_from p j zero = 0
set_from p j (suc n) = cond (p j) 1 0 + set_from p (suc j) n * 2
