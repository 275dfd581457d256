-- A claim about each number below n, given as a tuple. Assumes nothing.
use Prim.Native.Nat.{ℕ, zero, suc, ◌<◌}
use native.Mathlib.Nat.{not-suc-le-zero, le_of_suc-le-suc}

abbrev pub Cases : (ℕ → Type 0) → ℕ → Type 0
Cases P zero = Unit {0}
Cases P (suc n) = P 0 × Cases (λ i. P (suc i)) n

-- one claim before the others
infixr 20 ◌▸◌
pub ◌▸◌ : {A B : Type 0} → A → B → A × B
a ▸ b = (a, b)

pub case_at : (P : ℕ → Type 0) (n : ℕ) → Cases P n → (i : ℕ) → i < n → P i
case_at P zero c i h = absurd (not-suc-le-zero h)
case_at P (suc n) c zero h = c.0
case_at P (suc n) c (suc i) h = case_at (λ k. P (suc k)) n c.1 i (le_of_suc-le-suc h)
