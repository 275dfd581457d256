-- How many values a byte has; and tests on the numbers below a bound: all of them, how many, the highest, the greatest of a value. Assumes nothing.
use Rattle.std.specs.Prelude.{Bool, true, cond, ◌&&◌, ℕ, zero, suc, ◌+◌, ◌^◌, max}

-- how many values a byte has
abbrev pub byte : ℕ
byte = 2 ^ 8

-- every number below n passes
unfoldable pub every : ℕ → (ℕ → Bool) → Bool
every zero p = true
every (suc n) p = every n p && p n

-- how many numbers below n pass
unfoldable pub count : ℕ → (ℕ → Bool) → ℕ
count zero p = 0
count (suc n) p = cond (p n) 1 0 + count n p

-- the highest number from 1 to k that passes, 0 if none does
unfoldable pub highest : (ℕ → Bool) → ℕ → ℕ
highest p zero = 0
highest p (suc k) = cond (p (suc k)) (suc k) (highest p k)

-- the greatest value at a number below n, 0 if there is none
unfoldable pub greatest : ℕ → (ℕ → ℕ) → ℕ
greatest zero f = 0
greatest (suc n) f = max (f n) (greatest n f)
