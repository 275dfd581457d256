-- Laws of a set of numbers, for a loop that makes it. Assumes nothing.
use mathlib.Core.Path.{◌≡◌}
use mathlib.Core.Bool.{Bool, true, false, cond}
use Prim.Native.Nat.{ℕ, zero, suc, ◌+◌, ◌-◌, ◌*◌, ◌^◌, ◌≤◌, ◌<◌}
use native.Mathlib.Nat.{pow-suc, lt_of_lt_of_le}
use native.Mathlib.Omega.{arith}
use lib.Pow.{pow_mono}
use Rattle.plans.specs.Moves.{set_from}

pub bit : (b : Bool) → cond b 1 0 ≤ 1
bit true = omega arith
bit false = omega arith

module _ (p : ℕ → Bool) where
  pub set_below : (j n : ℕ) → set_from p j n < 2 ^ n
  unfolding set_from
  set_below j zero = omega arith
  set_below j (suc n) = omega (arith, bit (p j), set_below (suc j) n, pow-suc 2 n)

  -- from the last on down
  pub set_none : (n : ℕ) → 0 ≡ set_from p n (n - n)
  unfolding set_from
  set_none n = let z : n - n ≡ 0 = omega arith in rw z

  pub set_down : (i n s b : ℕ) → 1 ≤ i → i ≤ n → s ≡ set_from p i (n - i) → b ≡ cond (p (i - 1)) 1 0 → s * 2 + b ≡ set_from p (i - 1) (n - (i - 1))
  unfolding set_from
  set_down zero n s b h l e q = absurd (omega arith)
  set_down (suc i) n s b h l e q =
      let z : suc i - 1 ≡ i = omega arith in
      let w : n - i ≡ suc (n - suc i) = omega arith in
      let y : b ≡ cond (p i) 1 0 = rw z at q in
      rw (z, w) (omega arith)

  -- the set so far is small
  pub set_small : (i n s : ℕ) → 1 ≤ i → i ≤ n → n ≤ 7 → s ≡ set_from p i (n - i) → s < 64
  set_small i n s h l f e = omega (arith, lt_of_lt_of_le (set_below i (n - i)) (pow_mono {i = n - i} {j = 6} (omega arith)))
