-- The fewest digits that hold a number are its places. Assumes nothing.
use mathlib.Core.Path.{◌≡◌, sym}
use mathlib.Core.Logic.{⊎_elim}
use Prim.Native.Nat.{ℕ, ◌-◌, ◌^◌, ◌≤◌, ◌<◌}
use native.Mathlib.Omega.{arith}
use native.Mathlib.Nat.{lt_of_lt_of_le, zero-lt-suc, pow-le-pow_right}
use borrow.Author.Tests.{le-leb, lt-leb}
use Rattle.io.specs.Digits.{IsDigitCount}
use Rattle.base.proofs.Facts.{lt_or_le}
use Rattle.base.proofs.Highest.{highest_is}
use Rattle.traces.specs.Shown.{places_of}

pub places : (n k : ℕ) → 1 ≤ n → n < 10 ^ 20 → IsDigitCount 10 1 n k → k ≡ places_of n
places n k some low h =
    sym (highest_is _ 20 k few (λ one. le-leb (10 ^ (k - 1)) n (reaches one))
    (λ j above within. lt-leb (10 ^ (j - 1)) n (lt_of_lt_of_le h.1 (pow-le-pow_right (omega arith) (omega arith)))))
  where
    few : k ≤ 20
    few = ⊎_elim (λ l. let z : 10 ^ 20 ≤ 10 ^ (k - 1) = pow-le-pow_right (zero-lt-suc 9) {i = 20} {j = k - 1} (omega arith) in absurd (omega (arith, h.2 (omega arith), z))) (λ l. l) (lt_or_le 20 k)

    reaches : 1 ≤ k → 10 ^ (k - 1) ≤ n
    reaches one = ⊎_elim (λ l. h.2 l) (λ l. first l) (lt_or_le 1 k)
      where
        first : k ≤ 1 → 10 ^ (k - 1) ≤ n
        first l = let z : k - 1 ≡ 0 = omega arith in rw z some
