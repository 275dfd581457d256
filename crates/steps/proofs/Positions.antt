-- A position or a length keeps its value in an answer: sixteen bits hold every number up to 65,535. Assumes nothing.
use mathlib.Core.Path.{◌≡◌}
use Prim.Native.Nat.{ℕ, ◌≤◌}
use native.Mathlib.Omega.{arith}
use Rattle.clock.specs.Times.{limit}
use Rattle.steps.specs.Answers.{number_of}

pub number_kept : (n : ℕ) → n ≤ limit → number_of n ≡ n
number_kept n h = omega (arith, h)

pub number_fits : (n : ℕ) → number_of n ≤ limit
number_fits n = omega arith
