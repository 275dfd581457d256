-- Laws of `best`, for a loop that goes through the numbers. Assumes nothing.
use mathlib.Core.Path.{◌≡◌, refl, ◌∙◌}
use mathlib.Core.Bool.{Bool, true, false, cond}
use Prim.Native.Nat.{ℕ, zero, suc, ◌+◌, ◌-◌, ◌≤◌, ◌<◌}
use native.Mathlib.Omega.{arith}
use Rattle.plans.specs.Moves.{best}

module _ (holds_own : ℕ → ℕ → Bool) where
  pub best_none : 0 ≡ best holds_own (1 - 1)
  unfolding best
  best_none = refl

  pub best_stays : (i : ℕ) → 1 ≤ i → holds_own (best holds_own (i - 1)) i ≡ true → best holds_own (i - 1) ≡ best holds_own (i + 1 - 1)
  unfolding best
  best_stays zero h e = absurd (omega arith)
  best_stays (suc k) h e =
      let z : suc k - 1 ≡ k = omega arith in
      let w : suc k + 1 - 1 ≡ suc k = omega arith in
      let f : holds_own (best holds_own k) (suc k) ≡ true = rw z at e in
      rw (z, w, f)

  pub best_moves : (i : ℕ) → 1 ≤ i → holds_own (best holds_own (i - 1)) i ≡ false → i ≡ best holds_own (i + 1 - 1)
  unfolding best
  best_moves zero h e = absurd (omega arith)
  best_moves (suc k) h e =
      let z : suc k - 1 ≡ k = omega arith in
      let w : suc k + 1 - 1 ≡ suc k = omega arith in
      let f : holds_own (best holds_own k) (suc k) ≡ false = rw z at e in
      rw (w, f)

  -- one number more, which is taken or not
  abbrev pub Next : ℕ → ℕ → Type 0
  Next d i = (d < i + 1) × (d ≡ best holds_own (i + 1 - 1))

  pub next_moves : (a d i : ℕ) → 1 ≤ i → a ≡ best holds_own (i - 1) → holds_own a i ≡ false → d ≡ i → Next d i
  next_moves a d i h e q z = (omega arith, z ∙ best_moves i h (rw e at q))

  pub next_stays : (a d i : ℕ) → 1 ≤ i → a < i → a ≡ best holds_own (i - 1) → holds_own a i ≡ true → d ≡ a → Next d i
  next_stays a d i h l e q z = (omega arith, z ∙ e ∙ best_stays i h (rw e at q))

  pub best_within : (k : ℕ) → best holds_own k ≤ k
  unfolding best
  best_within zero = omega arith
  best_within (suc k) = go (holds_own (best holds_own k) (suc k)) (best_within k)
    where
      go : (b : Bool) → best holds_own k ≤ k → cond b (best holds_own k) (suc k) ≤ suc k
      go true h = omega arith
      go false h = omega arith
