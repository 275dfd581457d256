-- The rule of a table of masks, at each kind and byte. Assumes nothing.
use mathlib.Core.Path.{◌≡◌, refl, ap, ◌∙◌}
use mathlib.Core.Bool.{Bool, true, false, cond}
use mathlib.Core.List.{List}
use Prim.Native.Nat.{ℕ, ◌/◌, ◌%◌, ◌^◌, ◌<◌}
use borrow.Author.Tests.{eqb-true}
use lib.Dec.{eqb}
use lib.ListN.{get_or}
use Rattle.base.specs.Numbers.{every}
use Rattle.base.proofs.Every.{every_at}
use Rattle.frames.specs.Layout.{step_bytes}
use Rattle.frames.specs.Kinds.{kinds, must_be_zero, is_table}

bit_one : (b : Bool) → eqb (cond b 1 0) 1 ≡ b
bit_one true = refl
bit_one false = refl

-- the test of the rule at one kind and one byte
abbrev right : List ℕ → ℕ → ℕ → Bool
right masks kind i = eqb (get_or masks kind 0 / 2 ^ i % 2) (cond (must_be_zero kind i) 1 0)

pub table_says : (masks : List ℕ) → is_table masks ≡ true → (kind i : ℕ) → kind < kinds → i < step_bytes
    → eqb (get_or masks kind 0 / 2 ^ i % 2) 1 ≡ must_be_zero kind i
unfolding is_table
table_says masks e kind i h l =
    let r = every_at (right masks kind) step_bytes i (every_at (λ k. every step_bytes (right masks k)) kinds kind e h) l in
    ap (λ (x : ℕ). eqb x 1) (eqb-true (get_or masks kind 0 / 2 ^ i % 2) (cond (must_be_zero kind i) 1 0) r) ∙ bit_one (must_be_zero kind i)
