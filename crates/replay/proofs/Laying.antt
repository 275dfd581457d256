-- A list that is copied into a part of a buffer. Assumes nothing.
use mathlib.Core.Path.{◌≡◌, sym, ap, ◌∙◌}
use mathlib.Core.List.{List, ◌++◌, append_assoc}
use Prim.Native.Nat.{ℕ, ◌+◌, ◌-◌}
use native.Mathlib.Omega.{arith}
use lib.ListN.{length, take, drop}
use borrow.Rule.Slice.PartMut.{put_mid, Post-is}
use Rattle.lines.specs.Texts.{placed}

pub part_placed : (out xs : List ℕ) (at n : ℕ) → n ≡ length xs → put_mid at (at + n - at) out xs ≡ placed out at xs
part_placed out xs at n e =
    ap (λ (l : List ℕ). take at out ++ (xs ++ l)) (Post-is at (at + n) out (omega arith)) ∙ sym (append_assoc (take at out) xs (drop (at + n) out))
    ∙ ap (λ (k : ℕ). take at out ++ xs ++ drop (at + k) out) e
