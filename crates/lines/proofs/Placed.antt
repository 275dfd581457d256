-- Laws of a list that is put into a buffer at a place. Assumes nothing.
use mathlib.Core.Path.{◌≡◌, sym, ap, ◌∙◌}
use mathlib.Core.List.{List, [], ◌∷◌, ◌++◌, append_assoc, append-nil}
use Prim.Native.Nat.{ℕ, suc, ◌+◌, ◌≤◌, ◌<◌}
use native.Mathlib.Omega.{arith}
use lib.ListN.{length, get_or, set, take, drop, length-append, length-drop, take-append-drop}
use lib.Seq.{drop-cons, set_at, append_snoc, length-take-le, take_at, drop-append-add, drop-drop}
use Rattle.lines.specs.Texts.{placed}

pub placed_none : (out : List ℕ) (at : ℕ) → placed out at [] ≡ out
placed_none out at =
    let z : at + 0 ≡ at = omega arith in
    ap (λ (x : List ℕ). x ++ drop (at + 0) out) (append-nil (take at out)) ∙ ap (λ (k : ℕ). take at out ++ drop k out) z ∙ take-append-drop at out

module _ (out : List ℕ) (at : ℕ) (xs : List ℕ) (room : at + length xs ≤ length out) where
  -- up to where it ends
  front_length : length (take at out ++ xs) ≡ at + length xs
  front_length = length-append (take at out) xs ∙ ap (λ (k : ℕ). k + length xs) (length-take-le at out (omega arith))

  pub placed_length : length (placed out at xs) ≡ length out
  placed_length =
      omega (arith, length-append (take at out ++ xs) (drop (at + length xs) out), front_length, length-drop (at + length xs) out)

  -- another list after it
  pub placed_more : (ys : List ℕ) → placed (placed out at xs) (at + length xs) ys ≡ placed out at (xs ++ ys)
  placed_more ys =
      let front = take at out ++ xs in
      let end = at + length xs in
      let n : end + length ys ≡ at + length (xs ++ ys) = omega (arith, length-append xs ys) in
      ap (λ (l : List ℕ). l ++ ys ++ drop (end + length ys) (placed out at xs)) (take_at front (drop end out) end front_length)
      ∙ ap (λ (k : ℕ). front ++ ys ++ drop (k + length ys) (placed out at xs)) (sym front_length)
      ∙ ap (λ (l : List ℕ). front ++ ys ++ l) (drop-append-add front (drop end out) (length ys) ∙ drop-drop (length ys) end out)
      ∙ ap (λ (l : List ℕ). l ++ drop (end + length ys) out) (append_assoc (take at out) xs ys)
      ∙ ap (λ (k : ℕ). take at out ++ (xs ++ ys) ++ drop k out) n

-- one element after it
pub placed_set : (out : List ℕ) (at : ℕ) (xs : List ℕ) (b : ℕ) → at + length xs < length out
    → set (placed out at xs) (at + length xs) b ≡ placed out at (xs ++ (b ∷ []))
placed_set out at xs b h =
    let front = take at out ++ xs in
    let end = at + length xs in
    let rest = drop (suc end) out in
    let n : suc end ≡ at + length (xs ++ (b ∷ [])) = omega (arith, length-append xs (b ∷ [])) in
    ap (λ (l : List ℕ). set (front ++ l) end b) (drop-cons out end 0 h) ∙ set_at front (get_or out end 0) rest b end (front_length out at xs (omega arith))
    ∙ sym (append_snoc front b rest) ∙ ap (λ (l : List ℕ). l ++ rest) (append_assoc (take at out) xs (b ∷ []))
    ∙ ap (λ (k : ℕ). take at out ++ (xs ++ (b ∷ [])) ++ drop k out) n
