-- Laws of bytes in turn, for the loops that go through them. Assumes nothing.
use mathlib.Core.Path.{◌≡◌, refl, ap, sym, ◌∙◌}
use mathlib.Core.List.{List, [], ◌∷◌, ◌++◌}
use Prim.Native.Nat.{ℕ, ◌+◌, ◌<◌}
use native.Mathlib.Numerals.{add-one}
use lib.ListN.{length, drop, get_or}
use lib.Seq.{drop-cons, drop-length}
use Rattle.traces.specs.Writing.{over_each, put_of, put_all}
use Rattle.traces.specs.declared.Pair.{Pair}
use Rattle.traces.specs.Shown.{shown_byte, shown_bytes}

-- what is left of a piece, one byte later
next_left : (piece : List ℕ) (i : ℕ) → i < length piece → drop i piece ≡ get_or piece i 0 ∷ drop (i + 1) piece
next_left piece i h = drop-cons piece i 0 h ∙ ap (λ (k : ℕ). get_or piece i 0 ∷ drop k piece) (sym (add-one i))

module _ {A : Type 0} (f : A → ℕ → A) where
  pub each_append : (a : A) (xs ys : List ℕ) → over_each f a (xs ++ ys) ≡ over_each f (over_each f a xs) ys
  each_append a [] ys = refl
  each_append a (b ∷ xs) ys = each_append (f a b) xs ys

  -- one byte more of a piece
  pub each_more : (w a r : A) (piece : List ℕ) (i : ℕ) → i < length piece → over_each f a (drop i piece) ≡ w → r ≡ f a (get_or piece i 0)
      → over_each f r (drop (i + 1) piece) ≡ w
  each_more w a r piece i h e q = ap (λ (x : A). over_each f x (drop (i + 1) piece)) q ∙ ap (over_each f a) (sym (next_left piece i h)) ∙ e

  -- nothing of it is left
  pub each_ended : (w a : A) (piece : List ℕ) (i : ℕ) → i ≡ length piece → over_each f a (drop i piece) ≡ w → a ≡ w
  each_ended w a piece i h e = sym (ap (λ (k : ℕ). over_each f a (drop k piece)) h ∙ ap (over_each f a) (drop-length piece)) ∙ e

-- the characters of one byte more
pub shown_next : (w p r : Pair) (piece : List ℕ) (i : ℕ) → i < length piece → put_all p (shown_bytes (drop i piece)) ≡ w
    → r ≡ put_all p (shown_byte (get_or piece i 0)) → put_all r (shown_bytes (drop (i + 1) piece)) ≡ w
shown_next w p r piece i h e q =
    let bs = shown_bytes (drop (i + 1) piece) in
    ap (λ (x : Pair). put_all x bs) q ∙ sym (each_append put_of p (shown_byte (get_or piece i 0)) bs)
    ∙ ap (λ (l : List ℕ). put_all p (shown_bytes l)) (sym (next_left piece i h)) ∙ e

-- nothing of it is left
pub shown_ended : (w p : Pair) (piece : List ℕ) (i : ℕ) → i ≡ length piece → put_all p (shown_bytes (drop i piece)) ≡ w → p ≡ w
shown_ended w p piece i h e =
    sym (ap (λ (k : ℕ). put_all p (shown_bytes (drop k piece))) h ∙ ap (λ (l : List ℕ). put_all p (shown_bytes l)) (drop-length piece)) ∙ e
