-- Byte by byte, what is done with the lines of a text is done with each of them once and in turn, however the text is cut. Assumes nothing.
use mathlib.Core.Path.{◌≡◌, refl, sym, ap, ◌∙◌}
use mathlib.Core.Bool.{Bool, true, false, cond}
use mathlib.Core.List.{List, [], ◌∷◌, ◌++◌, append_assoc, append-nil}
use Prim.Native.Nat.{ℕ, ◌+◌, ◌<◌}
use native.Mathlib.Numerals.{add-one}
use borrow.Author.Tests.{eqb-true, eq-eqb, ne_eqb}
use lib.Dec.{eqb}
use lib.ListN.{length, get_or, drop}
use lib.Seq.{drop-cons, drop-length}
use Rattle.lines.specs.Texts.{line_feed, lines}
use Rattle.lines.specs.Readers.{Reader, fresh_reader, line_held, push_of, reader_after, reader_over}
use Rattle.lines.specs.Folds.{over_lines, byte_after, over_bytes, at_end}
use Rattle.lines.proofs.Held.{held_empty, held_some}
use Rattle.lines.proofs.Lines.{Plain, none, more, plain_snoc, line_first, line_last}
use Rattle.lines.proofs.Readers.{StandsFor, fresh_holds, push_holds}

pub reader_append : (r : Reader) (x y : List ℕ) → reader_over r (x ++ y) ≡ reader_over (reader_over r x) y
reader_append r [] y = refl
reader_append r (b ∷ x) y = reader_append (reader_after r b) x y

module _ {A : Type 0} (f : A → List ℕ → A) where
  pub bytes_append : (a : A) (r : Reader) (x y : List ℕ) → over_bytes f a r (x ++ y) ≡ over_bytes f (over_bytes f a r x) (reader_over r x) y
  bytes_append a r [] y = refl
  bytes_append a r (b ∷ x) y = bytes_append (byte_after f a r b) (reader_after r b) x y

  pub lines_append : (a : A) (xs ys : List (List ℕ)) → over_lines f a (xs ++ ys) ≡ over_lines f (over_lines f a xs) ys
  lines_append a [] ys = refl
  lines_append a (x ∷ xs) ys = lines_append (f a x) xs ys

  -- a line that is held is taken like the one that it stands for
  abbrev pub Alike : Type 0
  Alike = (a : A) (r : Reader) (p : List ℕ) → StandsFor r p → f a (line_held r) ≡ f a p

  -- from any point of a line
  abbrev From : List ℕ → Type 0
  From text =
      (a : A) (r : Reader) (p : List ℕ) → Plain p → StandsFor r p → at_end f (over_bytes f a r text) (reader_over r text) ≡ over_lines f a (lines (p ++ text))

  module _ (same : Alike) where
    from : (text : List ℕ) → From text
    unfolding at_end byte_after reader_after
    from [] a r [] q h = simp (held_empty h)
    from [] a r (b ∷ p) (more e q) h =
        simp (held_some h)
        (same a r (b ∷ p) h ∙ sym (ap (over_lines f a) (ap (λ (l : List ℕ). lines (b ∷ l)) (append-nil p) ∙ line_last b p e q)))
    from (b ∷ text) a r p q h = go (from text) (eqb b line_feed) refl
      where
        go : From text → (x : Bool) → eqb b line_feed ≡ x
            → at_end f (over_bytes f (cond x (f a (line_held r)) a) (cond x fresh_reader (push_of r b)) text) (reader_over (cond x fresh_reader (push_of r b)) text)
            ≡ over_lines f a (lines (p ++ (b ∷ text)))
        go next true e =
            next (f a (line_held r)) fresh_reader [] none fresh_holds ∙ ap (λ (x : A). over_lines f x (lines text)) (same a r p h)
            ∙ sym (ap (over_lines f a) (ap (λ (k : ℕ). lines (p ++ (k ∷ text))) (eqb-true b line_feed e) ∙ line_first text q))
        go next false e =
            next a (push_of r b) (p ++ (b ∷ [])) (plain_snoc b q e) (push_holds r b h)
            ∙ ap (λ (l : List ℕ). over_lines f a (lines l)) (append_assoc p (b ∷ []) text)

    -- THE THEOREM
    pub folded : (a : A) (text : List ℕ) → at_end f (over_bytes f a fresh_reader text) (reader_over fresh_reader text) ≡ over_lines f a (lines text)
    folded a text = from text a fresh_reader [] none fresh_holds

  -- ---- the loop that takes byte after byte

  -- a byte that ends the line, and any other
  pub by_feed : (a : A) (r : Reader) (b : ℕ) → b ≡ line_feed → f a (line_held r) ≡ byte_after f a r b
  unfolding byte_after
  by_feed a r b e = rw (eq-eqb b line_feed e)

  pub by_character : (a : A) (r : Reader) (b : ℕ) → (b ≡ line_feed → ⊥) → a ≡ byte_after f a r b
  unfolding byte_after
  by_character a r b e = rw (ne_eqb b line_feed e)

  -- what comes of the rest of a piece comes of all of it
  pub record Upto (a₀ : A) (r₀ : Reader) (piece : List ℕ) (a : A) (r : Reader) (i : ℕ) : Type 0 where
    pub state : over_bytes f a r (drop i piece) ≡ over_bytes f a₀ r₀ piece
    pub reader : reader_over r (drop i piece) ≡ reader_over r₀ piece

  pub upto_none : (a₀ : A) (r₀ : Reader) (piece : List ℕ) → Upto a₀ r₀ piece a₀ r₀ 0
  upto_none a₀ r₀ piece = record { state = refl; reader = refl }

  module _ {a₀ : A} {r₀ : Reader} {piece : List ℕ} {a : A} {r : Reader} {i : ℕ} (u : Upto a₀ r₀ piece a r i) where
    one : i < length piece → drop i piece ≡ get_or piece i 0 ∷ drop (i + 1) piece
    one h = rw (add-one, drop-cons piece i 0)

    upto_more : i < length piece → Upto a₀ r₀ piece (byte_after f a r (get_or piece i 0)) (reader_after r (get_or piece i 0)) (i + 1)
    upto_more h =
        record {
          state = sym (ap (over_bytes f a r) (one h)) ∙ u.state;
          reader = sym (ap (reader_over r) (one h)) ∙ u.reader;
        }

    pub upto_byte : (x : A) (q : Reader) → i < length piece → x ≡ byte_after f a r (get_or piece i 0) → q ≡ reader_after r (get_or piece i 0) → Upto a₀ r₀ piece x q (i + 1)
    upto_byte x q h s t = rw (s, t) (upto_more h)

    -- nothing of the piece is left
    pub upto_all : i ≡ length piece → (a ≡ over_bytes f a₀ r₀ piece) × (r ≡ reader_over r₀ piece)
    upto_all h =
        let none_left : drop i piece ≡ [] = ap (λ (k : ℕ). drop k piece) h ∙ drop-length piece in (
          sym (ap (over_bytes f a r) none_left) ∙ u.state,
          sym (ap (reader_over r) none_left) ∙ u.reader,
        )
