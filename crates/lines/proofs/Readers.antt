-- Laws of the reader: what it stands for, that it has one form for each part of a line, and that nothing else of it ever shows. Assumes nothing.
use mathlib.Core.Path.{◌≡◌, refl, ap, ◌∙◌}
use mathlib.Core.Bool.{Bool, true, false, cond}
use mathlib.Core.Logic.{◌⊎◌, inl, inr}
use mathlib.Core.List.{List, [], ◌∷◌, ◌++◌}
use Prim.Native.Nat.{ℕ, ◌≤◌}
use borrow.Author.Tests.{leb-true, leb-false, eq-eqb, ne_eqb}
use lib.Dec.{leb, eqb}
use lib.ListN.{length}
use Rattle.lines.specs.Texts.{line_feed, rest_after}
use Rattle.lines.specs.Held.{too_long}
use Rattle.lines.specs.Readers.{Reader, width, reader_of, fresh_reader, line_held, push_of, reader_after, reader_over, reader_for}
use Rattle.lines.proofs.Held as Held

-- a reader stands for the bytes p that it was given since the last line feed
abbrev pub StandsFor : Reader → List ℕ → Type 0
StandsFor r p = Held.StandsFor width r.held r.fill r.over p

pub fresh_holds : StandsFor fresh_reader []
fresh_holds = Held.empty_stands refl refl

pub push_holds : (r : Reader) {p : List ℕ} (b : ℕ) → StandsFor r p → StandsFor (push_of r b) (p ++ (b ∷ []))
unfolding push_of
push_holds r {p} b h = Held.push_holds width reader_of (λ q. StandsFor q (p ++ (b ∷ []))) b (λ held fill over q. q) h

-- a byte, by what it is
pub after_feed : (r : Reader) (b : ℕ) → b ≡ line_feed → reader_after r b ≡ fresh_reader
unfolding reader_after
after_feed r b e = rw (eq-eqb b line_feed e)

pub character_holds : (r : Reader) {p : List ℕ} (b : ℕ) → (b ≡ line_feed → ⊥) → StandsFor r p → StandsFor (reader_after r b) (p ++ (b ∷ []))
unfolding reader_after
character_holds r b e h = rw (ne_eqb b line_feed e) (push_holds r b h)

-- as many characters are kept as before
pub slots_kept : (r : Reader) (b : ℕ) → length r.held ≡ width → length (reader_after r b).held ≡ width
unfolding reader_after push_of
slots_kept r b k = go (eqb b line_feed)
  where
    go : (x : Bool) → length (cond {A = Reader} x fresh_reader (push_of r b)).held ≡ width
    go true = refl
    go false = Held.push_slots width reader_of r.held r.fill r.over b (λ q. length q.held ≡ width) (λ held fill over q. q) k

-- ---- one form for each part of a line

pub push_form : (p : List ℕ) (b : ℕ) → push_of (reader_for p) b ≡ reader_for (p ++ (b ∷ []))
unfolding push_of reader_for
push_form p b = go (leb (length p) width) refl
  where
    go : (x : Bool) → leb (length p) width ≡ x → push_of (reader_for p) b ≡ reader_for (p ++ (b ∷ []))
    go true e = rw e (Held.push_kept width reader_of p b (leb-true (length p) width e))
    go false e = rw e (Held.push_long width reader_of p b (leb-false (length p) width e))

-- however a text is cut, the reader that has read it is the one for what stands after its last line feed
pub reader_form : (p text : List ℕ) → reader_over (reader_for p) text ≡ reader_for (rest_after p text)
unfolding reader_after reader_for
reader_form p [] = refl
reader_form p (b ∷ text) = go (eqb b line_feed) (reader_form [] text) (reader_form (p ++ (b ∷ [])) text)
  where
    go : (x : Bool) → reader_over (reader_for []) text ≡ reader_for (rest_after [] text) → reader_over (reader_for (p ++ (b ∷ []))) text ≡ reader_for (rest_after (p ++ (b ∷ [])) text)
        → reader_over (cond x fresh_reader (push_of (reader_for p) b)) text ≡ reader_for (cond x (rest_after [] text) (rest_after (p ++ (b ∷ [])) text))
    go true ends goes = ends
    go false ends goes = ap (λ (r : Reader). reader_over r text) (push_form p b) ∙ goes

pub one_reader : (text : List ℕ) → reader_over fresh_reader text ≡ reader_for (rest_after [] text)
unfolding reader_for
one_reader text = reader_form [] text

-- whatever came in, a line that is too long has its one form at once
pub long_form : (r : Reader) (b : ℕ) → (r.over ≡ true) ⊎ (width ≤ r.fill) → push_of r b ≡ reader_for (too_long width)
unfolding push_of reader_for
long_form r b (inl e) = Held.push_over width reader_of r.held r.fill r.over b e
long_form r b (inr h) = Held.push_full width reader_of r.held r.fill r.over b h

-- every reader stands for the line that it holds, and nothing else of it shows
pub stands_held : (r : Reader) → length r.held ≡ width → StandsFor r (line_held r)
unfolding line_held
stands_held r slots = Held.stands_held width r.held r.fill r.over slots
