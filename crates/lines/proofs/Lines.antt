-- The lines of a text that begins with bytes that are no line feeds, and one piece more of a text. Assumes nothing.
use mathlib.Core.Path.{◌≡◌, refl, sym, ap, ◌∙◌}
use mathlib.Core.Bool.{Bool, false}
use mathlib.Core.List.{List, [], ◌∷◌, ◌++◌, append_assoc, append-nil}
use Prim.Native.Nat.{ℕ}
use lib.Dec.{eqb}
use Rattle.lines.specs.Texts.{line_feed, on_line, lines, together}

-- bytes with no line feed among them
pub data Plain : List ℕ → Type 0 where
  none : Plain []
  more : {b : ℕ} {bs : List ℕ} → eqb b line_feed ≡ false → Plain bs → Plain (b ∷ bs)

pub plain_snoc : {p : List ℕ} (b : ℕ) → Plain p → eqb b line_feed ≡ false → Plain (p ++ (b ∷ []))
plain_snoc b none e = more e none
plain_snoc b (more h r) e = more h (plain_snoc b r e)

-- the lines of a text that begins with such bytes
pub line_first : {p : List ℕ} (t : List ℕ) → Plain p → lines (p ++ (line_feed ∷ t)) ≡ p ∷ lines t
line_first t none = refl
line_first t (more {b} {bs} e r) = ap (λ (x : Bool). on_line x b (lines (bs ++ (line_feed ∷ t)))) e ∙ ap (on_line false b) (line_first t r)

pub line_last : (b : ℕ) (bs : List ℕ) → eqb b line_feed ≡ false → Plain bs → lines (b ∷ bs) ≡ (b ∷ bs) ∷ []
line_last b [] e q = ap (λ (x : Bool). on_line x b []) e
line_last b (d ∷ ds) e (more f r) = ap (λ (x : Bool). on_line x b (lines (d ∷ ds))) e ∙ ap (on_line false b) (line_last d ds f r)

-- one piece more
pub together_more : (xs : List (List ℕ)) (x : List ℕ) → together (xs ++ (x ∷ [])) ≡ together xs ++ x
together_more [] x = append-nil x
together_more (y ∷ ys) x = ap (λ (l : List ℕ). y ++ l) (together_more ys x) ∙ sym (append_assoc y (together ys) x)
