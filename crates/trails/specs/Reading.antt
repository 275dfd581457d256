-- How a trace is read: a line with a blank is a pair, whose answer stands after the blank, and one without is a frame. Assumes nothing.
use Rattle.std.specs.Prelude.{Bool, false, cond, ◌||◌, List, [], ◌∷◌, ◌++◌, ℕ, eqb}
use Rattle.lines.specs.Texts.{line_feed}
use Rattle.traces.specs.Pairs.{blank}

abbrev pub has_blank : List ℕ → Bool
has_blank [] = false
has_blank (b ∷ bs) = eqb b blank || has_blank bs

abbrev pub after_blank : List ℕ → List ℕ
after_blank [] = []
after_blank (b ∷ bs) = cond (eqb b blank) bs (after_blank bs)

-- the answers of the pairs, a line each
abbrev pub answers_in : List (List ℕ) → List ℕ
answers_in [] = []
answers_in (l ∷ ls) = cond (has_blank l) (after_blank l ++ (line_feed ∷ [])) [] ++ answers_in ls
