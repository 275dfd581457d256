-- A text and its lines, the pieces that it arrives in, and where it stands in a buffer. Assumes nothing.
use Rattle.std.specs.Prelude.{Bool, true, false, cond, List, [], ◌∷◌, ◌++◌, ℕ, ◌+◌, ◌-◌, ◌^◌, ltb, eqb, length, take, drop}

abbrev pub line_feed : ℕ
line_feed = 10

-- a line is what stands before a line feed; a last line without one counts if it isn't empty
abbrev pub on_line : Bool → ℕ → List (List ℕ) → List (List ℕ)
on_line true b ls = [] ∷ ls
on_line false b [] = (b ∷ []) ∷ []
on_line false b (l ∷ ls) = (b ∷ l) ∷ ls

abbrev pub lines : List ℕ → List (List ℕ)
lines [] = []
lines (b ∷ bs) = on_line (eqb b line_feed) b (lines bs)

-- what stands after the last line feed, where p was begun before
abbrev pub rest_after : List ℕ → List ℕ → List ℕ
rest_after p [] = p
rest_after p (b ∷ bs) = cond (eqb b line_feed) (rest_after [] bs) (rest_after (p ++ (b ∷ [])) bs)

-- the text that pieces are
abbrev pub together : List (List ℕ) → List ℕ
together [] = []
together (x ∷ xs) = x ++ together xs

-- a list with another put in at a place
abbrev pub placed : List ℕ → ℕ → List ℕ → List ℕ
placed out at xs = take at out ++ xs ++ drop (at + length xs) out

-- one more is counted as far as a number goes
abbrev pub most_counted : ℕ
most_counted = 2 ^ 64 - 1

unfoldable pub one_more : ℕ → ℕ
one_more n = cond (ltb n most_counted) (n + 1) n
