-- A line that is being read, of which n characters are kept: those characters, how many there are, and whether the line is too long. What is made of
-- the three is a reader. Assumes nothing.
use Rattle.std.specs.Prelude.{Bool, true, false, cond, List, ◌++◌, ℕ, suc, ◌+◌, ◌-◌, ltb, leb, eqb, length, take, set, replicate}

-- some line that is too long
abbrev pub too_long : ℕ → List ℕ
too_long n = replicate (suc n) 0

-- the line that is held
abbrev pub held_line : ℕ → List ℕ → ℕ → Bool → List ℕ
held_line n held fill over = cond over (too_long n) (cond (leb fill n) (take fill held) (too_long n))

-- nothing of a line was read
abbrev pub nothing_held : ℕ → Bool → Bool
nothing_held fill over = cond over false (eqb fill 0)

module _ {A : Type 0} (n : ℕ) (make : List ℕ → ℕ → Bool → A) where
  -- before the first character; and a line that is too long, of which that alone is remembered
  abbrev pub nothing_read : A
  nothing_read = make (replicate n 0) 0 false

  abbrev pub only_long : A
  only_long = make (replicate n 0) 0 true

  -- one character more
  abbrev pub pushed : List ℕ → ℕ → Bool → ℕ → A
  pushed held fill over b = cond over only_long (cond (ltb fill n) (make (set held fill b) (fill + 1) false) only_long)

  -- the one form in which the part p of a line is held
  abbrev pub form_of : List ℕ → A
  form_of p = cond (leb (length p) n) (make (p ++ replicate (n - length p) 0) (length p) false) only_long
