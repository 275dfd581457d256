-- A text that is read from a descriptor turn by turn: what a read gave, and how a turn ends. Assumes nothing.
use Rattle.std.specs.Prelude.{Bool, cond, ◌≡◌, List, [], ◌∷◌, ℕ, eqb, length, take, Option, Some, None, Result, Ok, Err, is_ok}
use Rattle.std.specs.Option.{unwrap_or}
use Rattle.lines.specs.declared.Broke.{Broke}
use Rattle.lines.specs.declared.Broke.TheVariants.{More, CannotRead, CannotWrite}

-- how many bytes are read at once, and as many turns as a u64 counts
abbrev pub most_piece : ℕ
most_piece = 16384

abbrev pub most_turns : ℕ
most_turns = 18446744073709551615

-- how an input ended: all was read, or why not
abbrev pub End : Type 0
End = Result Unit Broke

-- all was read
abbrev pub all_read : End
all_read = Ok tt

abbrev pub is_input : End → Bool
is_input e = is_ok e

-- the bytes that a read gave: so many of the buffer's first as it answered, none where it failed
abbrev pub given : Option ℕ → List ℕ → List ℕ
given (Some n) buffer = take n buffer
given None buffer = []

-- how it ends with a turn that read something: it doesn't, where all that this comes to could be written
abbrev pub closed_by : Bool → Option End
closed_by wrote = cond wrote None (Some (Err CannotWrite))

-- how the input ends with a turn, by what the read answered and whether all could be written: it doesn't where there may be more to read; the input
-- is at its end; it can't be read; something can't be written
unfoldable pub end_of : Option ℕ → Bool → Option End
end_of (Some n) wrote = cond (eqb n 0) (Some all_read) (closed_by wrote)
end_of None wrote = Some (Err CannotRead)

-- how it ended by its last turn
abbrev pub last_end : Option ℕ → Bool → End
last_end last wrote = unwrap_or (end_of last wrote) (Err More)

-- ---- whatever is done with a piece

module _ {A : Type 0} (f : A → List ℕ → A) where
  abbrev pub over_pieces : A → List (List ℕ) → A
  over_pieces a [] = a
  over_pieces a (x ∷ xs) = over_pieces (f a x) xs

  -- one turn: what was given is done, and the turn ends as it must
  pub record TurnsBy (a : A) (buffer : List ℕ) (got : Option ℕ) (b : A) (e : Option End) : Type 0 where
    pub state : b ≡ f a (given got buffer)
    pub wrote : Bool
    pub end : e ≡ end_of got wrote

  -- all turns: pieces were done, and it stopped for what the last read answered or because something couldn't be written; it gives up with more to
  -- read only after so many turns as nobody lives to see
  pub record DrainsBy (a b : A) (e : End) : Type 0 where
    pub pieces : List (List ℕ)
    pub state : b ≡ over_pieces a pieces
    pub last : Option ℕ
    pub wrote : Bool
    pub end : e ≡ last_end last wrote
    pub patient : e ≡ Err More → length pieces ≡ most_turns
