-- The layout of a step frame: kind, a, b, set or count, key, number (2), term (2), p (2), l (2), high byte first. Assumes nothing.
use Rattle.std.specs.Prelude.{List, [], ◌∷◌, ℕ}
use Rattle.steps.specs.declared.Frame.{Frame}
use Rattle.steps.specs.Fields.{fields}
use Rattle.words.specs.Words.{high_of, low_of, byte_at, word_at}

abbrev pub step_bytes : ℕ
step_bytes = 13

-- the bytes of the fields
unfoldable pub bytes_of_frame : Frame → List ℕ
bytes_of_frame f =
    f.kind ∷ f.a ∷ f.b ∷ f.set ∷ f.key ∷ high_of f.number ∷ low_of f.number ∷ high_of f.term ∷ low_of f.term
    ∷ high_of f.time.p ∷ low_of f.time.p ∷ high_of f.time.l ∷ low_of f.time.l ∷ []

-- the fields at their places
unfoldable pub frame_of : List ℕ → Frame
frame_of bs =
    fields (byte_at bs 0) (byte_at bs 1) (byte_at bs 2) (byte_at bs 3) (byte_at bs 4) (word_at bs 5) (word_at bs 7)
    (record { p = word_at bs 9; l = word_at bs 11 })
