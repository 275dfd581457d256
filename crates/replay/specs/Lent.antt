-- A caller that lends its reader for one piece after the other. Assumes nothing.
use Rattle.std.specs.Prelude.{List, [], ◌∷◌, ◌++◌, ℕ, ◌*◌, ◌≤◌, length, take}
use Rattle.replay.specs.declared.Session.{Session}
use Rattle.replay.specs.Pieces.{answer_line, fed_of, fed_out}

-- from a record and a reader, pieces are fed in turn, each with a buffer that has room even if every byte were a line: the record and the reader
-- then, and all that was written
pub data FedOn : Session → List (List ℕ) → Session → List ℕ → Type 0 where
  nothing : {s : Session} → FedOn s [] s []
  piece : {s d : Session} {x : List ℕ} {xs : List (List ℕ)} {rest : List ℕ} (out : List ℕ) → answer_line * length x ≤ length out
      → FedOn (fed_of s x (length out)).session xs d rest → FedOn s (x ∷ xs) d (take (fed_of s x (length out)).wrote (fed_out s x out) ++ rest)
