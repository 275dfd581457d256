-- Loading and saving: what reading on does with what was read, and the record that a text leads to. Nobody has to believe this: the texts
-- that are loaded are the ones that `loads_exactly` says. Assumes nothing.
use Rattle.std.specs.Prelude.{◌≡◌, Bool, not, ◌&&◌, ◌||◌, List, [], ◌∷◌, ◌++◌, true, false, cond, ℕ, ltb, length, Option, Some, None, Err}
use Rattle.cluster.specs.declared.Cluster.{Cluster}
use Rattle.cluster.specs.Servers.{zero_cluster}
use Rattle.steps.specs.declared.Answer.{Answer}
use Rattle.steps.specs.declared.Answer.TheVariants as A
use Rattle.lines.specs.Texts.{together}
use Rattle.saved.specs.Written.{longest}
use Rattle.shapes.specs.declared.Shape.{Shape}
use Rattle.shapes.specs.Walk.{walked}
use Rattle.loads.specs.Loads.{load_of}
use Rattle.lines.specs.declared.Broke.TheVariants.{More}
use Rattle.lines.specs.Turns.{End, is_input, most_turns, last_end}
use Rattle.shell.specs.declared.saves.Walked.{Walked}

-- a piece that comes on the way: every byte of it is walked on from the shape before
abbrev pub walked_on : Walked → List ℕ → Walked
walked_on w [] = w
walked_on w (b ∷ bs) = record { shape = walked w.shape (b ∷ bs); came = true }

-- all turns: the shape is walked through pieces, of which none has a byte where nothing came, and it stopped for what the last read
-- answered; it gives up with more to read only after so many turns as nobody lives to see
pub record WalksOn (s : Shape) (r : Walked × End) : Type 0 where
  pub pieces : List (List ℕ)
  pub shape : r.0.shape ≡ walked s (together pieces)
  pub none : r.0.came ≡ false → together pieces ≡ []
  pub last : Option ℕ
  pub end : r.1 ≡ last_end last true
  pub patient : r.1 ≡ Err More → length pieces ≡ most_turns

-- it was read to its end, and where something came of that, so much is kept that it is longer than any saved form
unfoldable pub is_whole : Walked → End → ℕ → Bool
is_whole w e n = is_input e && (not w.came || ltb longest n)

-- ---- the record that a text leads to

-- by the answer to loading
abbrev pub led_by : Cluster → Answer → Option Cluster
led_by c A.Done = Some c
led_by c (A.Elected term) = None
led_by c (A.Reached n) = None
led_by c (A.Entry n term time) = None
led_by c (A.Value value time) = None
led_by c (A.Refused r) = None

-- no text that is longer than every saved form
unfoldable pub led_of : List ℕ → Option Cluster
led_of text = cond (ltb longest (length text)) None (led_by (load_of zero_cluster text).cluster (load_of zero_cluster text).answer)

-- all that was read, first what is kept and then piece by piece: where all went well, it leads to the record
pub record Loads (r : Option Cluster) : Type 0 where
  pub text : List ℕ
  pub pieces : List (List ℕ)
  pub record_led : (c : Cluster) → r ≡ Some c → Some c ≡ led_of (text ++ together pieces)
