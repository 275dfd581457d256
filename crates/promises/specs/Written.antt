-- What the program writes for a text: no refusal 9, refusals alone before the first start, and over a saving what it would have written without.
-- Assumes nothing.
use Rattle.std.specs.Prelude.{◌≡◌, ◌≢◌, ◌⊎◌, Bool, true, List, [], ◌∷◌, ◌++◌, map, ℕ, eqb, get_or, Some, Err}
use Rattle.cluster.specs.declared.Cluster.{Cluster}
use Rattle.cluster.specs.Ranges.{Fits}
use Rattle.cluster.specs.Servers.{zero_cluster}
use Rattle.cluster.specs.WellFormed.{well_formed}
use Rattle.steps.specs.declared.Answer.TheVariants.{Refused}
use Rattle.steps.specs.declared.Refusal.{Refusal}
use Rattle.steps.specs.declared.Refusal.TheVariants.{BelowCommitPoint}
use Rattle.answers.specs.Answers.{read_answer}
use Rattle.lines.specs.Texts.{line_feed, lines}
use Rattle.replay.specs.Texts.{answer_to, record_after, answers, leaves}
use Rattle.saved.specs.Saved.{save_of}
use Rattle.loads.specs.Loads.{load_of}
use Rattle.promises.specs.Runs.{FromFresh}
use Rattle.promises.specs.Texts.{a_line, NoneBegins}

-- no line that the program writes reads as refusal 9, whatever text it is given, new or with a record that comes from fresh
abbrev pub Never9Written : Type 0
Never9Written =
    (c : Cluster) → (c ≡ zero_cluster) ⊎ FromFresh c → (text : List ℕ) (i : ℕ)
    → read_answer (get_or (lines (answers c text)) i []) ≢ Some (Err BelowCommitPoint)

-- a new program refuses every line until one begins a cluster
abbrev pub RefusedBeforeAStart : Type 0
RefusedBeforeAStart =
    (ls : List (List ℕ)) (l : List ℕ) → NoneBegins zero_cluster (map a_line (ls ++ (l ∷ [])))
    → (r : Refusal) × ((answer_to (record_after zero_cluster ls) l).answer ≡ Refused r)

-- a text whose last line is ended: it is empty, or its last byte is a line feed
abbrev pub is_ended : List ℕ → Bool
is_ended [] = true
is_ended (b ∷ []) = eqb b line_feed
is_ended (b ∷ d ∷ bs) = is_ended (d ∷ bs)

-- an evening's text, and the next morning's over what was saved in the evening: its answers are the rest of those to both texts as one, and so
-- is the record that it leaves. In the evening the program may have begun with any record; what it leaves has to be one that can be saved
abbrev pub CarriedInTexts : Type 0
CarriedInTexts =
    (c d : Cluster) (evening morning : List ℕ) → Fits c → is_ended evening ≡ true → well_formed (leaves c evening) ≡ true
    → let y = (load_of d (save_of (leaves c evening))).cluster in
    (answers c (evening ++ morning) ≡ answers c evening ++ answers y morning) × (leaves c (evening ++ morning) ≡ leaves y morning)
