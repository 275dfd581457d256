-- One bridge between the program's texts and runs, for every promise: what a program is given from a start line on is a run from a fresh
-- cluster, and every run is some text's. A promise about texts is then a promise about these runs.
-- Assumes nothing.
use Rattle.std.specs.Prelude.{◌≡◌, true, List, [], ◌∷◌, ◌++◌, ℕ, Option, Some, None}
use Rattle.cluster.specs.declared.Cluster.{Cluster}
use Rattle.cluster.specs.Servers.{zero_cluster, fresh_cluster}
use Rattle.cluster.specs.WellFormed.{size_ok}
use Rattle.steps.specs.Ranges.{FitsStep}
use Rattle.wholes.specs.Starts.{Opening, fresh_of}
use Rattle.steps.specs.declared.Step.TheVariants.{Start}
use Rattle.steps.specs.declared.Answer.TheVariants.{Done}
use Rattle.steps.specs.declared.Step.{Step}
use Rattle.frames.specs.Steps.{read_step, write_step}
use Rattle.lines.specs.Texts.{lines}
use Rattle.replay.specs.Texts.{answer_to, record_after}
use Rattle.promises.specs.Runs.{Event, comes, overnight, happens, run_to, Onward}

-- ---- what a program is given

-- a line of a text; or, between two texts, its record is saved, and loaded by a program that had some other
pub data Given : Type 0 where
  a_line : List ℕ → Given
  a_night : Cluster → Given

-- the record after it, and after all that is given
abbrev pub taken_one : Cluster → Given → Cluster
taken_one c (a_line l) = (answer_to c l).cluster
taken_one c (a_night d) = happens c (overnight d)

abbrev pub taken_all : Cluster → List Given → Cluster
taken_all c [] = c
taken_all c (g ∷ gs) = taken_all (taken_one c g) gs

-- a start line that begins a new cluster of n servers with the followers f, given to the record c: it reads as that start, and it is answered
-- with done
pub record Begins (c : Cluster) (start : List ℕ) (n f : ℕ) : Type 0 where
  pub reads : read_step start ≡ Some (Start n f)
  pub done : (answer_to c start).answer ≡ Done

-- nothing of what is given from c on begins a new cluster; bad lines, refused lines and all else are among it
abbrev pub NoneBegins : Cluster → List Given → Type 0
NoneBegins c [] = Unit {0}
NoneBegins c (a_line l ∷ gs) = ((n f : ℕ) → Begins c l n f → ⊥) × NoneBegins (answer_to c l).cluster gs
NoneBegins c (a_night d ∷ gs) = NoneBegins (happens c (overnight d)) gs

-- the events of it: a line is the step that it reads as, and none where it is no frame
abbrev pub with_read : Option Step → List Event → List Event
with_read (Some s) es = comes s ∷ es
with_read None es = es

abbrev pub events_in : List Given → List Event
events_in [] = []
events_in (a_line l ∷ gs) = with_read (read_step l) (events_in gs)
events_in (a_night d ∷ gs) = overnight d ∷ events_in gs

-- ---- texts are runs

-- c is the record that such a start line leaves
pub record FreshOf (c : Cluster) (n f : ℕ) : Type 0 where
  pub fits : FitsStep (Start n f)
  pub allowed : size_ok n f ≡ true
  pub is : c ≡ fresh_cluster n f

-- what is given from c on is a run, and it leaves what the program has
pub record IsRun (c : Cluster) (gs : List Given) : Type 0 where
  pub onward : Onward c (events_in gs)
  pub same : run_to c (events_in gs) ≡ taken_all c gs

-- whatever a program was given before, from each start line that begins a cluster on, as far as none begins the next: the record at each moment
-- comes from fresh, and the later ones lie onward
pub record TextsAreRuns : Type 0 where
  pub begun : (c : Cluster) (start : List ℕ) (n f : ℕ) → Begins c start n f → FreshOf (answer_to c start).cluster n f
  pub goes_on : (c : Cluster) (gs : List Given) → NoneBegins c gs → IsRun c gs

-- ---- runs are texts

-- the lines of a run's steps; a saving needs none, since it gives back the record
abbrev pub lines_for : List Event → List (List ℕ)
lines_for [] = []
lines_for (comes s ∷ es) = write_step s ∷ lines_for es
lines_for (overnight d ∷ es) = lines_for es

-- a text of a start line and these, which a new program is given: after the lines of each beginning of the run it has the run's record
pub record AsText (z : Opening) (run : List Event) : Type 0 where
  pub text : List ℕ
  pub is : lines text ≡ write_step (Start z.servers z.followers) ∷ lines_for run
  pub moments : (es more : List Event) → run ≡ es ++ more
      → record_after zero_cluster (write_step (Start z.servers z.followers) ∷ lines_for es) ≡ run_to (fresh_of z) es

abbrev pub RunsAreTexts : Type 0
RunsAreTexts = (z : Opening) (run : List Event) → Onward (fresh_of z) run → AsText z run
