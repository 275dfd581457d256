-- A run: what happens to a record, one event after the other, and what is left. Every promise is about runs from a fresh cluster.
-- Assumes nothing.
use Rattle.std.specs.Prelude.{◌≡◌, ◌≢◌, true, List, [], ◌∷◌}
use Rattle.cluster.specs.declared.Cluster.{Cluster}
use Rattle.steps.specs.declared.Step.{Step}
use Rattle.steps.specs.declared.Answer.TheVariants.{Done}
use Rattle.steps.specs.Ranges.{FitsStep}
use Rattle.wholes.specs.Starts.{Opening, fresh_of}
use Rattle.rules.specs.Rules.{is_start, step_of}
use Rattle.saved.specs.Saved.{save_of}
use Rattle.loads.specs.Loads.{load_of}

-- a step comes, and is done or refused; or the record is saved, and the text is loaded by a program that had some other
pub data Event : Type 0 where
  comes : Step → Event
  overnight : Cluster → Event

-- the record after an event, and after a run
abbrev pub happens : Cluster → Event → Cluster
happens c (comes s) = (step_of c s).cluster
happens c (overnight d) = (load_of d (save_of c)).cluster

abbrev pub run_to : Cluster → List Event → Cluster
run_to c [] = c
run_to c (e ∷ es) = run_to (happens c e) es

-- an event that begins no new cluster: a step fits its bytes, and it is no start that succeeds
abbrev pub GoesOn : Cluster → Event → Type 0
GoesOn c (comes s) = FitsStep s × (is_start s ≡ true → (step_of c s).answer ≢ Done)
GoesOn c (overnight d) = Unit {0}

-- each event from c on is such a one
abbrev pub Onward : Cluster → List Event → Type 0
Onward c [] = Unit {0}
Onward c (e ∷ es) = GoesOn c e × Onward (happens c e) es

-- d lies onward from c
pub record LeadsTo (c d : Cluster) : Type 0 where
  pub events : List Event
  pub onward : Onward c events
  pub ends : run_to c events ≡ d

-- c comes from a fresh cluster of two to seven servers, with any followers that a start allows
pub record FromFresh (c : Cluster) : Type 0 where
  pub opening : Opening
  pub leads : LeadsTo (fresh_of opening) c
