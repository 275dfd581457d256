-- Two runs of three servers, computed: a new primary's newest read shows what an older one covered, and a primary that has been overtaken is
-- never answered for its entry.
-- Assumes nothing.
use mathlib.Core.Path.{◌≡◌, refl}
use mathlib.Core.Logic.{◌≢◌}
use mathlib.Core.List.{List, [], ◌∷◌}
use Prim.Native.Nat.{ℕ}
use native.Mathlib.Omega.{arith}
use Rattle.base.proofs.Cases.{◌▸◌}
use Rattle.clock.specs.declared.Time.{Time}
use Rattle.clock.specs.Times.{zero_time}
use Rattle.server_log.specs.Entries.{has_entry}
use Rattle.server_log.specs.Logs.{may_ask}
use Rattle.cluster.specs.declared.Cluster.{Cluster}
use Rattle.cluster.specs.Servers.{server_at, fresh_cluster}
use Rattle.steps.specs.declared.Step.{Step}
use Rattle.steps.specs.declared.Step.TheVariants.{Elect, Pulls, Writes, Advances, WritesNothing, NewestRead, TakesReport}
use Rattle.steps.specs.declared.Answer.TheVariants.{Entry, Value, Refused}
use Rattle.steps.specs.declared.Refusal.TheVariants.{ConditionUnmet, NotYet}
use Rattle.rules.specs.Rules.{step_of}
use Rattle.promises.specs.Runs.{run_to, LeadsTo, FromFresh}
use Rattle.promises.specs.Newest.{Reading, reading_step, reading_answer, TakenIn}
use Rattle.promises.proofs.Turns.{leads_on, fresh_on}
use Rattle.promises.proofs.Newest.{newest_read}
use Rattle.promises.proofs.RoofExample.{coming, moment, lead_on, three_fresh, from_fresh}

abbrev second : Time
second = record { p = 1; l = 1 }

-- ---- a read that shows what an older primary covered

-- build 41 is covered under server 0, as in `Example`; server 1 wins term 2 and is asked to write nothing; server 2 pulls that and
-- reports, and server 1's commit point covers it
abbrev on : List Step
on = Elect 1 6 ∷ []

abbrev after : List Step
after = Pulls 2 1 ∷ TakesReport 1 ∷ Advances 1 ∷ []

-- key 5 is asked for at server 1
abbrev pub reading : Reading
reading = record { server = 1; key = 5; position = 2; term = 2; value = 41; time = second }

-- the record when server 1 is asked, after it has written nothing, and when the read is asked for
abbrev asked : Cluster
asked = run_to moment (coming on)

abbrev written : Cluster
written = (step_of asked (WritesNothing 1)).cluster

pub end : Cluster
unfolding moment may_ask has_entry
end = run_to written (coming after)

pub answered : (step_of end (reading_step reading)).answer ≡ reading_answer reading
unfolding end moment
answered = refl

pub from_fresh_end : FromFresh end
unfolding end moment
from_fresh_end = fresh_on from_fresh (leads_on (lead_on moment (Elect 1 6 ∷ WritesNothing 1 ∷ []) (omega arith)) (lead_on written after (omega arith)))

pub taken_in : TakenIn moment end 0 1 reading
unfolding end moment
taken_in =
    (newest_read moment asked end 1 reading second from_fresh (lead_on moment on (omega arith)) refl (lead_on written after (omega arith)) answered).taken_in
    0 1 (omega arith) (omega arith) (omega arith)

-- ---- a primary that has been overtaken

-- server 0 wins term 1, server 1 term 2; server 1 writes build 42, server 2 pulls it and reports, and server 1's commit point covers it
abbrev overtaken : List Step
overtaken = Elect 0 3 ∷ Elect 1 6 ∷ Writes 1 5 42 zero_time ∷ Pulls 2 1 ∷ TakesReport 1 ∷ Advances 1 ∷ []

pub behind : Cluster
unfolding moment may_ask has_entry
behind = run_to (fresh_cluster 3 0) (coming overtaken)

pub covered : (server_at behind 1).head.commit ≡ 1
unfolding behind
covered = refl

-- server 0 is still primary and appends its entry, but no majority backs it
pub appends : (step_of behind (WritesNothing 0)).answer ≡ Entry 1 1 (record { p = 1; l = 0 })
unfolding behind
appends = refl

pub not_backed : (step_of (step_of behind (WritesNothing 0)).cluster (Advances 0)).answer ≡ Refused ConditionUnmet
unfolding behind
not_backed = refl

pub not_yet : (step_of (run_to (step_of behind (WritesNothing 0)).cluster (coming (Advances 0 ∷ []))) (NewestRead 0 5 1 1)).answer ≡ Refused NotYet
unfolding behind
not_yet = refl

-- and whatever happens after, a read up to that entry is answered at no server: build 42 would have to stand below it
pub never_answered : (y : Cluster) → LeadsTo (step_of behind (WritesNothing 0)).cluster y → (q key v : ℕ) (t : Time)
    → (step_of y (NewestRead q key 1 1)).answer ≢ Value v t
unfolding behind
never_answered y l q key v t e =
    omega (arith, ((newest_read behind behind y 0 (record { server = q; key = key; position = 1; term = 1; value = v; time = t }) (record { p = 1; l = 0 }) (three_fresh (lead_on (fresh_cluster 3 0) overtaken (omega arith ▸ omega arith ▸ omega arith ▸ omega arith ▸ omega arith ▸ omega arith ▸ tt))) (lead_on behind [] tt) refl l e).taken_in 1 1 (omega arith) (omega arith) (omega arith)).below)
