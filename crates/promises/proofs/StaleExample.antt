-- A run of three servers, computed: a primary's commit point goes by a note that is out of date, after another won a higher term, and what it
-- covers is kept.
-- Assumes nothing.
use mathlib.Core.Path.{◌≡◌, refl}
use mathlib.Core.Bool.{true}
use mathlib.Core.List.{List, [], ◌∷◌}
use native.Mathlib.Omega.{arith}
use lib.Dec.{eqb}
use Rattle.base.specs.Numbers.{count}
use Rattle.base.proofs.Cases.{◌▸◌}
use Rattle.clock.specs.Times.{zero_time}
use Rattle.server_log.specs.Logs.{live}
use Rattle.mail.specs.Mails.{note_at}
use Rattle.cluster.specs.declared.Cluster.{Cluster}
use Rattle.cluster.specs.Servers.{server_at, fresh_cluster}
use Rattle.steps.specs.declared.Step.{Step}
use Rattle.steps.specs.declared.Step.TheVariants.{Elect, Hears, Pulls, Writes, Advances, TakesReport}
use Rattle.pairs.specs.Hears.{takes_commit, heard_of}
use Rattle.promises.specs.Runs.{run_to}
use Rattle.promises.specs.Demand3.{first_of, holds, Kept}
use Rattle.promises.proofs.Demand3.{demand_3}
use Rattle.promises.proofs.RoofExample.{coming, moment as example, build, lead_on, three_fresh}

-- server 0 wins term 1 and writes build 41; server 2 pulls it and reports, and wins term 2 with server 1; only then does server 0 take that
-- report, and its commit point covers build 41
abbrev until : List Step
until = Elect 0 3 ∷ Writes 0 5 41 zero_time ∷ Pulls 2 0 ∷ Elect 2 6 ∷ TakesReport 0 ∷ Advances 0 ∷ []

-- server 2 writes build 42; server 0 hears of its term, pulls and reports, and server 2's commit point covers both
abbrev onwards : List Step
onwards = Writes 2 5 42 zero_time ∷ Hears 0 2 ∷ Pulls 0 2 ∷ TakesReport 2 ∷ Advances 2 ∷ []

unfoldable pub moment : Cluster
unfolding example takes_commit heard_of
moment = run_to (fresh_cluster 3 0) (coming until)

pub end : Cluster
unfolding moment
end = run_to moment (coming onwards)

-- ---- what is seen

-- server 0 is primary in term 1, and it alone is in that term: server 2 is primary in term 2
pub overtaken : ((server_at moment 0).head.primary ≡ true) × ((server_at moment 2).head.primary ≡ true) × ((server_at moment 2).head.term ≡ 2)
unfolding moment
overtaken = (refl, refl, refl)

pub alone_in_its_term : count 3 (λ i. eqb (server_at moment i).head.term 1) ≡ 1
unfolding moment
alone_in_its_term = refl

-- its note of server 2 is of term 1, and with that it covers build 41
pub stale : note_at (server_at moment 0).mail 2 ≡ record { term = 1; last = 1; len = 1 }
unfolding moment
stale = refl

pub covered : (server_at moment 0).head.commit ≡ 1
unfolding moment
covered = refl

pub build_41 : first_of moment 0 1 ≡ build 1 41 0 ∷ []
unfolding moment
build_41 = refl

-- servers 0 and 2 hold build 41 in the end, and build 42 after it
pub still_held : count 3 (holds end (first_of moment 0 1)) ≡ 2
unfolding end moment
still_held = refl

pub after_it : live (server_at end 0).log ≡ build 1 41 0 ∷ build 2 42 1 ∷ []
unfolding end moment
after_it = refl

pub covered_by_both : (server_at end 2).head.commit ≡ 2
unfolding end moment
covered_by_both = refl

-- ---- the promise applies to it

pub kept : Kept moment end 0 1
unfolding end moment
kept =
    (demand_3 moment end (three_fresh (lead_on (fresh_cluster 3 0) until (omega arith ▸ omega arith ▸ omega arith ▸ omega arith ▸ omega arith ▸ omega arith ▸ tt))) (lead_on moment onwards (omega arith ▸ omega arith ▸ omega arith ▸ omega arith ▸ omega arith ▸ tt))).kept 0 1 (omega arith) (omega arith) (omega arith)
