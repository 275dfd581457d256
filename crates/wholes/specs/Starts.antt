-- Kind 0: start. Assumes nothing.
use Rattle.std.specs.Prelude.{◌≡◌, true, [], ◌∷◌, ℕ}
use Rattle.cluster.specs.declared.Cluster.{Cluster}
use Rattle.cluster.specs.Servers.{fresh_cluster}
use Rattle.cluster.specs.WellFormed.{size_ok}
use Rattle.steps.specs.declared.Outcome.{Outcome}
use Rattle.steps.specs.declared.Answer.TheVariants.{Done}
use Rattle.steps.specs.declared.Refusal.TheVariants.{OutOfRange}
use Rattle.steps.specs.declared.Step.TheVariants.{Start}
use Rattle.steps.specs.Ranges.{FitsStep}
use Rattle.steps.specs.Refusals.{Rules, decided}
use Rattle.steps.specs.Answers.{refusing_all}

-- n is 2 to 7, the followers are among the servers, and at least two vote; afterwards the fresh cluster
abbrev pub start_rules : ℕ → ℕ → Rules
start_rules n f = (size_ok n f, OutOfRange) ∷ []

abbrev pub start_done : ℕ → ℕ → Outcome
start_done n f = record { cluster = fresh_cluster n f; answer = Done }

abbrev pub starts_of : Cluster → ℕ → ℕ → Outcome
starts_of c n f = decided (refusing_all c) (start_done n f) (start_rules n f)

-- a start that is allowed, as a frame can say it, and the fresh cluster that it leaves
pub record Opening : Type 0 where
  pub servers : ℕ
  pub followers : ℕ
  pub fits : FitsStep (Start servers followers)
  pub allowed : size_ok servers followers ≡ true

abbrev pub fresh_of : Opening → Cluster
fresh_of b = fresh_cluster b.servers b.followers
