-- Kind 13: clocks agree. Assumes nothing.
use Rattle.std.specs.Prelude.{ℕ}
use Rattle.base.specs.Numbers.{greatest}
use Rattle.cluster.specs.declared.Cluster.{Cluster}
use Rattle.cluster.specs.Servers.{server_count, server_at, clocks_set}
use Rattle.steps.specs.declared.Outcome.{Outcome}
use Rattle.steps.specs.declared.Answer.TheVariants.{Done}

-- every counted server's wall clock is the greatest of them
abbrev pub greatest_clock : Cluster → ℕ
greatest_clock c = greatest (server_count c) (λ i. (server_at c i).head.wall)

abbrev pub agrees_of : Cluster → Outcome
agrees_of c = record { cluster = clocks_set c (greatest_clock c); answer = Done }
