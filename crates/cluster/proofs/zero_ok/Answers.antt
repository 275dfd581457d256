-- `cluster::zero_ok` meets its contract. Assumes nothing.
use Rattle.base.proofs.Bools.{said_yes}
use Rattle.clock.specs.Times.{same_time}
use Rattle.cluster.specs.WellFormed.{zero_ok}
use mathlib.Core.Bool.{Bool, true, false, not, beq}
use mathlib.Core.Path.{◌≡◌, refl}
use Rattle.cluster.proofs.zero_ok.Goals as goal

beq_false : (b : Bool) → beq b false ≡ not b
beq_false true = refl
beq_false false = refl

pub returns-then-is_empty_log : goal.returns-then-is_empty_log
unfolding zero_ok same_time
returns-then-is_empty_log c =
    rw (said_yes _ _ c.is_empty_log.ensures c.if-is_empty_log.true, ← beq_false c.args.s.head.primary) c.eq.ensures
