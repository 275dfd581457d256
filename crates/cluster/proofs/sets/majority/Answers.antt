-- `cluster::sets::majority` meets its contract. Assumes nothing.
use Rattle.cluster.proofs.Masks.{members_few}
use native.Mathlib.Omega.{arith}
use Rattle.cluster.proofs.sets.majority.Goals as goal

pub overflow_mul-result : goal.overflow_mul-result
overflow_mul-result c = omega (arith, members_few c.args.set)
