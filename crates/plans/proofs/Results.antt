-- The public function's contract allows one result, whatever the arguments. Assumes nothing.
use Prim.Native.Nat.{ℕ}
use Rattle.base.proofs.Results.{OneResult, one_result}
use Rattle.cluster.specs.declared.Cluster.{Cluster}
use Rattle.plans.specs.Making.{planned_of}
use Rattle.plans.proofs.plan.Reads as plan_reads

pub plan_lem : (c : Cluster) (key value : ℕ) → OneResult (λ x. plan_reads.Learnt tt (c, (key, (value, tt))) x (c, (key, (value, tt))))
plan_lem c key value = one_result (planned_of c key value)
