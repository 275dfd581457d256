-- Each public function's contract allows one result, whatever the arguments. Assumes nothing.
use Prim.Native.Nat.{ℕ}
use Rattle.base.proofs.Results.{OneResult, one_result}
use Rattle.cluster.specs.declared.Cluster.{Cluster}
use Rattle.cluster.specs.declared.Server.{Server}
use Rattle.steps.specs.declared.Answer.{Answer}
use Rattle.steps.specs.declared.Refusal.{Refusal}
use Rattle.steps.specs.Answers.{number_of, answering, refusing, refusing_all, telling_of, is_refused}
use Rattle.steps.proofs.answered.Reads as answered_reads
use Rattle.steps.proofs.refuse.Reads as refuse_reads
use Rattle.steps.proofs.refuse_all.Reads as refuse_all_reads
use Rattle.steps.proofs.number.Reads as number_reads
use Rattle.steps.proofs.told.Reads as told_reads
use Rattle.steps.proofs.is_refused.Reads as is_refused_reads

pub answered_lem : (s : Server) (a : Answer) → OneResult (λ x. answered_reads.Learnt tt (s, (a, tt)) x (s, (a, tt)))
answered_lem s a = one_result (answering s a)

pub refuse_lem : (s : Server) (r : Refusal) → OneResult (λ x. refuse_reads.Learnt tt (s, (r, tt)) x (s, (r, tt)))
refuse_lem s r = one_result (refusing s r)

pub refuse_all_lem : (c : Cluster) (r : Refusal) → OneResult (λ x. refuse_all_reads.Learnt tt (c, (r, tt)) x (c, (r, tt)))
refuse_all_lem c r = one_result (refusing_all c r)

pub number_lem : (n : ℕ) → OneResult (λ x. number_reads.Learnt tt (n, tt) x (n, tt))
number_lem n = one_result (number_of n)

pub told_lem : (a : Answer) → OneResult (λ x. told_reads.Learnt tt (a, tt) x (a, tt))
told_lem a = one_result (telling_of a)

pub is_refused_lem : (a : Answer) → OneResult (λ x. is_refused_reads.Learnt tt (a, tt) x (a, tt))
is_refused_lem a = one_result (is_refused a)
