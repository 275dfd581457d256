-- Each public function's contract allows one result, whatever the arguments. Assumes nothing.
use Rattle.std.proofs.Common.{Option}
use Prim.Native.Nat.{ℕ}
use Rattle.base.proofs.Results.{OneResult, one_result}
use Rattle.cluster.specs.declared.Cluster.{Cluster}
use Rattle.cluster.specs.declared.Server.{Server}
use Rattle.steps.specs.declared.Step.{Step}
use Rattle.steps.specs.declared.Sent.{Sent}
use Rattle.steps.specs.declared.Stepped.{Stepped}
use Rattle.rules.specs.One.{one_of, pair_of, single_of, untouched_of}
use Rattle.rules.specs.Rules.{delivered, put_back, core_of, is_start, step_of}
use Rattle.rules.proofs.untouched.Reads as untouched_reads
use Rattle.rules.proofs.one.Reads as one_reads
use Rattle.rules.proofs.deliver.Reads as deliver_reads
use Rattle.rules.proofs.put_back.Reads as put_back_reads
use Rattle.rules.proofs.single.Reads as single_reads
use Rattle.rules.proofs.pair.Reads as pair_reads
use Rattle.rules.proofs.core.Reads as core_reads
use Rattle.rules.proofs.is_start.Reads as is_start_reads
use Rattle.rules.proofs.step.Reads as step_reads

pub untouched_lem : (s : Server) → OneResult (λ x. untouched_reads.Learnt tt (s, tt) x (s, tt))
untouched_lem s = one_result (untouched_of s)

pub one_lem : (size : ℕ) (s t : Server) (kind : Step) → OneResult (λ x. one_reads.Learnt tt (size, (s, (t, (kind, tt)))) x (size, (s, (t, (kind, tt)))))
one_lem size s t kind = one_result (one_of size s t kind)

pub deliver_lem : (c : Cluster) (sends : Option Sent) → OneResult (λ x. deliver_reads.Learnt tt (c, (sends, tt)) x (c, (sends, tt)))
deliver_lem c sends = one_result (delivered c sends)

pub put_back_lem : (c : Cluster) (a : ℕ) (o : Stepped) → OneResult (λ x. put_back_reads.Learnt tt (c, (a, (o, tt))) x (c, (a, (o, tt))))
put_back_lem c a o = one_result (put_back c a o)

pub single_lem : (c : Cluster) (a : ℕ) (kind : Step) → OneResult (λ x. single_reads.Learnt tt (c, (a, (kind, tt))) x (c, (a, (kind, tt))))
single_lem c a kind = one_result (single_of c a kind)

pub pair_lem : (c : Cluster) (a b : ℕ) (kind : Step) → OneResult (λ x. pair_reads.Learnt tt (c, (a, (b, (kind, tt)))) x (c, (a, (b, (kind, tt)))))
pair_lem c a b kind = one_result (pair_of c a b kind)

pub core_lem : (c : Cluster) (kind : Step) → OneResult (λ x. core_reads.Learnt tt (c, (kind, tt)) x (c, (kind, tt)))
core_lem c kind = one_result (core_of c kind)

pub is_start_lem : (kind : Step) → OneResult (λ x. is_start_reads.Learnt tt (kind, tt) x (kind, tt))
is_start_lem kind = one_result (is_start kind)

pub step_lem : (c : Cluster) (kind : Step) → OneResult (λ x. step_reads.Learnt tt (c, (kind, tt)) x (c, (kind, tt)))
step_lem c kind = one_result (step_of c kind)
