-- Each public function's contract allows one result, whatever the arguments. Assumes nothing.
use Prim.Native.Nat.{ℕ, min}
use Rattle.base.proofs.Results.{OneResult, one_result}
use Rattle.cluster.specs.declared.Cluster.{Cluster}
use Rattle.cluster.specs.declared.Server.{Server}
use Rattle.cluster.specs.Servers.{most_servers}
use Rattle.counts.specs.Advances.{advances_of, backs, highest_passing}
use Rattle.counts.proofs.advances.does_back.Reads as does_back_reads
use Rattle.counts.proofs.advances.highest_passing.Reads as highest_passing_reads
use Rattle.counts.proofs.advances.advances.Reads as advances_reads

pub does_back_lem : (s : Server) (a n i : ℕ) → OneResult (λ x. does_back_reads.Learnt tt (s, (a, (n, (i, tt)))) x (s, (a, (n, (i, tt)))))
does_back_lem s a n i = one_result (backs s a n i)

pub highest_passing_lem : (n followers : ℕ) (s : Server) (a : ℕ)
    → OneResult (λ x. highest_passing_reads.Learnt tt (n, (followers, (s, (a, tt)))) x (n, (followers, (s, (a, tt)))))
highest_passing_lem n followers s a = one_result (highest_passing (min n most_servers) followers s a)

pub advances_lem : (c : Cluster) (a : ℕ) → OneResult (λ x. advances_reads.Learnt tt (c, (a, tt)) x (c, (a, tt)))
advances_lem c a = one_result (advances_of c a)
