-- Each public function's contract allows one result, whatever the arguments. Assumes nothing.
use Prim.Native.Nat.{ℕ}
use Rattle.base.proofs.Results.{OneResult, one_result}
use Rattle.clock.specs.declared.Time.{Time}
use Rattle.cluster.specs.declared.Server.{Server}
use Rattle.reads.specs.Acknowledged.{acknowledged_of}
use Rattle.reads.specs.LocalRead.{local_read_of}
use Rattle.reads.specs.MajorityRead.{majority_read_of}
use Rattle.reads.specs.NewestRead.{newest_read_of}
use Rattle.reads.specs.Lists.{whole_list, committed_list}
use Rattle.reads.proofs.lists.whole_list.Reads as whole_list_reads
use Rattle.reads.proofs.lists.committed_list.Reads as committed_list_reads
use Rattle.reads.proofs.local_read.local_read.Reads as local_read_reads
use Rattle.reads.proofs.majority_read.majority_read.Reads as majority_read_reads
use Rattle.reads.proofs.acknowledged.acknowledged.Reads as acknowledged_reads
use Rattle.reads.proofs.newest_read.newest_read.Reads as newest_read_reads

pub local_read_lem : (s : Server) (key : ℕ) (asked : Time) → OneResult (λ x. local_read_reads.Learnt tt (s, (key, (asked, tt))) x (s, (key, (asked, tt))))
local_read_lem s key asked = one_result (local_read_of s key asked)

pub majority_read_lem : (s : Server) (key : ℕ) (asked : Time) → OneResult (λ x. majority_read_reads.Learnt tt (s, (key, (asked, tt))) x (s, (key, (asked, tt))))
majority_read_lem s key asked = one_result (majority_read_of s key asked)

pub acknowledged_lem : (size : ℕ) (s : Server) (k n term : ℕ) → OneResult (λ x. acknowledged_reads.Learnt tt (size, (s, (k, (n, (term, tt))))) x (size, (s, (k, (n, (term, tt))))))
acknowledged_lem size s k n term = one_result (acknowledged_of size s k n term)

pub newest_read_lem : (s : Server) (key n term : ℕ) → OneResult (λ x. newest_read_reads.Learnt tt (s, (key, (n, (term, tt)))) x (s, (key, (n, (term, tt)))))
newest_read_lem s key n term = one_result (newest_read_of s key n term)

pub whole_list_lem : (s : Server) → OneResult (λ x. whole_list_reads.Learnt tt (s, tt) x (s, tt))
whole_list_lem s = one_result (whole_list s)

pub committed_list_lem : (s : Server) → OneResult (λ x. committed_list_reads.Learnt tt (s, tt) x (s, tt))
committed_list_lem s = one_result (committed_list s)
