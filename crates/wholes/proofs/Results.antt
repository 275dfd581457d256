-- Each public function's contract allows one result, whatever the arguments. Assumes nothing.
use Prim.Native.Nat.{ℕ}
use Rattle.base.proofs.Results.{OneResult, one_result}
use Rattle.cluster.specs.declared.Cluster.{Cluster}
use Rattle.cluster.specs.declared.Server.{Server}
use Rattle.wholes.specs.Elects.{all_may_vote, are_voters, elects_of, may_vote, not_behind, vote_ok}
use Rattle.wholes.specs.ClocksAgree.{agrees_of, greatest_clock}
use Rattle.wholes.specs.Starts.{starts_of}
use Rattle.wholes.proofs.starts.starts.Reads as starts_reads
use Rattle.wholes.proofs.elects.not_behind.Reads as not_behind_reads
use Rattle.wholes.proofs.elects.may_vote.Reads as may_vote_reads
use Rattle.wholes.proofs.elects.vote_ok.Reads as vote_ok_reads
use Rattle.wholes.proofs.elects.all_may_vote.Reads as all_may_vote_reads
use Rattle.wholes.proofs.elects.are_voters.Reads as are_voters_reads
use Rattle.wholes.proofs.elects.elects.Reads as elects_reads
use Rattle.wholes.proofs.clocks_agree.greatest_clock.Reads as greatest_clock_reads
use Rattle.wholes.proofs.clocks_agree.clocks_agree.Reads as clocks_agree_reads

pub starts_lem : (c : Cluster) (n followers : ℕ) → OneResult (λ x. starts_reads.Learnt tt (c, (n, (followers, tt))) x (c, (n, (followers, tt))))
starts_lem c n followers = one_result (starts_of c n followers)

pub not_behind_lem : (s t : Server) → OneResult (λ x. not_behind_reads.Learnt tt (s, (t, tt)) x (s, (t, tt)))
not_behind_lem s t = one_result (not_behind s t)

pub may_vote_lem : (s t : Server) → OneResult (λ x. may_vote_reads.Learnt tt (s, (t, tt)) x (s, (t, tt)))
may_vote_lem s t = one_result (may_vote s t)

pub vote_ok_lem : (s t : Server) (set i : ℕ) → OneResult (λ x. vote_ok_reads.Learnt tt (s, (t, (set, (i, tt)))) x (s, (t, (set, (i, tt)))))
vote_ok_lem s t set i = one_result (vote_ok s t set i)

pub all_may_vote_lem : (c : Cluster) (s : Server) (set : ℕ) → OneResult (λ x. all_may_vote_reads.Learnt tt (c, (s, (set, tt))) x (c, (s, (set, tt))))
all_may_vote_lem c s set = one_result (all_may_vote c s set)

pub are_voters_lem : (c : Cluster) (a set : ℕ) → OneResult (λ x. are_voters_reads.Learnt tt (c, (a, (set, tt))) x (c, (a, (set, tt))))
are_voters_lem c a set = one_result (are_voters c a set)

pub elects_lem : (c : Cluster) (a set : ℕ) → OneResult (λ x. elects_reads.Learnt tt (c, (a, (set, tt))) x (c, (a, (set, tt))))
elects_lem c a set = one_result (elects_of c a set)

pub greatest_clock_lem : (c : Cluster) → OneResult (λ x. greatest_clock_reads.Learnt tt (c, tt) x (c, tt))
greatest_clock_lem c = one_result (greatest_clock c)

pub clocks_agree_lem : (c : Cluster) → OneResult (λ x. clocks_agree_reads.Learnt tt (c, tt) x (c, tt))
clocks_agree_lem c = one_result (agrees_of c)
