-- Each public function's contract allows one result, whatever the arguments. Assumes nothing.
use Prim.Native.Nat.{ℕ, min}
use Rattle.base.proofs.Results.{OneResult, one_result}
use Rattle.cluster.specs.declared.Cluster.{Cluster}
use Rattle.server_log.specs.declared.Log.{Log}
use Rattle.cluster.specs.declared.Server.{Server}
use Rattle.cluster.specs.Servers.{clocked_of, clocks_set, committed_to, elected_all, fresh_cluster, fresh_server, most_servers, rowed_all, rowed_of, started_of, voted_of, with_server, zero_cluster}
use Rattle.cluster.specs.Sets.{is_apart, is_majority, is_within, member, members_of, votes}
use Rattle.cluster.specs.Sets as sets
use Rattle.cluster.specs.WellFormed.{counted_ok, numbers_ok, server_ok, size_ok, well_formed, zero_ok}
use Rattle.cluster.proofs.committed_to.Reads as committed_to_reads
use Rattle.cluster.proofs.rowed.Reads as rowed_reads
use Rattle.cluster.proofs.rowed_all.Reads as rowed_all_reads
use Rattle.cluster.proofs.fresh_server.Reads as fresh_server_reads
use Rattle.cluster.proofs.server_count.Reads as server_count_reads
use Rattle.cluster.proofs.zero_cluster.Reads as zero_cluster_reads
use Rattle.cluster.proofs.started.Reads as started_reads
use Rattle.cluster.proofs.fresh_cluster.Reads as fresh_cluster_reads
use Rattle.cluster.proofs.with_server.Reads as with_server_reads
use Rattle.cluster.proofs.voted.Reads as voted_reads
use Rattle.cluster.proofs.elect_all.Reads as elect_all_reads
use Rattle.cluster.proofs.clocked.Reads as clocked_reads
use Rattle.cluster.proofs.set_clocks.Reads as set_clocks_reads
use Rattle.cluster.proofs.numbers_ok.Reads as numbers_ok_reads
use Rattle.cluster.proofs.counted_ok.Reads as counted_ok_reads
use Rattle.cluster.proofs.zero_ok.Reads as zero_ok_reads
use Rattle.cluster.proofs.server_ok.Reads as server_ok_reads
use Rattle.cluster.proofs.size_ok.Reads as size_ok_reads
use Rattle.cluster.proofs.well_formed.Reads as well_formed_reads
use Rattle.cluster.proofs.sets.is_member.Reads as is_member_reads
use Rattle.cluster.proofs.sets.members.Reads as members_reads
use Rattle.cluster.proofs.sets.within.Reads as within_reads
use Rattle.cluster.proofs.sets.apart.Reads as apart_reads
use Rattle.cluster.proofs.sets.does_vote.Reads as does_vote_reads
use Rattle.cluster.proofs.sets.voters.Reads as voters_reads
use Rattle.cluster.proofs.sets.majority.Reads as majority_reads

pub fresh_server_lem : OneResult (λ x. fresh_server_reads.Learnt tt tt x tt)
fresh_server_lem = one_result fresh_server

pub server_count_lem : (count : ℕ) → OneResult (λ x. server_count_reads.Learnt tt (count, tt) x (count, tt))
server_count_lem count = one_result (min count most_servers)

pub zero_cluster_lem : OneResult (λ x. zero_cluster_reads.Learnt tt tt x tt)
zero_cluster_lem = one_result zero_cluster

pub started_lem : (s : Server) (i n : ℕ) → OneResult (λ x. started_reads.Learnt tt (s, (i, (n, tt))) x (s, (i, (n, tt))))
started_lem s i n = one_result (started_of n i s)

pub fresh_cluster_lem : (n followers : ℕ) → OneResult (λ x. fresh_cluster_reads.Learnt tt (n, (followers, tt)) x (n, (followers, tt)))
fresh_cluster_lem n followers = one_result (fresh_cluster n followers)

pub with_server_lem : (c : Cluster) (i : ℕ) (s : Server) → OneResult (λ x. with_server_reads.Learnt tt (c, (i, (s, tt))) x (c, (i, (s, tt))))
with_server_lem c i s = one_result (with_server c i s)

pub voted_lem : (s : Server) (i a set term : ℕ) → OneResult (λ x. voted_reads.Learnt tt (s, (i, (a, (set, (term, tt))))) x (s, (i, (a, (set, (term, tt))))))
voted_lem s i a set term = one_result (voted_of a set term i s)

pub elect_all_lem : (c : Cluster) (a set term : ℕ) → OneResult (λ x. elect_all_reads.Learnt tt (c, (a, (set, (term, tt)))) x (c, (a, (set, (term, tt)))))
elect_all_lem c a set term = one_result (elected_all c a set term)

pub clocked_lem : (s : Server) (i count wall : ℕ) → OneResult (λ x. clocked_reads.Learnt tt (s, (i, (count, (wall, tt)))) x (s, (i, (count, (wall, tt)))))
clocked_lem s i count wall = one_result (clocked_of count wall i s)

pub set_clocks_lem : (c : Cluster) (wall : ℕ) → OneResult (λ x. set_clocks_reads.Learnt tt (c, (wall, tt)) x (c, (wall, tt)))
set_clocks_lem c wall = one_result (clocks_set c wall)

pub numbers_ok_lem : (s : Server) → OneResult (λ x. numbers_ok_reads.Learnt tt (s, tt) x (s, tt))
numbers_ok_lem s = one_result (numbers_ok s)

pub counted_ok_lem : (s : Server) → OneResult (λ x. counted_ok_reads.Learnt tt (s, tt) x (s, tt))
counted_ok_lem s = one_result (counted_ok s)

pub zero_ok_lem : (s : Server) → OneResult (λ x. zero_ok_reads.Learnt tt (s, tt) x (s, tt))
zero_ok_lem s = one_result (zero_ok s)

pub server_ok_lem : (s : Server) (n followers i : ℕ) → OneResult (λ x. server_ok_reads.Learnt tt (s, (n, (followers, (i, tt)))) x (s, (n, (followers, (i, tt)))))
server_ok_lem s n followers i = one_result (server_ok n followers i s)

pub size_ok_lem : (n followers : ℕ) → OneResult (λ x. size_ok_reads.Learnt tt (n, (followers, tt)) x (n, (followers, tt)))
size_ok_lem n followers = one_result (size_ok n followers)

pub well_formed_lem : (c : Cluster) → OneResult (λ x. well_formed_reads.Learnt tt (c, tt) x (c, tt))
well_formed_lem c = one_result (well_formed c)

pub is_member_lem : (set i : ℕ) → OneResult (λ x. is_member_reads.Learnt tt (set, (i, tt)) x (set, (i, tt)))
is_member_lem set i = one_result (member set i)

pub members_lem : (set : ℕ) → OneResult (λ x. members_reads.Learnt tt (set, tt) x (set, tt))
members_lem set = one_result (members_of set)

pub within_lem : (set n : ℕ) → OneResult (λ x. within_reads.Learnt tt (set, (n, tt)) x (set, (n, tt)))
within_lem set n = one_result (is_within set n)

pub apart_lem : (set followers : ℕ) → OneResult (λ x. apart_reads.Learnt tt (set, (followers, tt)) x (set, (followers, tt)))
apart_lem set followers = one_result (is_apart set followers)

pub does_vote_lem : (followers i : ℕ) → OneResult (λ x. does_vote_reads.Learnt tt (followers, (i, tt)) x (followers, (i, tt)))
does_vote_lem followers i = one_result (votes followers i)

pub voters_lem : (n followers : ℕ) → OneResult (λ x. voters_reads.Learnt tt (n, (followers, tt)) x (n, (followers, tt)))
voters_lem n followers = one_result (sets.voters n followers)

pub majority_lem : (set n : ℕ) → OneResult (λ x. majority_reads.Learnt tt (set, (n, tt)) x (set, (n, tt)))
majority_lem set n = one_result (is_majority set n)

pub committed_to_lem : (s : Server) (g : Log) (n : ℕ) → OneResult (λ x. committed_to_reads.Learnt tt (s, (g, (n, tt))) x (s, (g, (n, tt))))
committed_to_lem s g n = one_result (committed_to s g n)

pub rowed_lem : (s : Server) → OneResult (λ x. rowed_reads.Learnt tt (s, tt) x (s, tt))
rowed_lem s = one_result (rowed_of s)

pub rowed_all_lem : (c : Cluster) → OneResult (λ x. rowed_all_reads.Learnt tt (c, tt) x (c, tt))
rowed_all_lem c = one_result (rowed_all c)
