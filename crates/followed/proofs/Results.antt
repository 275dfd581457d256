-- Each public function's contract allows one result, whatever the arguments. Assumes nothing.
use contract.Lifetimes.{Lfts}
use denote.Ref.{Bor}
use mathlib.Core.List.{List}
use Prim.Native.Nat.{ℕ}
use Rattle.base.proofs.Results.{OneResult, one_result}
use Rattle.server_log.specs.declared.Log.{Log}
use Rattle.cluster.specs.declared.Cluster.{Cluster}
use Rattle.followed.specs.Longest.{kept_log}
use Rattle.followed.specs.Follow.{Following, new_following, followed_by, finished_run}
use Rattle.followed.proofs.longest.longer.Reads as longer_reads
use Rattle.followed.proofs.begin.Reads as begin_reads
use Rattle.followed.proofs.follow.Reads as follow_reads
use Rattle.followed.proofs.finish.Reads as finish_reads

pub longer_lem : (kept : Log) (c : Cluster) → OneResult (λ x. longer_reads.Learnt tt (kept, (c, tt)) x (kept, (c, tt)))
longer_lem kept c = one_result (kept_log kept c)

pub begin_lem : OneResult (λ x. begin_reads.Learnt tt tt x tt)
begin_lem = one_result new_following

pub follow_lem : (κs : Lfts 1) (f : Following) (piece : Bor (List ℕ)) → OneResult (λ x. follow_reads.Learnt κs (f, (piece, tt)) x (f, (piece, tt)))
follow_lem κs f piece = one_result (followed_by f piece.now)

pub finish_lem : (f : Following) → OneResult (λ x. finish_reads.Learnt tt (f, tt) x (f, tt))
finish_lem f = one_result (finished_run f)
