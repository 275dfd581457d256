-- Each public function's contract allows one result, whatever the arguments. Assumes nothing.
use Prim.Native.Nat.{ℕ}
use Rattle.base.proofs.Results.{OneResult, one_result}
use Rattle.server_log.specs.declared.Log.{Log}
use Rattle.server_log.specs.declared.rows.Latest.{Latest}
use Rattle.cluster.specs.declared.Server.{Server}
use Rattle.pairs.specs.Hears.{hears_of, stays_primary, takes_commit}
use Rattle.pairs.specs.Pulls.{may_join, pulls_of, took_of}
use Rattle.pairs.specs.Reports.{sent_of}
use Rattle.pairs.specs.RollsBack.{rolls_back_of}
use Rattle.pairs.proofs.hears.takes_commit.Reads as takes_commit_reads
use Rattle.pairs.proofs.hears.stays_primary.Reads as stays_primary_reads
use Rattle.pairs.proofs.hears.hears.Reads as hears_reads
use Rattle.pairs.proofs.pulls.took.Reads as took_reads
use Rattle.pairs.proofs.pulls.may_join.Reads as may_join_reads
use Rattle.pairs.proofs.pulls.pulls.Reads as pulls_reads
use Rattle.pairs.proofs.reports.sent.Reads as sent_reads
use Rattle.pairs.proofs.rolls_back.rolls_back.Reads as rolls_back_reads

pub takes_commit_lem : (s t : Server) → OneResult (λ x. takes_commit_reads.Learnt tt (s, (t, tt)) x (s, (t, tt)))
takes_commit_lem s t = one_result (takes_commit s t)

pub stays_primary_lem : (s t : Server) → OneResult (λ x. stays_primary_reads.Learnt tt (s, (t, tt)) x (s, (t, tt)))
stays_primary_lem s t = one_result (stays_primary s t)

pub hears_lem : (s t : Server) → OneResult (λ x. hears_reads.Learnt tt (s, (t, tt)) x (s, (t, tt)))
hears_lem s t = one_result (hears_of s t)

pub took_lem : (s t : Server) (g : Log) (v : Latest) → OneResult (λ x. took_reads.Learnt tt (s, (t, (g, (v, tt)))) x (s, (t, (g, (v, tt)))))
took_lem s t g v = one_result (took_of s t g v)

pub may_join_lem : (g h : Log) (n : ℕ) → OneResult (λ x. may_join_reads.Learnt tt (g, (h, (n, tt))) x (g, (h, (n, tt))))
may_join_lem g h n = one_result (may_join g h n)

pub sent_lem : (s : Server) (a b : ℕ) → OneResult (λ x. sent_reads.Learnt tt (s, (a, (b, tt))) x (s, (a, (b, tt))))
sent_lem s a b = one_result (sent_of a b s)

pub pulls_lem : (s t : Server) (a b : ℕ) → OneResult (λ x. pulls_reads.Learnt tt (s, (t, (a, (b, tt)))) x (s, (t, (a, (b, tt)))))
pulls_lem s t a b = one_result (pulls_of s t a b)

pub rolls_back_lem : (s t : Server) (a b : ℕ) → OneResult (λ x. rolls_back_reads.Learnt tt (s, (t, (a, (b, tt)))) x (s, (t, (a, (b, tt)))))
rolls_back_lem s t a b = one_result (rolls_back_of s t a b)
