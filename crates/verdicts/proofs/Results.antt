-- Each public function's contract allows one result, whatever the arguments. Assumes nothing.
use Rattle.base.proofs.Results.{OneResult, one_result}
use Rattle.server_log.specs.declared.Log.{Log}
use Rattle.server_log.specs.Logs.{live}
use Rattle.histories.specs.declared.PhoneRecord.{PhoneRecord}
use Rattle.histories.specs.Reasons.{why_of}
use Rattle.followed.specs.declared.Run.{Run}
use Rattle.phones.specs.declared.Listed.{Listed}
use Rattle.verdicts.specs.Verdicts.{verdict_of}
use Rattle.verdicts.proofs.reason.Reads as reason_reads
use Rattle.verdicts.proofs.judge.Reads as judge_reads

pub reason_lem : (g : Log) (r : PhoneRecord) → OneResult (λ x. reason_reads.Learnt tt (g, (r, tt)) x (g, (r, tt)))
reason_lem g r = one_result (why_of (live g) r)

pub judge_lem : (run : Run) (s : Listed) → OneResult (λ x. judge_reads.Learnt tt (run, (s, tt)) x (run, (s, tt)))
judge_lem run s = one_result (verdict_of run s)
