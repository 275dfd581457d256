-- Each public function's contract allows one result, whatever the arguments. Assumes nothing.
use contract.Lifetimes.{Lfts}
use denote.Ref.{Bor}
use mathlib.Core.List.{List}
use Prim.Native.Nat.{ℕ}
use Rattle.base.proofs.Results.{OneResult, one_result}
use Rattle.steps.specs.declared.Answer.{Answer}
use Rattle.answers.specs.Answers.{read_answer, write_answer}
use Rattle.answers.proofs.write_answer.Reads as write_answer_reads
use Rattle.answers.proofs.read_answer.Reads as read_answer_reads

pub write_answer_lem : (a : Answer) → OneResult (λ x. write_answer_reads.Learnt tt (a, tt) x (a, tt))
write_answer_lem a = one_result (write_answer a)

pub read_answer_lem : (κs : Lfts 1) (line : Bor (List ℕ)) → OneResult (λ x. read_answer_reads.Learnt κs (line, tt) x (line, tt))
read_answer_lem κs line = one_result (read_answer line.now)
