-- Each public function's contract allows one result, whatever the arguments. Assumes nothing.
use contract.Lifetimes.{Lfts}
use denote.Ref.{Bor}
use mathlib.Core.List.{List}
use Prim.Native.Nat.{ℕ}
use Rattle.base.proofs.Results.{OneResult, one_result}
use Rattle.phones.specs.Records.{read_record}
use Rattle.phones.specs.Listed.{Listing, new_listing, listed_by, finished_list}
use Rattle.phones.proofs.read_record.Reads as read_record_reads
use Rattle.phones.proofs.begin.Reads as begin_reads
use Rattle.phones.proofs.list.Reads as list_reads
use Rattle.phones.proofs.finish.Reads as finish_reads

pub read_record_lem : (κs : Lfts 1) (line : Bor (List ℕ)) → OneResult (λ x. read_record_reads.Learnt κs (line, tt) x (line, tt))
read_record_lem κs line = one_result (read_record line.now)

pub begin_lem : OneResult (λ x. begin_reads.Learnt tt tt x tt)
begin_lem = one_result new_listing

pub list_lem : (κs : Lfts 1) (l : Listing) (piece : Bor (List ℕ)) → OneResult (λ x. list_reads.Learnt κs (l, (piece, tt)) x (l, (piece, tt)))
list_lem κs l piece = one_result (listed_by l piece.now)

pub finish_lem : (l : Listing) → OneResult (λ x. finish_reads.Learnt tt (l, tt) x (l, tt))
finish_lem l = one_result (finished_list l)
