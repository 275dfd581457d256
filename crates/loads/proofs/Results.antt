-- Each public function's contract allows one result, whatever the arguments. Assumes nothing.
use contract.Lifetimes.{Lfts}
use denote.Ref.{Bor}
use mathlib.Core.List.{List}
use Prim.Native.Nat.{ℕ}
use Rattle.base.proofs.Results.{OneResult, one_result}
use Rattle.cluster.specs.declared.Cluster.{Cluster}
use Rattle.saved.specs.declared.Sort.TheVariants as S
use Rattle.saved.specs.Layout.{numbers_in, said_at}
use Rattle.saved.specs.Editions.{widths1, editions, edition_numbered}
use Rattle.loads.specs.Decoded.{head_said, entry_said, report_said, decoded_in}
use Rattle.loads.specs.Loads.{same_text, load_of}
use Rattle.loads.proofs.decode.Reads as decode_reads
use Rattle.loads.proofs.head_in.Reads as head_in_reads
use Rattle.loads.proofs.entry_in.Reads as entry_in_reads
use Rattle.loads.proofs.followers_in.Reads as followers_in_reads
use Rattle.loads.proofs.report_in.Reads as report_in_reads
use Rattle.loads.proofs.same_text.Reads as same_text_reads
use Rattle.loads.proofs.load.Reads as load_reads

pub head_in_lem : (b : List ℕ) → OneResult (λ x. head_in_reads.Learnt tt (b, tt) x (b, tt))
head_in_lem b = one_result (head_said (numbers_in widths1 S.Server b))

pub entry_in_lem : (b : List ℕ) → OneResult (λ x. entry_in_reads.Learnt tt (b, tt) x (b, tt))
entry_in_lem b = one_result (entry_said (numbers_in widths1 S.Entry b))

pub report_in_lem : (b : List ℕ) → OneResult (λ x. report_in_reads.Learnt tt (b, tt) x (b, tt))
report_in_lem b = one_result (report_said (numbers_in widths1 S.Note b))

pub followers_in_lem : (n : ℕ) (b : List ℕ) → OneResult (λ x. followers_in_reads.Learnt tt (n, (b, tt)) x (n, (b, tt)))
followers_in_lem n b = one_result (said_at (edition_numbered editions n).widths S.First b 2)

pub decode_lem : (κs : Lfts 1) (n : ℕ) (text : Bor (List ℕ)) → OneResult (λ x. decode_reads.Learnt κs (n, (text, tt)) x (n, (text, tt)))
decode_lem κs n text = one_result (decoded_in (edition_numbered editions n).widths text.now)

pub same_text_lem : (κs : Lfts 2) (a b : Bor (List ℕ)) → OneResult (λ x. same_text_reads.Learnt κs (a, (b, tt)) x (a, (b, tt)))
same_text_lem κs a b = one_result (same_text a.now b.now)

pub load_lem : (κs : Lfts 1) (c : Cluster) (text : Bor (List ℕ)) → OneResult (λ x. load_reads.Learnt κs (c, (text, tt)) x (c, (text, tt)))
load_lem κs c text = one_result (load_of c text.now)
