-- Each public function's contract allows one result, whatever the arguments. Assumes nothing.
use contract.Lifetimes.{Lfts}
use denote.Ref.{Bor}
use mathlib.Core.List.{List}
use mir.Syntax.{w64}
use mir.Val.{Fits}
use Prim.Native.Nat.{ℕ}
use lib.ListN.{replicate}
use Rattle.std.proofs.Common.{Some, None}
use Rattle.base.proofs.Results.{OneResult, one_result}
use Rattle.hex_text.specs.Lines.{bytes_of, hex_of, over}
use Rattle.words.specs.Words.{high_of, low_of, word_of, framed}
use Rattle.words.proofs.word.Reads as word_reads
use Rattle.words.proofs.high.Reads as high_reads
use Rattle.words.proofs.low.Reads as low_reads
use Rattle.words.proofs.line.first_bytes.Reads as first_bytes_reads
use Rattle.words.proofs.line.read_bytes.Reads as read_bytes_reads
use Rattle.words.proofs.line.write_bytes.Reads as write_bytes_reads

pub word_lem : (h l : ℕ) → OneResult (λ x. word_reads.Learnt tt (h, (l, tt)) x (h, (l, tt)))
word_lem h l = one_result (word_of h l)

pub high_lem : (n : ℕ) → OneResult (λ x. high_reads.Learnt tt (n, tt) x (n, tt))
high_lem n = one_result (high_of n)

pub low_lem : (n : ℕ) → OneResult (λ x. low_reads.Learnt tt (n, tt) x (n, tt))
low_lem n = one_result (low_of n)

-- those of each number of bytes
pub first_bytes_lem : (n : ℕ) (fits : Fits w64 n) (κs : Lfts 2) (line : Bor (List ℕ)) → OneResult (λ x. first_bytes_reads.Learnt n fits κs (line, tt) x (line, tt))
first_bytes_lem n fits κs line = one_result (over (bytes_of line.now) (replicate n 0))

pub read_bytes_lem : (n : ℕ) (fits : Fits w64 n) (κs : Lfts 2) (line : Bor (List ℕ)) → OneResult (λ x. read_bytes_reads.Learnt n fits κs (line, tt) x (line, tt))
read_bytes_lem n fits κs line = one_result (framed n Some None line.now)

pub write_bytes_lem : (n m : ℕ) (fits : Fits w64 n) (long : Fits w64 m) (κs : Lfts 2) (bs : List ℕ) → OneResult (λ x. write_bytes_reads.Learnt n m fits long κs (bs, tt) x (bs, tt))
write_bytes_lem n m fits long κs bs = one_result (over (hex_of bs) (replicate m 0))
