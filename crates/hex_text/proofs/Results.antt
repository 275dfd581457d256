-- Each public function's contract allows one result, whatever the arguments, and one content of a lent buffer. Assumes nothing.
use contract.Lifetimes.{Lfts}
use denote.Bor.{Bor}
use denote.MutBor.{MutBor}
use mathlib.Core.List.{List}
use Prim.Native.Nat.{ℕ}
use Rattle.base.proofs.Results.{OneOutcome, OneResult, one_buffer, one_result}
use Rattle.hex_text.specs.Digits.{digit_of, char_of, byte_of}
use Rattle.hex_text.specs.Lines.{all_hex, bytes_of, hex_of, over}
use Rattle.hex_text.proofs.digit.Reads as digit_reads
use Rattle.hex_text.proofs.char_of.Reads as char_of_reads
use Rattle.hex_text.proofs.byte_of.Reads as byte_of_reads
use Rattle.hex_text.proofs.all_hex.Reads as all_hex_reads
use Rattle.hex_text.proofs.unhex.Reads as unhex_reads
use Rattle.hex_text.proofs.enhex.Reads as enhex_reads

pub digit_lem : (c : ℕ) → OneResult (λ x. digit_reads.Learnt tt (c, tt) x (c, tt))
digit_lem c = one_result (digit_of c)

pub char_of_lem : (n : ℕ) → OneResult (λ x. char_of_reads.Learnt tt (n, tt) x (n, tt))
char_of_lem n = one_result (char_of n)

pub byte_of_lem : (h l : ℕ) → OneResult (λ x. byte_of_reads.Learnt tt (h, (l, tt)) x (h, (l, tt)))
byte_of_lem h l = one_result (byte_of h l)

pub all_hex_lem : (κs : Lfts 1) (line : Bor (List ℕ)) → OneResult (λ x. all_hex_reads.Learnt κs (line, tt) x (line, tt))
all_hex_lem κs line = one_result (all_hex line.now)

pub unhex_lem : (κs : Lfts 2) (line : Bor (List ℕ)) (out : MutBor (List ℕ)) → OneOutcome (λ x o. unhex_reads.Learnt κs (line, (out, tt)) x (line, (o, tt)))
unhex_lem κs line out = one_buffer (over (bytes_of line.now) out.now)

pub enhex_lem : (κs : Lfts 2) (bytes : Bor (List ℕ)) (out : MutBor (List ℕ)) → OneOutcome (λ x o. enhex_reads.Learnt κs (bytes, (out, tt)) x (bytes, (o, tt)))
enhex_lem κs bytes out = one_buffer (over (hex_of bytes.now) out.now)
