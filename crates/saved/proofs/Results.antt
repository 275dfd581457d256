-- Each public function's contract allows one result, whatever the arguments, and one content of a lent buffer. Assumes nothing.
use contract.Lifetimes.{Lfts}
use denote.Ref.{MutBor}
use mathlib.Core.List.{List}
use Prim.Native.Nat.{ℕ}
use lib.ListN.{length}
use Rattle.base.proofs.Results.{OneOutcome, OneResult, one_outcome, one_result}
use Rattle.cluster.specs.declared.Cluster.{Cluster}
use Rattle.saved.specs.declared.Sort.{Sort}
use Rattle.saved.specs.declared.Sort.TheVariants as S
use Rattle.saved.specs.Layout.{sort_number, size_of}
use Rattle.saved.specs.Editions as Editions
use Rattle.saved.specs.Editions.{editions, is_known, edition_numbered, limits_of}
use Rattle.saved.specs.Written.{saved_as_of, saved_as_out, saved_of, saved_out}
use Rattle.saved.proofs.sort_number.Reads as sort_number_reads
use Rattle.saved.proofs.is_known.Reads as is_known_reads
use Rattle.saved.proofs.limits_of.Reads as limits_of_reads
use Rattle.saved.proofs.first_bytes.Reads as first_bytes_reads
use Rattle.saved.proofs.allows.Reads as allows_reads
use Rattle.saved.proofs.save_as.Reads as save_as_reads
use Rattle.saved.proofs.save.Reads as save_reads

pub sort_number_lem : (s : Sort) → OneResult (λ x. sort_number_reads.Learnt tt (s, tt) x (s, tt))
sort_number_lem s = one_result (sort_number s)

pub is_known_lem : (n : ℕ) → OneResult (λ x. is_known_reads.Learnt tt (n, tt) x (n, tt))
is_known_lem n = one_result (is_known editions n)

pub limits_of_lem : (n : ℕ) → OneResult (λ x. limits_of_reads.Learnt tt (n, tt) x (n, tt))
limits_of_lem n = one_result (limits_of (edition_numbered editions n))

pub first_bytes_lem : (n : ℕ) → OneResult (λ x. first_bytes_reads.Learnt tt (n, tt) x (n, tt))
first_bytes_lem n = one_result (size_of (edition_numbered editions n).widths S.First)

pub allows_lem : (n : ℕ) (c : Cluster) → OneResult (λ x. allows_reads.Learnt tt (n, (c, tt)) x (n, (c, tt)))
allows_lem n c = one_result (Editions.allows (edition_numbered editions n) c)

pub save_as_lem : (κs : Lfts 1) (n : ℕ) (c : Cluster) (out : MutBor (List ℕ)) → OneOutcome (λ x o. save_as_reads.Learnt κs (n, (c, (out, tt))) x (n, (c, (o, tt))))
save_as_lem κs n c out = one_outcome (saved_as_of n c (length out.now)) (saved_as_out n c out.now)

pub save_lem : (κs : Lfts 1) (c : Cluster) (out : MutBor (List ℕ)) → OneOutcome (λ x o. save_reads.Learnt κs (c, (out, tt)) x (c, (o, tt)))
save_lem κs c out = one_outcome (saved_of c (length out.now)) (saved_out c out.now)
