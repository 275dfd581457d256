-- Each public function's contract allows one result, whatever the arguments: all that it says of a result is that it is this value. That of
-- `check` is read off the contract itself, since one over a slice of structs has no other reading. Assumes nothing.
use mathlib.Core.Path.{◌≡◌, refl}
use mathlib.Core.List.{List}
use Prim.Native.Nat.{ℕ}
use lib.ListN.{take}
use seplogic.Ra.Ura.{Ura}
use base.Logic.{SProp}
use prog.Memory.{Memory}
use prog.Routine.{Routine}
use types.Logic.{Logic}
use contract.Lifetimes.{Lfts}
use contract.Monad.{Fun, fact}
use denote.Ref.{Bor}
use Rattle.base.proofs.Results.{OneResult, one_result}
use Rattle.histories.specs.declared.PhoneRecord.{PhoneRecord}
use Rattle.histories.specs.declared.Checked.{Checked}
use Rattle.histories.specs.declared.committed.Columns.{Columns}
use Rattle.histories.specs.Lending.{lent_by, lent_log}
use Rattle.histories.specs.Rules.{record_in_range, not_before}
use Rattle.histories.specs.Reasons.{why_of}
use Rattle.histories.specs.Checking.{check_of}
use Rattle.histories.specs.contracts.check as the_check
use Rattle.histories.proofs.obeys.in_range.Reads as in_range_reads
use Rattle.histories.proofs.obeys.not_before.Reads as not_before_reads
use Rattle.histories.proofs.kept.check_first.Reads as check_first_reads
use Rattle.histories.proofs.why.why.Reads as why_reads

pub in_range_lem : (r : PhoneRecord) → OneResult (λ x. in_range_reads.Learnt tt (r, tt) x (r, tt))
in_range_lem r = one_result (record_in_range r)

pub not_before_lem : (e r : PhoneRecord) → OneResult (λ x. not_before_reads.Learnt tt (e, (r, tt)) x (e, (r, tt)))
not_before_lem e r = one_result (not_before e r)

pub check_first_lem : (κs : Lfts 1) (records : List PhoneRecord) (n : ℕ) (log : Columns)
    → OneResult (λ x. check_first_reads.Learnt κs (records, (n, (log, tt))) x (records, (n, (log, tt))))
check_first_lem κs records n log = one_result (check_of (take n records) (lent_by log))

pub why_lem : (κs : Lfts 1) (r : PhoneRecord) (log : Columns) → OneResult (λ x. why_reads.Learnt κs (r, (log, tt)) x (r, (log, tt)))
why_lem κs r log = one_result (why_of (lent_log log) r)

module _ (records : Bor (List PhoneRecord)) (log : Columns) where
  -- what is allowed of a result
  abbrev pub Allowed : Checked → Type 0
  Allowed r = r ≡ check_of records.now (lent_by log)

  pub check_says : {M : Type 1} {𝓤 : Ura M} (𝓛 : Logic 𝓤) (at_mem : Memory → SProp 𝓤) (run : Routine → Fun 𝓤) (κs : Lfts 2) (r : Checked)
      → (the_check.clauses 𝓛 at_mem run κs (records, (log, tt))).ensures tt r (records, (log, tt))
      ≡ fact 𝓤 (Allowed r)
  check_says 𝓛 at_mem run κs r = refl

  pub check_lem : OneResult Allowed
  check_lem = one_result (check_of records.now (lent_by log))
