-- Each public function's contract allows one result, whatever the arguments, and one content of a lent reader. That of `take_lem` is read off the contract
-- itself, since one over a lent struct has no other reading. Assumes nothing.
use mathlib.Core.Path.{◌≡◌, refl}
use mathlib.Core.List.{List}
use Prim.Native.Nat.{ℕ}
use mir.Syntax.{w64, Dict}
use mir.Val.{Fits}
use seplogic.Ra.Ura.{Ura}
use base.Logic.{SProp}
use base.Fml.{Lft}
use prog.Memory.{Memory}
use prog.Routine.{Routine}
use types.Logic.{Logic}
use contract.Lifetimes.{Lfts}
use contract.Monad.{Fun, fact}
use denote.MutBor.{MutBor}
use denote.Ref.{Bor}
use denote.RattleType.{RattleType}
use denote.Param.Laws.{Laws, IsCopy}
use Rattle.base.proofs.Results.{OneResult, one_result}
use Rattle.lines.specs.declared.ReaderOf.{ReaderOf}
use Rattle.lines.specs.Texts.{one_more}
use Rattle.lines.specs.Held.{nothing_read}
use Rattle.lines.specs.Readers.{Reader, reader_of, is_empty, push_of, reader_after}
use Rattle.lines.specs.Turns.{End, is_input}
use Rattle.lines.specs.Walks.{walk_from, walked, walked_out}
use Rattle.lines.specs.declared.walks.Walk.{Walk}
use Rattle.lines.specs.declared.walks.ByLines.{Ghosts}
use Rattle.std.specs.declared.clone.Clone.{Ghosts as Cloning}
use Rattle.lines.proofs.fresh_reader.Reads as fresh_reader_reads
use Rattle.lines.proofs.is_empty.Reads as is_empty_reads
use Rattle.lines.proofs.pushed.Reads as pushed_reads
use Rattle.lines.specs.contracts.take as the_take
use Rattle.lines.proofs.taken.Reads as taken_reads
use Rattle.lines.proofs.is_input.Reads as is_input_reads
use Rattle.lines.proofs.one_more.Reads as one_more_reads
use Rattle.lines.proofs.walks.begin.Reads as begin_reads
use Rattle.lines.proofs.walks.go_on.Reads as go_on_reads
use Rattle.lines.proofs.walks.finish.Reads as finish_reads

-- those of each number of characters that a reader can keep
pub fresh_reader_lem : (n : ℕ) (fits : Fits w64 n) (κs : Lfts 1) → OneResult (λ x. fresh_reader_reads.Learnt n fits κs tt x tt)
fresh_reader_lem n fits κs = one_result (nothing_read n reader_of)

pub is_empty_lem : (n : ℕ) (fits : Fits w64 n) (κs : Lfts 1) (r : ReaderOf n) → OneResult (λ x. is_empty_reads.Learnt n fits κs (r, tt) x (r, tt))
is_empty_lem n fits κs r = one_result (is_empty r)

pub pushed_lem : (n : ℕ) (fits : Fits w64 n) (κs : Lfts 1) (r : ReaderOf n) (b : ℕ) → OneResult (λ x. pushed_reads.Learnt n fits κs (r, (b, tt)) x (r, (b, tt)))
pushed_lem n fits κs r b = one_result (push_of r b)

pub taken_lem : (r : Reader) (b : ℕ) → OneResult (λ x. taken_reads.Learnt tt (r, (b, tt)) x (r, (b, tt)))
taken_lem r b = one_result (reader_after r b)

pub is_input_lem : (end : End) → OneResult (λ x. is_input_reads.Learnt tt (end, tt) x (end, tt))
is_input_lem end = one_result (is_input end)

pub one_more_lem : (n : ℕ) → OneResult (λ x. one_more_reads.Learnt tt (n, tt) x (n, tt))
one_more_lem n = one_result (one_more n)

-- those of a walk of each state that goes by lines
pub begin_lem : (S : RattleType) (s : Laws S) (κs : Lfts 1) (state : S.Denot) → OneResult (λ x. begin_reads.Learnt S s κs (state, tt) x (tt, tt))
begin_lem S s κs state = one_result (walk_from state)

pub go_on_lem : (S : RattleType) (s : Laws S) (copy : IsCopy S) (g : Ghosts S.Denot) (d : Dict) (h : Cloning S.Denot) (e : Dict) (κs : Lfts 2) (w : Walk S.Denot) (piece : Bor (List ℕ))
    → OneResult (λ x. go_on_reads.Learnt S s copy g d h e κs (w, (piece, tt)) x (w, (piece, tt)))
go_on_lem S s copy g d h e κs w piece = one_result (walked g.after w piece.now)

pub finish_lem : (S : RattleType) (s : Laws S) (copy : IsCopy S) (g : Ghosts S.Denot) (d : Dict) (h : Cloning S.Denot) (e : Dict) (κs : Lfts 1) (w : Walk S.Denot)
    → OneResult (λ x. finish_reads.Learnt S s copy g d h e κs (w, tt) x (w, tt))
finish_lem S s copy g d h e κs w = one_result (walked_out g.after w)

module _ (r : MutBor Reader) (b : ℕ) where
  -- what is allowed of the lent reader at the end
  abbrev pub Allowed : Reader → Type 0
  Allowed q = q ≡ reader_after r.now b

  pub take_says : {M : Type 1} {𝓤 : Ura M} (𝓛 : Logic 𝓤) (at_mem : Memory → SProp 𝓤) (run : Routine → Fun 𝓤) (κ : Lft) (o : MutBor Reader)
      → (the_take.clauses 𝓛 at_mem run (κ, tt) (r, (b, tt))).ensures tt tt (o, (b, tt))
      ≡ fact 𝓤 (Allowed o.now)
  take_says 𝓛 at_mem run κ o = refl

  pub take_lem : OneResult Allowed
  take_lem = one_result (reader_after r.now b)
