-- Each public function's contract allows one result, whatever the arguments, and one content of a lent buffer and reader. Those of `feed_lem` and
-- `finish_lem` are read off the contracts themselves, since ones over a lent struct have no other reading. Assumes nothing.
use seplogic.Ra.Ura.{Ura}
use base.Logic.{SProp, sep}
use prog.Memory.{Memory}
use prog.Routine.{Routine}
use types.Logic.{Logic}
use contract.Monad.{Fun, fact}
use mathlib.Core.Path.{◌≡◌, refl}
use contract.Lifetimes.{Lfts}
use denote.Ref.{Bor, MutBor}
use mathlib.Core.Bool.{Bool}
use mathlib.Core.List.{List}
use Prim.Native.Nat.{ℕ}
use lib.ListN.{length}
use Rattle.base.proofs.Results.{OneOutcome, OneResult, one_outcome, one_result}
use Rattle.cluster.specs.declared.Cluster.{Cluster}
use Rattle.steps.specs.declared.Step.{Step}
use Rattle.std.proofs.Common.{Option}
use Rattle.frames.specs.Steps.{read_step}
use Rattle.replay.specs.declared.Session.{Session}
use Rattle.replay.specs.declared.Fed.{Fed}
use Rattle.replay.specs.declared.Finished.{Finished}
use Rattle.replay.specs.Texts.{respond}
use Rattle.lines.specs.Readers.{Reader, line_held}
use Rattle.replay.specs.Pieces.{begun, fed_of, fed_out, finish_of, finish_out}
use Rattle.replay.specs.Plans.{plan_of}
use Rattle.replay.proofs.begin.Reads as begin_reads
use Rattle.replay.proofs.step_held.Reads as step_held_reads
use Rattle.replay.proofs.plan_for.Reads as plan_for_reads
use Rattle.replay.specs.contracts.feed as the_feed
use Rattle.replay.proofs.pour.Reads as pour_reads
use Rattle.replay.proofs.respond_to.Reads as respond_to_reads
use Rattle.replay.specs.contracts.finish as the_finish
use Rattle.replay.proofs.close.Reads as close_reads

pub begin_lem : (c : Cluster) → OneResult (λ x. begin_reads.Learnt tt (c, tt) x (c, tt))
begin_lem c = one_result (begun c)

pub step_held_lem : (r : Reader) → OneResult (λ x. step_held_reads.Learnt tt (r, tt) x (r, tt))
step_held_lem r = one_result (read_step (line_held r))

pub plan_for_lem : (size : ℕ) (formed : Bool) (read : Option Step) → OneResult (λ x. plan_for_reads.Learnt tt (size, (formed, (read, tt))) x (size, (formed, (read, tt))))
plan_for_lem size formed read = one_result (plan_of size formed read)

pub pour_lem : (κs : Lfts 2) (s : Session) (text : Bor (List ℕ)) (out : MutBor (List ℕ)) → OneOutcome (λ x o. pour_reads.Learnt κs (s, (text, (out, tt))) x (s, (text, (o, tt))))
pour_lem κs s text out = one_outcome (fed_of s text.now (length out.now)) (fed_out s text.now out.now)

pub respond_to_lem : (c : Cluster) (read : Option Step) → OneResult (λ x. respond_to_reads.Learnt tt (c, (read, tt)) x (c, (read, tt)))
respond_to_lem c read = one_result (respond c read)

pub close_lem : (κs : Lfts 1) (s : Session) (out : MutBor (List ℕ)) → OneOutcome (λ x o. close_reads.Learnt κs (s, (out, tt)) x (s, (o, tt)))
close_lem κs s out = one_outcome (finish_of s (length out.now)) (finish_out s out.now)

-- where the reader is lent, the contract says of the result, of the reader at the end and of the buffer what is allowed, and of each that is one
module _ (c : Cluster) (r : MutBor Reader) (out : MutBor (List ℕ)) where
  abbrev was : Session
  was = record { cluster = c; reader = r.now }

  module _ (text : Bor (List ℕ)) where
    abbrev pub AllowedFed : Fed → Type 0
    AllowedFed f = f ≡ fed_of was text.now (length out.now)

    abbrev pub AllowedReader : Reader → Type 0
    AllowedReader q = q ≡ (fed_of was text.now (length out.now)).session.reader

    abbrev pub AllowedOut : List ℕ → Type 0
    AllowedOut o = o ≡ fed_out was text.now out.now

    pub feed_says : {M : Type 1} {𝓤 : Ura M} (𝓛 : Logic 𝓤) (at_mem : Memory → SProp 𝓤) (run : Routine → Fun 𝓤) (κs : Lfts 3) (f : Fed) (q : MutBor Reader) (o : MutBor (List ℕ))
        → (the_feed.clauses 𝓛 at_mem run κs (c, (r, (text, (out, tt))))).ensures tt f (c, (q, (text, (o, tt))))
        ≡ sep 𝓤 (fact 𝓤 (AllowedFed f)) (sep 𝓤 (fact 𝓤 (AllowedReader q.now)) (fact 𝓤 (AllowedOut o.now)))
    feed_says 𝓛 at_mem run κs f q o = refl

    pub feed_lem : OneResult AllowedFed × OneResult AllowedReader × OneResult AllowedOut
    feed_lem = (one_result _, one_result _, one_result _)

  abbrev pub AllowedEnd : Finished → Type 0
  AllowedEnd f = f ≡ finish_of was (length out.now)

  abbrev pub AllowedEndReader : Reader → Type 0
  AllowedEndReader q = q ≡ (finish_of was (length out.now)).session.reader

  abbrev pub AllowedEndOut : List ℕ → Type 0
  AllowedEndOut o = o ≡ finish_out was out.now

  pub finish_says : {M : Type 1} {𝓤 : Ura M} (𝓛 : Logic 𝓤) (at_mem : Memory → SProp 𝓤) (run : Routine → Fun 𝓤) (κs : Lfts 2) (f : Finished) (q : MutBor Reader) (o : MutBor (List ℕ))
      → (the_finish.clauses 𝓛 at_mem run κs (c, (r, (out, tt)))).ensures tt f (c, (q, (o, tt)))
      ≡ sep 𝓤 (fact 𝓤 (AllowedEnd f)) (sep 𝓤 (fact 𝓤 (AllowedEndReader q.now)) (fact 𝓤 (AllowedEndOut o.now)))
  finish_says 𝓛 at_mem run κs f q o = refl

  pub finish_lem : OneResult AllowedEnd × OneResult AllowedEndReader × OneResult AllowedEndOut
  finish_lem = (one_result _, one_result _, one_result _)
