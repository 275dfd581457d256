-- What the program's own functions promise, by their contracts' readings. Most are private, so no other room can name these: the page of claims
-- names this record. Assumes nothing.
use contract.Lifetimes.{Lfts}
use denote.Bor.{Bor}
use denote.MutBor.{MutBor}
use mathlib.Core.Path.{◌≡◌}
use mathlib.Core.Bool.{Bool}
use mathlib.Core.List.{List}
use Prim.Native.Nat.{ℕ}
use Rattle.cluster.specs.declared.Cluster.{Cluster}
use Rattle.lines.specs.Texts.{placed}
use Rattle.lines.specs.Turns.{TurnsBy, DrainsBy}
use Rattle.replay.specs.Pieces.{runs, says}
use Rattle.streams.specs.declared.Streams.{Streams}
use Rattle.streams.specs.declared.Source.{Source}
use Rattle.trails.specs.declared.Wanted.{Wanted}
use Rattle.orders.specs.declared.Orders.{Orders}
use Rattle.shell.specs.declared.Answering.{Answering}
use Rattle.std.specs.Prelude.{Option}
use denote.RattleType.{RattleType}
use denote.Param.Laws.{Laws}
use mir.Syntax.{Dict}
use Rattle.std.specs.declared.io.traits.Read.{Ghosts as Reads}
use Rattle.streams.specs.declared.Taker.{Ghosts}
use Rattle.lines.specs.Turns.{End}
use Rattle.shell.specs.AsOrdered.{answers_due, is_saved_by, RunsBy}
use Rattle.shell.specs.Loop.{Answered, TracedAll}
use Rattle.shell.specs.Saving.{Loads}
use Rattle.streams.proofs.turn.Reads as turn_reads
use Rattle.streams.proofs.drain.Reads as drain_reads
use Rattle.shell.proofs.answers_due.Reads as answers_due_reads
use Rattle.shell.proofs.Answering.pour.Reads as pour_reads
use Rattle.shell.proofs.AnsweringTaker.take.Reads as take_reads
use Rattle.shell.proofs.answered.Reads as answered_reads
use Rattle.shell.proofs.traced.Reads as traced_reads
use Rattle.shell.proofs.saves.load.Reads as load_reads
use Rattle.shell.proofs.run_through.Reads as run_through_reads
use Rattle.shell.proofs.is_saved.Reads as is_saved_reads

pub record ProgramIs : Type 2 where
  -- of answers all is written, or nothing
  pub answers_due : (quiet : Bool) (n r : ℕ) → answers_due_reads.Learnt tt (quiet, (n, tt)) r (quiet, (n, tt)) → r ≡ answers_due quiet n
  -- a piece is answered whole, and its answers are in the buffer
  pub pour : (κs : Lfts 3) (a o : MutBor Answering) (piece : Bor (List ℕ)) (r : Bool)
      → pour_reads.Learnt κs (a, (piece, tt)) r (o, (piece, tt)) → (o.now.session ≡ runs a.now.session piece.now) × (o.now.out ≡ placed a.now.out 0 (says a.now.session piece.now))
  -- so is what the loop hands on, piece by piece: a turn of whatever takes an input, with what a read answered, and all turns
  pub take : (κs : Lfts 3) (a o : MutBor Answering) (piece : Bor (List ℕ)) (r : Bool)
      → take_reads.Learnt κs (a, (piece, tt)) r (o, (piece, tt)) → o.now.session ≡ runs a.now.session piece.now
  pub turn : (T S : RattleType) (t : Laws T) (s : Laws S) (g : Ghosts T.Denot S.Denot) (d : Dict) (κs : Lfts 4) (a o : MutBor T.Denot) (buffer : Bor (List ℕ)) (got : Option ℕ) (r : Option End)
      → turn_reads.Learnt T S t s g d κs (a, (buffer, (got, tt))) r (o, (buffer, (got, tt))) → TurnsBy g.over (g.state a.now) buffer.now got (g.state o.now) r
  pub drain : (F T S : RattleType) (f : Laws F) (t : Laws T) (s : Laws S) (h : Reads F.Denot) (k : Dict) (g : Ghosts T.Denot S.Denot) (d : Dict) (κs : Lfts 5) (from i : MutBor F.Denot)
      (a o : MutBor T.Denot) (r : End)
      → drain_reads.Learnt F T S f t s h k g d κs (from, (a, tt)) r (i, (o, tt)) → DrainsBy g.over (g.state a.now) (g.state o.now) r
  -- a whole input: what is called well was written
  pub answered : (κs : Lfts 1) (streams : Bor Streams) (quiet : Bool) (c : Cluster) (r : Option Cluster) → answered_reads.Learnt κs (streams, (quiet, (c, tt))) r (streams, (quiet, (c, tt))) → Answered c r
  pub traced : (κs : Lfts 1) (streams : Bor Streams) (w : Wanted) (c : Cluster) (r : Option Cluster) → traced_reads.Learnt κs (streams, (w, (c, tt))) r (streams, (w, (c, tt))) → TracedAll c r
  -- the record that is loaded is the one that all that was read loads
  pub load : (κs : Lfts 2) (streams : Bor Streams) (source o : MutBor Source) (r : Option Cluster) → load_reads.Learnt κs (streams, (source, tt)) r (streams, (o, tt)) → Loads r
  -- a run as ordered, and whether its record is saved
  pub run : (κs : Lfts 2) (streams : Bor Streams) (source u : MutBor Source) (o : Orders) (r : Option Cluster)
      → run_through_reads.Learnt κs (streams, (source, (o, tt))) r (streams, (u, (o, tt))) → RunsBy o r
  pub is_saved : (o : Orders) (well r : Bool) → is_saved_reads.Learnt tt (o, (well, tt)) r (o, (well, tt)) → r ≡ is_saved_by o well

pub program_is : ProgramIs
program_is =
    record {
      answers_due = λ quiet n r e. e;
      pour = λ κs a o piece r e. e;
      take = λ κs a o piece r e. e.0;
      turn = λ T S t s g d κs a o buffer got r e. e.0;
      drain = λ F T S f t s h k g d κs from i a o r e. e.0;
      answered = λ κs streams quiet c r e. e;
      traced = λ κs streams w c r e. e;
      load = λ κs streams source o r e. e;
      run = λ κs streams source u o r e. e;
      is_saved = λ o well r e. e;
    }
