-- The program's loop: a piece, what its pieces come to, and a whole input. Assumes nothing.
use mathlib.Core.Path.{◌≡◌, refl, sym, ap, ◌∙◌, subst}
use mathlib.Core.Bool.{Bool, true, false}
use mathlib.Core.List.{List, [], ◌∷◌, ◌++◌}
use Prim.Native.Nat.{ℕ, ◌≤◌, ◌*◌}
use lib.ListN.{length}
use borrow.Author.Tests.{le-ltb}
use Rattle.std.specs.Prelude.{Option, Some, None, is_some, Err}
use Rattle.cluster.specs.declared.Cluster.{Cluster}
use Rattle.replay.specs.declared.Session.{Session}
use Rattle.replay.specs.declared.Fed.{Fed}
use Rattle.replay.specs.declared.Finished.{Finished}
use Rattle.replay.specs.Texts.{answers, leaves}
use Rattle.lines.specs.Texts.{together, placed}
use Rattle.lines.specs.Readers.{is_empty}
use Rattle.replay.specs.Pieces.{answer_line, begun, runs, says, runs_all, says_all, fed_of, fed_out, ending, ended, finish_of}
use Rattle.replay.proofs.Whole.{any_pieces, any_pieces_record}
use Rattle.replay.proofs.Parts.{fed_all, fed_all_out}
use Rattle.lines.specs.declared.Broke.{Broke}
use Rattle.lines.specs.Turns.{End, all_read, over_pieces, DrainsBy}
use Rattle.lines.specs.Folds.{at_end}
use Rattle.shell.specs.Loop.{finished_by, Finishes, Answered}

-- a piece, with room for its answers
pub poured : (s : Session) (piece out out' : List ℕ) (f : Fed) → answer_line * length piece ≤ length out → f ≡ fed_of s piece (length out)
    → out' ≡ fed_out s piece out → (f.session ≡ runs s piece) × (out' ≡ placed out 0 (says s piece))
poured s piece out out' f h e o = ((fed_all s piece (length out) f h e).session, o ∙ fed_all_out s piece out h)

-- pieces one after the other
runs_pieces : (s : Session) (xs : List (List ℕ)) → over_pieces runs s xs ≡ runs_all s xs
runs_pieces s [] = refl
runs_pieces s (x ∷ xs) = runs_pieces (runs s x) xs

-- what the program's loop comes to: the pieces that it read are a text, whose answers were said and whose record is left
module _ (c : Cluster) (s : Session) (e : End) (d : DrainsBy runs (begun c) s e) where
  pub drained_record : ended s ≡ leaves c (together d.pieces)
  drained_record = ap ended (d.state ∙ runs_pieces (begun c) d.pieces) ∙ any_pieces_record c d.pieces

  pub drained_says : says_all (begun c) d.pieces ++ ending s ≡ answers c (together d.pieces)
  drained_says = ap (λ (x : Session). says_all (begun c) d.pieces ++ ending x) (d.state ∙ runs_pieces (begun c) d.pieces) ∙ any_pieces c d.pieces

-- ---- the whole input

-- with room for an answer line, the record after the end
pub finished_record : (s : Session) (room : ℕ) (f : Finished) → answer_line ≤ room → f ≡ finish_of s room → f.session.cluster ≡ ended s
unfolding finish_of at_end
finished_record s room f h e = ap (λ (x : Finished). x.session.cluster) e ∙ go (is_empty s.reader) refl
  where
    go : (x : Bool) → is_empty s.reader ≡ x → (finish_of s room).session.cluster ≡ ended s
    go true k = simp (k, le-ltb room answer_line h)
    go false k = simp (k, le-ltb room answer_line h)

pub finishes : (s : Session) (room : ℕ) (f : Finished) (wrote : Bool) (r : Option Cluster) → answer_line ≤ room → f ≡ finish_of s room
    → r ≡ finished_by f.session.cluster wrote → Finishes s r
finishes s room f wrote r h e p = record { wrote = wrote; result = p ∙ ap (λ (c : Cluster). finished_by c wrote) (finished_record s room f h e) }

-- a record that is left is the one after the end
finished_left : (s : Session) (r : Option Cluster) → Finishes s r → (d : Cluster) → r ≡ Some d → d ≡ ended s
finished_left s r f d e = go f.wrote (sym e ∙ f.result)
  where
    go : (wrote : Bool) → Some d ≡ finished_by (ended s) wrote → d ≡ ended s
    go true p = cc
    go false p = cc

finished_well : (s : Session) (r : Option Cluster) (f : Finishes s r) → is_some r ≡ f.wrote
finished_well s r f = go f.wrote f.result
  where
    go : (wrote : Bool) → r ≡ finished_by (ended s) wrote → is_some r ≡ wrote
    go true p = ap is_some p
    go false p = ap is_some p

module _ (c : Cluster) (b s : Session) (e : End) (r : Option Cluster) (n : b ≡ begun c) (g : DrainsBy runs b s e) where
  drains : DrainsBy runs (begun c) s e
  drains = subst (λ (x : Session). DrainsBy runs x s e) n g

  pub answered_all : e ≡ all_read → Finishes s r → Answered c r
  answered_all i f =
      record {
        session = s;
        stopped = e;
        drains = drains;
        wrote = f.wrote;
        well = rw i (finished_well s r f);
        record_left = λ d p. finished_left s r f d p ∙ drained_record c s e drains;
      }

  pub answered_not : (why : Broke) → e ≡ Err why → r ≡ None → Answered c r
  answered_not why i p =
      record { session = s; stopped = e; drains = drains; wrote = false; well = rw (i, p); record_left = λ d q. cc }
