-- The program's loop: what its end does, and the pieces that a whole input was. Nobody has to believe this: what `pour` and `drain` do follows, and
-- `any_pieces` of `replay` says what pieces come to. Assumes nothing.
use Rattle.std.specs.Prelude.{◌≡◌, Bool, cond, ◌&&◌, Option, Some, None, is_some, Result}
use Rattle.std.specs.Result.{result_ok}
use Rattle.cluster.specs.declared.Cluster.{Cluster}
use Rattle.replay.specs.declared.Session.{Session}
use Rattle.replay.specs.Texts.{leaves}
use Rattle.lines.specs.Texts.{together}
use Rattle.replay.specs.Pieces.{begun, runs, ended}
use Rattle.lines.specs.declared.Broke.{Broke}
use Rattle.lines.specs.Turns.{End, is_input, DrainsBy}
use Rattle.trails.specs.Loop.{Follows}

-- the last record, where the last answer was written
abbrev pub finished_by : Cluster → Bool → Option Cluster
finished_by c wrote = cond wrote (Some c) None

-- the end of the input: the rest is answered, and the answer was written or can't be
pub record Finishes (s : Session) (r : Option Cluster) : Type 0 where
  pub wrote : Bool
  pub result : r ≡ finished_by (ended s) wrote

-- an input that is traced: all went well exactly where it ended with its input, and then the record is the one that the trace ended with
pub record TracedAll (c : Cluster) (r : Option Cluster) : Type 0 where
  pub run : Result Cluster Broke
  pub follows : Follows c run
  pub well : r ≡ result_ok run

-- a whole input: all went well exactly where its turns came to its end and the last answer was written, and then the record is the one that
-- the pieces, as one text, leave
pub record Answered (c : Cluster) (r : Option Cluster) : Type 0 where
  pub session : Session
  pub stopped : End
  pub drains : DrainsBy runs (begun c) session stopped
  pub wrote : Bool
  pub well : is_some r ≡ (is_input stopped && wrote)
  pub record_left : (d : Cluster) → r ≡ Some d → d ≡ leaves c (together drains.pieces)
