-- The loop of a run that is traced: what its end does to it, the pieces that a whole input was, and the record that is left. Nobody has to believe
-- this: by `follows_trace` the pieces, as one text, have the trace that is shown on the way. Assumes nothing.
use Rattle.std.specs.Prelude.{◌≡◌, Bool, cond, Result, Ok, Err}
use Rattle.cluster.specs.declared.Cluster.{Cluster}
use Rattle.lines.specs.declared.Broke.{Broke}
use Rattle.lines.specs.declared.Broke.TheVariants.{CannotWrite}
use Rattle.lines.specs.Texts.{together}
use Rattle.lines.specs.Turns.{End, all_read, is_input, DrainsBy}
use Rattle.replay.specs.Texts.{leaves}
use Rattle.trails.specs.declared.follow.Trail.{Trail}
use Rattle.trails.specs.Bytes.{begun_trail, trail_over, ended_trail}

-- how something that is written ends
abbrev pub written_by : Bool → End → End
written_by wrote well = cond wrote well (Err CannotWrite)

-- how a run ended, without its record
abbrev pub run_ends : Result Cluster Broke → End
run_ends (Ok c) = all_read
run_ends (Err b) = Err b

-- the end of the input: the rest is shown, and was written or can't be
pub record Ends (t : Trail) (r : Result Cluster Broke) : Type 0 where
  pub wrote : Bool
  pub end : run_ends r ≡ written_by wrote all_read
  pub record_left : (d : Cluster) → r ≡ Ok d → d ≡ ended_trail t

-- a run whose input ended so: the rest ends it, where that was read to its end, and else what broke it off
abbrev pub EndsAs : End → Trail → Result Cluster Broke → Type 0
EndsAs (Ok u) t r = Ends t r
EndsAs (Err b) t r = r ≡ Err b

-- a whole input: it ended with its input exactly where its turns came to that and the last line was written, and then the record is the one that the pieces, as
-- one text, leave
pub record Follows (c : Cluster) (r : Result Cluster Broke) : Type 0 where
  pub trail : Trail
  pub stopped : End
  pub drained : DrainsBy trail_over (begun_trail c) trail stopped
  pub wrote : Bool
  pub end : run_ends r ≡ cond (is_input stopped) (written_by wrote all_read) stopped
  pub record_left : (d : Cluster) → r ≡ Ok d → d ≡ leaves c (together drained.pieces)
