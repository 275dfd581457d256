-- A whole input that is traced: the pieces that were read are a text, whose trace was shown and whose record is left. Assumes nothing.
use mathlib.Core.Path.{◌≡◌, refl, sym, ap, ◌∙◌, subst}
use mathlib.Core.Bool.{Bool, true}
use mathlib.Core.List.{◌++◌}
use Rattle.std.specs.Prelude.{Result, Ok, Err}
use Rattle.std.specs.Result.{IsErrAnd}
use Rattle.cluster.specs.declared.Cluster.{Cluster}
use Rattle.lines.specs.declared.Broke.{Broke}
use Rattle.lines.specs.Texts.{together}
use Rattle.lines.specs.Turns.{End, all_read, DrainsBy}
use Rattle.replay.specs.Texts.{leaves}
use Rattle.traces.specs.declared.CutLine.{CutLine}
use Rattle.traces.specs.Writing.{nothing_kept}
use Rattle.trails.specs.declared.Wanted.{Wanted}
use Rattle.trails.specs.declared.follow.Trail.{Trail}
use Rattle.trails.specs.Traces.{trace_of}
use Rattle.trails.specs.Bytes.{begun_trail, trail_over, shown_over, shown_last, ended_trail}
use Rattle.trails.specs.Loop.{written_by, run_ends, Ends, EndsAs, Follows}
use Rattle.trails.proofs.Whole.{whole_trace, whole_leaves, trail_pieces}

module _ (c : Cluster) (t : Trail) (e : End) (d : DrainsBy trail_over (begun_trail c) t e) where
  drained_trail : t ≡ trail_over (begun_trail c) (together d.pieces)
  drained_trail = d.state ∙ trail_pieces (begun_trail c) d.pieces

  pub drained_record : ended_trail t ≡ leaves c (together d.pieces)
  drained_record = ap ended_trail drained_trail ∙ whole_leaves c (together d.pieces)

  pub follows_trace : (w : Wanted) → shown_over w (begun_trail c) (together d.pieces) ++ shown_last w t ≡ trace_of w c (together d.pieces)
  follows_trace w =
      ap (λ (u : Trail). shown_over w (begun_trail c) (together d.pieces) ++ shown_last w u) drained_trail ∙ whole_trace w c (together d.pieces)

pub begun_is : {c : Cluster} {k : CutLine} → k ≡ nothing_kept → ◌≡◌ {A = Trail} (record { cluster = c; kept = k; number = 0 }) (begun_trail c)
begun_is e = rw e

-- the end, where the rest was written
pub ends_written : (t : Trail) (d : Cluster) → d ≡ ended_trail t → Ends t (Ok d)
ends_written t d e = record { wrote = true; end = refl; record_left = λ x p. cc }

-- and where it could not be
pub ends_broken : (t : Trail) (wrote : Bool) (b : Broke) (r : Result Cluster Broke) → IsErrAnd r (λ x. x ≡ b) → written_by wrote all_read ≡ Err b → Ends t r
ends_broken t wrote b (Ok d) h e = absurd h
ends_broken t wrote b (Err x) h e = record { wrote = wrote; end = ap Err h ∙ sym e; record_left = λ y p. cc }

-- a whole input, however it ended
module _ (c : Cluster) (s t : Trail) (b : s ≡ begun_trail c) where
  drained : (e : End) → DrainsBy trail_over s t e → DrainsBy trail_over (begun_trail c) t e
  drained e g = subst (λ (x : Trail). DrainsBy trail_over x t e) b g

  pub follows_all : (e : End) (r : Result Cluster Broke) → DrainsBy trail_over s t e → EndsAs e t r → Follows c r
  follows_all (Ok u) r g k =
      record {
        trail = t;
        stopped = Ok u;
        drained = drained (Ok u) g;
        wrote = k.wrote;
        end = k.end;
        record_left = λ x p. k.record_left x p ∙ drained_record c t (Ok u) (drained (Ok u) g);
      }
  follows_all (Err w) r g k =
      record {
        trail = t;
        stopped = Err w;
        drained = drained (Err w) g;
        wrote = true;
        end = ap run_ends k;
        record_left = λ x p. cc;
      }
