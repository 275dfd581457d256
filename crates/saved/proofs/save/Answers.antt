-- `saved::save` meets its contract. Assumes nothing.
use mathlib.Core.Path.{◌≡◌, ◌∙◌}
use mathlib.Core.List.{List}
use lib.ListN.{length}
use Prim.Native.Nat.{ℕ}
use Rattle.cluster.specs.declared.Cluster.{Cluster}
use Rattle.saved.specs.Editions.{newest}
use Rattle.saved.specs.Saved.{save_of}
use Rattle.saved.specs.Written.{saved_as_of, saved_as_out, saved_of, saved_out}
use Rattle.saved.proofs.Allowed.{newest_form}
use Rattle.saved.proofs.save.Goals as goal

newest-result : (c : Cluster) (room : ℕ) → saved_as_of newest.number c room ≡ saved_of c room
unfolding saved_as_of saved_of save_of
newest-result c room = rw (newest_form c)

newest-out : (c : Cluster) (out : List ℕ) → saved_as_out newest.number c out ≡ saved_out c out
unfolding saved_as_out saved_out save_of
newest-out c out = rw (newest_form c)

pub returns : goal.returns
returns c =
    record {
      result = c.save_as.ensures.result ∙ newest-result c.args.c (length c.args.out.now);
      output = c.save_as.ensures.output ∙ newest-out c.args.c c.args.out.now;
    }
