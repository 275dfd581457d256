-- `loads::saves_to` meets its contract. Assumes nothing.
use Rattle.std.proofs.Common.{Err}
use mathlib.Core.Path.{refl, sym, ◌∙◌}
use Prim.Native.Nat.{ℕ, ◌≤◌}
use native.Mathlib.Omega.{arith}
use lib.ListN.{length, replicate, length-replicate}
use lib.Seq.{length-take-le}
use Rattle.saved.specs.Written.{longest}
use Rattle.loads.proofs.Saves.{no_text, wrote_text, wrote_same, wrote_none}
use Rattle.loads.proofs.saves_to.Goals as goal

-- the buffer has room for the longest saved form
full : longest ≤ length {A = ℕ} (replicate longest 0)
full = omega (arith, length-replicate {A = ℕ} longest 0)

pub slice_bounds-out-end : goal.slice_bounds-out-end
slice_bounds-out-end c = (wrote_text c.args.edition c.args.d _ full c.in-Ok.n c.save_as.new.out (sym c.in-Ok.is ∙ c.save_as.ensures.result) c.save_as.ensures.output).within

pub slice_bounds-same_text-end : goal.slice_bounds-same_text-end
slice_bounds-same_text-end c = sym (length-take-le _ _ (wrote_text c.args.edition c.args.d _ full c.in-Ok.n c.save_as.new.out (sym c.in-Ok.is ∙ c.save_as.ensures.result) c.save_as.ensures.output).within)

pub returns-in-Ok : goal.returns-in-Ok
returns-in-Ok c = c.same_text.ensures ∙ wrote_same _ _ (wrote_text c.args.edition c.args.d _ full c.in-Ok.n c.save_as.new.out (sym c.in-Ok.is ∙ c.save_as.ensures.result) c.save_as.ensures.output) _

pub returns-in-Err : goal.returns-in-Err
returns-in-Err c = wrote_none c.args.edition c.args.d (no_text c.args.edition c.args.d _ full (Err _) refl (sym c.in-Err.is ∙ c.save_as.ensures.result)) _
