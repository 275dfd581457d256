-- `frames::step_in` meets its contract. Assumes nothing.
use Rattle.frames.specs.Kinds.{step_of_frame}
use Rattle.frames.specs.Steps.{step_in}
use Rattle.frames.proofs.Unknown.{unknown_in}
use Rattle.base.proofs.Bools.{said_no, said_yes}
use mathlib.Core.Path.{sym, ap, ◌∙◌}
use Rattle.frames.proofs.step_in.Goals.{then-kind-ge-KINDS-via-then-kind-ge-KINDS, then-kind-ge-KINDS-via-else-kind-ge-KINDS+then-not-is_clean}
use Rattle.frames.proofs.step_in.Goals as goal

pub returns-then-kind-ge-KINDS : goal.returns-then-kind-ge-KINDS
unfolding step_in
returns-then-kind-ge-KINDS c =
    elim c.then-kind-ge-KINDS.branch [
      | then-kind-ge-KINDS-via-then-kind-ge-KINDS w ↦ sym (unknown_in c.args.b (rw c.from-kind.ensures at w.if-kind-ge-KINDS.true))
      | then-kind-ge-KINDS-via-else-kind-ge-KINDS+then-not-is_clean w ↦ rw (said_no _ _ (rw c.from-kind.ensures at w.is_clean.ensures) w.if-not-is_clean.true)
    ]

pub returns : goal.returns
unfolding step_in
returns c = rw (said_yes _ _ (rw c.from-kind.ensures at c.is_clean.ensures) c.if-not-is_clean.false) (c.step_of.ensures ∙ ap step_of_frame c.frame_of.ensures)
