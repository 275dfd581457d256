-- `replay::step_held` meets its contract. Assumes nothing.
use Rattle.base.proofs.Facts.{mapped_long}
use Rattle.lines.proofs.Held.{held_over_lem, held_short, held_within}
use Rattle.std.proofs.Common.{None}
use Rattle.frames.specs.Layout.{step_bytes}
use Rattle.frames.specs.Steps.{step_in, read_step}
use Rattle.lines.specs.Readers.{Reader, width, line_held}
use mathlib.Core.Path.{◌≡◌, sym, ap, ◌∙◌}
use mathlib.Core.Bool.{false}
use native.Mathlib.Omega.{arith}
use lib.ListN.{length}
use lib.Seq.{take_all}
use borrow.Author.Rules.{rules}
use Rattle.replay.proofs.step_held.Goals.{then-r-via-then-r, then-r-via-else-r+then-r-ne-STEP_CHARS}
use Rattle.replay.proofs.step_held.Goals as goal

-- a whole frame is read as it stands
whole : (r : Reader) → length r.held ≡ width → r.over ≡ false → r.fill ≡ width → r.held ≡ line_held r
unfolding line_held
whole r l e h = sym (take_all r.fill r.held (omega arith)) ∙ held_within width r.held r.fill r.over e (omega arith)

pub returns-then-r : goal.returns-then-r
unfolding line_held
returns-then-r c =
    elim c.then-r.branch [
      | then-r-via-then-r w ↦ held_over_lem step_bytes step_in None width (omega arith) c.args.r.held c.args.r.fill c.args.r.over w.if-r.true
      | then-r-via-else-r+then-r-ne-STEP_CHARS w ↦ held_short step_bytes step_in None width (omega arith) c.args.r.held c.args.r.fill c.args.r.over (search (rules, mapped_long)) w.if-r.false w.if-r-ne-STEP_CHARS.true
    ]

pub returns : goal.returns
returns c = c.read_frame.ensures ∙ ap read_step (whole c.args.r (search (rules, mapped_long)) c.if-r.false c.if-r-ne-STEP_CHARS.false)
