-- `frames::write_frame` meets its contract. Assumes nothing.
use mathlib.Core.Path.{ap, ◌∙◌}
use borrow.Author.Rules.{rules}
use Rattle.base.proofs.Facts.{mapped_long}
use Rattle.hex_text.specs.Lines.{hex_of}
use Rattle.hex_text.proofs.Trips.{enhexed}
use Rattle.frames.specs.Layout.{step_bytes}
use Rattle.frames.proofs.write_frame.Goals as goal

pub returns : goal.returns
returns c =
    enhexed step_bytes c.bytes_of_frame.result _ (search (rules, mapped_long)) c.write_bytes.ensures ∙ ap hex_of c.bytes_of_frame.ensures
