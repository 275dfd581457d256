-- `answers::write_answer` meets its contract. Assumes nothing.
use mathlib.Core.Path.{ap, ◌∙◌}
use borrow.Author.Rules.{rules}
use Rattle.base.proofs.Facts.{mapped_long}
use Rattle.hex_text.specs.Lines.{hex_of}
use Rattle.hex_text.proofs.Trips.{enhexed}
use Rattle.answers.specs.Answers.{answer_bytes, bytes_of_telling}
use Rattle.answers.proofs.write_answer.Goals as goal

pub returns : goal.returns
returns c =
    enhexed answer_bytes c.bytes_of_telling.result _ (search (rules, mapped_long)) c.write_bytes.ensures ∙ ap hex_of (c.bytes_of_telling.ensures ∙ ap bytes_of_telling c.told.ensures)
