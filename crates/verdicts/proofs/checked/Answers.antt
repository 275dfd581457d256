-- `verdicts::checked` meets its contract. Assumes nothing.
use mathlib.Core.Path.{ap, ◌∙◌}
use Rattle.histories.specs.Checking.{check_of}
use Rattle.phones.specs.Listed.{records_kept}
use Rattle.verdicts.proofs.Filled.{lent_columns}
use Rattle.verdicts.proofs.checked.Goals as goal

pub returns : goal.returns
returns c =
    c.check_first.ensures
    ∙ ap (check_of (records_kept c.args.s)) (c.lend-log.ensures ∙ lent_columns c.args.g c.length_of-n.result c.length_of-n.ensures c.spread_of-c.result c.spread_of-c.ensures)
