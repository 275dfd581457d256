-- `verdicts::reason` meets its contract. Assumes nothing.
use mathlib.Core.List.{List}
use mathlib.Core.Path.{ap, ◌∙◌}
use Rattle.server_log.specs.declared.Entry.{Entry}
use Rattle.server_log.specs.Logs.{live}
use Rattle.histories.specs.Committed.{Committed, entries_of}
use Rattle.histories.specs.Reasons.{why_of}
use Rattle.verdicts.proofs.Filled.{lent_columns, columns_same}
use Rattle.verdicts.proofs.reason.Goals as goal

pub returns : goal.returns
returns c =
    c.why.ensures
    ∙ ap (λ (x : Committed). why_of (entries_of x) c.args.r) (c.lend-log.ensures ∙ lent_columns c.args.g c.length_of-n.result c.length_of-n.ensures c.spread_of-c.result c.spread_of-c.ensures)
    ∙ ap (λ (es : List Entry). why_of es c.args.r) (columns_same (live c.args.g))
