-- `server_log::rows::rows_ok` meets its contract. Assumes nothing.
use Rattle.server_log.specs.declared.rows.Rows.{Rows}
use Rattle.server_log.proofs.Rowed.{rows_same}
use borrow.Author.Rules.{rules}
use lib.Dec.{eqb}
use lib.Pointwise.{pointwise}
use mathlib.Core.Bool.{◌&&◌}
use mathlib.Core.Path.{ap, ◌∙◌}
use Rattle.server_log.proofs.rows.rows_ok.Goals as goal

pub returns : goal.returns
returns c =
    c.eq.ensures ∙ ap (λ (x : Rows). pointwise eqb c.args.r.whole.values x.whole.values && pointwise eqb c.args.r.committed.values x.committed.values) c.rows_of-afresh.ensures
    ∙ rows_same c.args.r c.args.g c.args.commit (search rules) (search rules)
