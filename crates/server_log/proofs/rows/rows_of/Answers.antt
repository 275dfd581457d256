-- `server_log::rows::rows_of` meets its contract. Assumes nothing.
use Rattle.server_log.specs.Rows.{zero_row, latest_over, between}
use Rattle.server_log.proofs.Rowed.{over_both}
use mathlib.Core.Path.{◌∙◌}
use Rattle.server_log.proofs.rows.rows_of.Goals as goal

pub returns : goal.returns
returns c =
    let w = c.latest_over-whole.ensures ∙ (λ i. latest_over (c.latest_over-committed.ensures i) (between c.args.g c.args.commit (c.length_of-n.ensures i))) ∙ over_both zero_row c.args.g c.args.commit in
    λ i. record { whole = w i; committed = c.latest_over-committed.ensures i }
