-- `loads::same_text` meets its contract. Assumes nothing.
use mathlib.Core.Path.{◌∙◌}
use Rattle.loads.proofs.Same.{pointwise_same}
use Rattle.loads.proofs.same_text.Goals as goal

pub returns : goal.returns
returns c = c.eq.ensures ∙ pointwise_same c.args.a.now c.args.b.now
