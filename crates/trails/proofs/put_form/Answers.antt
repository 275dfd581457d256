-- `trails::put_form` meets its contract. Assumes nothing.
use Rattle.trails.specs.Traces.{form_by}
use Rattle.trails.proofs.put_form.Goals as goal

pub returns-then-brief : goal.returns-then-brief
unfolding form_by
returns-then-brief c = rw c.if-brief.true c.put_first.ensures

pub returns-else-brief : goal.returns-else-brief
unfolding form_by
returns-else-brief c = rw c.if-brief.false c.put_saved.ensures
