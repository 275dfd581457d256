-- `trails::put_change` meets its contract. Assumes nothing.
use mathlib.Core.Path.{sym, ◌∙◌}
use Rattle.saved.specs.Written.{longest}
use Rattle.trails.specs.Traces.{change_of}
use Rattle.trails.proofs.Putting.{put_none, put_wider, room_most}
use Rattle.trails.proofs.put_change.Goals as goal

pub returns-then-same_form : goal.returns-then-same_form
unfolding change_of
returns-then-same_form c = rw (sym c.same_form.ensures ∙ c.if-same_form.true) (put_none longest _)

pub returns : goal.returns
unfolding change_of
returns c = rw (sym c.same_form.ensures ∙ c.if-same_form.false) (put_wider c.put_form.ensures longest (room_most c.args.brief))
