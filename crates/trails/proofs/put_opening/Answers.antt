-- `trails::put_opening` meets its contract. Assumes nothing.
use borrow.Author.Tests.{eq-eqb, ne_eqb}
use Rattle.saved.specs.Written.{longest}
use Rattle.trails.specs.Traces.{opening_of}
use Rattle.trails.proofs.Putting.{put_none, put_wider, room_most}
use Rattle.trails.proofs.put_opening.Goals as goal

pub returns-then-n-w : goal.returns-then-n-w
unfolding opening_of
returns-then-n-w c = rw (ne_eqb _ _ c.if-n-w.true) (put_none longest _)

pub returns : goal.returns
unfolding opening_of
returns c = rw (eq-eqb _ _ c.if-n-w.false) (put_wider c.put_form.ensures longest (room_most c.args.w.brief))
