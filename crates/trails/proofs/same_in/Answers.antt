-- `trails::same_in` meets its contract. Assumes nothing.
use native.Mathlib.Omega.{arith}
use Rattle.trails.proofs.Putting.{put_same}
use Rattle.trails.proofs.same_in.Goals as goal

pub whole_as_slice-put_form : goal.whole_as_slice-put_form
whole_as_slice-put_form g c = omega arith

pub whole_as_slice-put_form-2 : goal.whole_as_slice-put_form-2
whole_as_slice-put_form-2 g c = omega arith

pub shared_whole_as_front-same_text : goal.shared_whole_as_front-same_text
shared_whole_as_front-same_text g c = (omega (arith, c.put_form-n.ensures.count, c.put_form-n.ensures.short), omega arith)

pub shared_whole_as_front-same_text-2 : goal.shared_whole_as_front-same_text-2
shared_whole_as_front-same_text-2 g c = (omega (arith, c.put_form-m.ensures.count, c.put_form-m.ensures.short), omega arith)

pub returns : goal.returns
returns g c = put_same c.put_form-n.ensures c.put_form-m.ensures c.same_text.ensures
