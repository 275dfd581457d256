-- `plans::each_turn` meets its contract. Assumes nothing.
use mathlib.Core.Path.{ap, ◌∙◌}
use Prim.Native.Nat.{◌+◌, ◌-◌}
use native.Mathlib.Omega.{arith}
use Rattle.plans.specs.declared.Work.{Work}
use Rattle.plans.specs.Moves.{turns}
use Rattle.plans.specs.Working.{work_of}
use Rattle.plans.proofs.Trying.{work_more}
use Rattle.plans.proofs.each_turn.Goals as goal

pub loop-k-preserved : goal.loop-k-preserved
loop-k-preserved g c = λ move t.
    let k = c.loop-k.k in
    ap (λ (x : Work). work_of x (turns move (k + 1) (c.args.m - (k + 1)))) (t c.loop-k.v k c.turn-v.result (omega arith) c.turn-v.ensures)
    ∙ work_more move c.loop-k.v _ k c.args.m (omega arith) (c.loop-k.invariant move t)
