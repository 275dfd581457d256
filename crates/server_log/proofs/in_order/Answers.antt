-- `server_log::in_order` meets its contract. Assumes nothing.
use Rattle.server_log.proofs.Placed.{placed_none, placed_all, placed_more, placed_fails}
use Rattle.server_log.proofs.Live.{entry_at_slot}
use Rattle.base.proofs.Bools.{said_no, said_yes}
use native.Mathlib.Omega.{arith}
use lib.ListN.{length-take}
use Rattle.server_log.proofs.in_order.Goals as goal

pub loop-i-init : goal.loop-i-init
loop-i-init c = placed_none

pub returns-then-not-place_ok : goal.returns-then-not-place_ok
returns-then-not-place_ok c =
    placed_fails c.loop-i.invariant _ (entry_at_slot c.args.g c.loop-i.i (omega (arith, length-take c.args.g.len c.args.g.entries))) (omega arith)
    (said_no _ _ c.place_ok.ensures c.if-not-place_ok.true)

pub loop-i-preserved : goal.loop-i-preserved
loop-i-preserved c =
    placed_more c.loop-i.invariant _ (entry_at_slot c.args.g c.loop-i.i (omega (arith, length-take c.args.g.len c.args.g.entries))) (omega arith)
    (said_yes _ _ c.place_ok.ensures c.if-not-place_ok.false)

pub returns : goal.returns
returns c = placed_all c.loop-i.invariant (omega (arith, c.loop-i.invariant.within))
