-- `histories::committed::Columns::value_at` meets its contract. Assumes nothing.
use Rattle.histories.proofs.Searching.{last_all, last_below, value_found, value_missing}
use native.Mathlib.Omega.{arith}
use mathlib.Core.Path.{sym, ◌∙◌}
use Rattle.histories.proofs.committed.Columns.value_at.Goals as goal

pub loop-i-init : goal.loop-i-init
loop-i-init c = last_all c.entries-i.ensures

pub entry_at-e-requires : goal.entry_at-e-requires
entry_at-e-requires c = (omega arith, omega (arith, c.loop-i.invariant.within))

pub returns-then-can_read : goal.returns-then-can_read
returns-then-can_read c =
    value_found c.args.key c.args.t c.loop-i.invariant (omega arith) _ c.entry_at-e.ensures (sym c.can_read.ensures ∙ c.if-can_read.true)

pub loop-i-preserved : goal.loop-i-preserved
loop-i-preserved c =
    last_below c.loop-i.invariant (omega arith) _ c.entry_at-e.ensures (sym c.can_read.ensures ∙ c.if-can_read.false)

pub returns : goal.returns
returns c = value_missing c.args.key c.args.t c.loop-i.invariant (omega arith)
