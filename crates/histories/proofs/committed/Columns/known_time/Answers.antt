-- `histories::committed::Columns::known_time` meets its contract. Assumes nothing.
use Rattle.histories.proofs.Searching.{last_all, last_below, time_zero, time_found, time_missing}
use native.Mathlib.Omega.{arith}
use mathlib.Core.Path.{sym, ◌∙◌}
use Rattle.histories.proofs.committed.Columns.known_time.Goals as goal

pub returns-then-same_time : goal.returns-then-same_time
returns-then-same_time c = time_zero c.args.t _ (sym c.same_time.ensures ∙ c.if-same_time.true)

pub loop-i-init : goal.loop-i-init
loop-i-init c = last_all c.entries-i.ensures

pub entry_at-e-requires : goal.entry_at-e-requires
entry_at-e-requires c = (omega arith, omega (arith, c.loop-i.invariant.within))

pub returns-then-same_time-2 : goal.returns-then-same_time-2
returns-then-same_time-2 c =
    time_found c.args.t c.loop-i.invariant (omega arith) _ c.entry_at-e.ensures (sym c.same_time-in-loop-i.ensures ∙ c.if-same_time-2.true)

pub loop-i-preserved : goal.loop-i-preserved
loop-i-preserved c =
    last_below c.loop-i.invariant (omega arith) _ c.entry_at-e.ensures (sym c.same_time-in-loop-i.ensures ∙ c.if-same_time-2.false)

pub returns : goal.returns
returns c = time_missing c.args.t c.loop-i.invariant (omega arith) (sym c.same_time.ensures ∙ c.if-same_time.false)
