-- `server_log::common_beginning` meets its contract. Assumes nothing.
use Rattle.clock.specs.Times.{same_time}
use Rattle.server_log.specs.Entries.{same_entry}
use Rattle.server_log.proofs.Common.{common_end, common_more, common_stops}
use native.Mathlib.Omega.{arith}
use borrow.Author.Rules.{rules}
use borrow.Author.Tests.{tests}
use Rattle.server_log.proofs.common_beginning.Goals as goal

pub returns-then-ne : goal.returns-then-ne
unfolding same_entry same_time
returns-then-ne c = common_stops c.args.a c.args.b c.loop-i.i c.loop-i.invariant (omega arith) (omega arith) (search (rules, tests))

pub loop-i-preserved : goal.loop-i-preserved
unfolding same_entry same_time
loop-i-preserved c = common_more c.args.a c.args.b c.loop-i.i c.loop-i.invariant (omega arith) (omega arith) (search (rules, tests))

pub returns : goal.returns
returns c = common_end c.args.a c.args.b c.loop-i.i c.loop-i.invariant c.min-n.result (omega arith) (omega arith) (omega arith)
