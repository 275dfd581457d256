-- `verdicts::spread_of` meets its contract. Assumes nothing.
use mathlib.Core.Path.{◌≡◌, refl}
use native.Mathlib.Omega.{arith}
use lib.ListN.{length}
use borrow.Author.Rules.{rules}
use Rattle.base.proofs.Facts.{mapped_long}
use Rattle.server_log.specs.Logs.{log_limit}
use Rattle.verdicts.proofs.Filled.{all_none, all_more, all_done}
use Rattle.verdicts.proofs.spread_of.Goals.{Start}
use Rattle.verdicts.proofs.spread_of.Goals as goal

-- the log has all its slots
long : (c : Start) → length c.args.g.entries ≡ log_limit
long c = search (rules, mapped_long)

pub loop-i-init : goal.loop-i-init
loop-i-init c = all_none c.args.g.entries

pub loop-i-preserved : goal.loop-i-preserved
loop-i-preserved c = all_more c.loop-i.invariant (long c.before.before.before) _ (omega arith) refl

pub returns : goal.returns
returns c = all_done c.loop-i.invariant (long c.before.before) c.args.g refl (omega arith)
