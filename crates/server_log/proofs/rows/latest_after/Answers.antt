-- `server_log::rows::latest_after` meets its contract. Assumes nothing.
use Rattle.server_log.specs.Rows.{latest_after}
use borrow.Author.Rules.{rules}
use borrow.Author.Tests.{tests}
use Rattle.server_log.proofs.rows.latest_after.Goals as goal

pub returns-then-e-gt-HIGHEST_KEY : goal.returns-then-e-gt-HIGHEST_KEY
unfolding latest_after
returns-then-e-gt-HIGHEST_KEY c = search (rules, tests)

pub returns : goal.returns
unfolding latest_after
returns c = search (rules, tests)
