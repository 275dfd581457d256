-- `saved::put_reports` meets its contract. Assumes nothing.
use mathlib.Core.Path.{◌≡◌}
use native.Mathlib.Omega.{arith}
use lib.ListN.{length}
use borrow.Author.Rules.{rules}
use Rattle.base.proofs.Facts.{mapped_long}
use Rattle.mail.specs.Reports.{zero_report}
use Rattle.mail.specs.Queues.{queue_limit}
use Rattle.saved.proofs.Going.{each_room, each_more}
use Rattle.saved.proofs.put_reports.Goals as goal

pub put_line-w-requires : goal.put_line-w-requires
put_line-w-requires c =
    let all : length c.args.q.reports ≡ queue_limit = search (rules, mapped_long) in
    each_room c.loop-i.invariant zero_report (omega arith) (omega (arith, all)) c.report_frame-f.ensures c.requires.q_in_bounds

pub loop-i-preserved : goal.loop-i-preserved
loop-i-preserved c =
    let all : length c.args.q.reports ≡ queue_limit = search (rules, mapped_long) in
    each_more c.loop-i.invariant zero_report (omega arith) (omega (arith, all)) c.report_frame-f.ensures c.put_line-w.ensures
