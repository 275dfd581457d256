-- What the loop of `saved::put_reports` keeps. Assumes nothing.
use Rattle.saved.specs.Editions.{widths1}
use Rattle.saved.specs.Layout.{report_frame}
use Rattle.saved.proofs.Going.{Each}
use Rattle.saved.proofs.put_reports.Given as goal

abbrev pub invariant-loop-i : goal.invariant-loop-i
invariant-loop-i l = Each (report_frame widths1) l.q.len l.q.reports l.initial.out l.at l.out l.w l.i
