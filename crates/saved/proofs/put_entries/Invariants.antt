-- What the loop of `saved::put_entries` keeps. Assumes nothing.
use Rattle.saved.specs.Editions.{widths1}
use Rattle.saved.specs.Layout.{entry_frame}
use Rattle.saved.proofs.Going.{Each}
use Rattle.saved.proofs.put_entries.Given as goal

abbrev pub invariant-loop-i : goal.invariant-loop-i
invariant-loop-i l = Each (entry_frame widths1) l.g.len l.g.entries l.initial.out l.at l.out l.w l.i
