-- What the loop of `saved::put_notes` keeps. Assumes nothing.
use Prim.Native.Nat.{◌≤◌}
use lib.ListN.{drop}
use Rattle.mail.specs.Mails.{note_slots}
use Rattle.saved.specs.Editions.{widths1}
use Rattle.saved.specs.Saved.{note_frames}
use Rattle.saved.proofs.Going.{Going}
use Rattle.saved.proofs.put_notes.Given as goal

abbrev pub invariant-loop-i : goal.invariant-loop-i
invariant-loop-i l = (l.i ≤ note_slots) × Going l.initial.out l.at l.out l.w (note_frames widths1 0 l.m.notes) (note_frames widths1 l.i (drop l.i l.m.notes))
