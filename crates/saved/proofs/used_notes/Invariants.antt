-- What the loop of `saved::used_notes` keeps. Assumes nothing.
use mathlib.Core.Path.{◌≡◌}
use mathlib.Core.Bool.{not}
use Rattle.base.specs.Numbers.{count}
use Rattle.mail.specs.Mails.{note_at}
use Rattle.mail.specs.Order.{is_unused}
use Rattle.saved.proofs.used_notes.Given as goal

abbrev pub invariant-loop-n : goal.invariant-loop-n
invariant-loop-n l = l.used ≡ count l.n-index (λ j. not (is_unused (note_at l.fn.m j)))
