-- `traces::Pair::put_byte` meets its contract. Assumes nothing.
use mathlib.Core.Path.{sym, ◌∙◌}
use Rattle.traces.specs.Shown.{shown_byte}
use Rattle.traces.proofs.Pair.put_byte.Goals as goal

pub returns-then-is_plain : goal.returns-then-is_plain
unfolding shown_byte
returns-then-is_plain c = rw (sym c.is_plain.ensures ∙ c.if-is_plain.true) c.put.ensures

pub returns-else-is_plain : goal.returns-else-is_plain
unfolding shown_byte
returns-else-is_plain c =
    rw (sym c.is_plain.ensures ∙ c.if-is_plain.false)
    (rw (c.put_all.ensures, c.char_of-else-is_plain.ensures, c.char_of.ensures))
