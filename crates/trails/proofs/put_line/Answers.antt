-- `trails::put_line` meets its contract. Assumes nothing.
use mathlib.Core.Path.{ap, ◌∙◌}
use Rattle.replay.specs.Texts.{respond}
use Rattle.trails.proofs.OfLines.{lined_none, lined_some}
use Rattle.trails.proofs.put_line.Goals as goal

pub returns-then-out-lt-MOST_LINE : goal.returns-then-out-lt-MOST_LINE
returns-then-out-lt-MOST_LINE c =
    let h = lined_none c.args.w c.args.n c.args.c c.args.k c.args.out.now _ (c.respond_to-o.ensures ∙ ap (respond c.args.c) c.read_kept.ensures) c.if-out-lt-MOST_LINE.true in
    record { result = h.0; output = h.1 }

pub returns-else-out-lt-MOST_LINE : goal.returns-else-out-lt-MOST_LINE
returns-else-out-lt-MOST_LINE c =
    let h = lined_some c.args.w c.args.n c.args.c c.args.k c.args.out.now _ (c.respond_to-o.ensures ∙ ap (respond c.args.c) c.read_kept.ensures) _ _ _ c.if-out-lt-MOST_LINE.false c.pair_line.ensures c.put_wanted-wrote.ensures in
    record { result = h.0; output = h.1 }
