-- `frames::masks::must_be_zero` meets its contract. Assumes nothing.
use Rattle.frames.proofs.Table.{table_says}
use borrow.Author.Rules.{rules}
use Rattle.frames.proofs.masks.must_be_zero.Goals as goal

pub returns : goal.returns
returns c = table_says _ c.requires.0 c.args.kind c.args.i (search rules) (search rules)
