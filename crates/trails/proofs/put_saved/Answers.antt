-- `trails::put_saved` meets its contract. Assumes nothing.
use Rattle.std.proofs.Common.{Err}
use mathlib.Core.Path.{refl, sym, ◌∙◌}
use Rattle.trails.proofs.Forms.{saved_put, saved_none}
use borrow.Author.Rules.{rules}
use Rattle.trails.proofs.put_saved.Goals as goal

pub returns-in-Ok : goal.returns-in-Ok
returns-in-Ok c = saved_put c.args.c c.args.out.now c.requires _ (search rules) c.save-s.ensures.output _ (sym c.in-Ok.is ∙ c.save-s.ensures.result)

pub returns-in-Err : goal.returns-in-Err
returns-in-Err c = saved_none c.args.c c.args.out.now c.requires _ (search rules) c.save-s.ensures.output (Err _) refl (sym c.in-Err.is ∙ c.save-s.ensures.result)
