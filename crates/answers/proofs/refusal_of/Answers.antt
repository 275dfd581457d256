-- `answers::refusal_of` meets its contract. Assumes nothing.
use mathlib.Core.Path.{subst}
use Rattle.steps.specs.Refusals.{NamesRefusal}
use Rattle.answers.proofs.Numbered.{named_lem, unnamed}
use Rattle.answers.proofs.refusal_of.Goals as goal

pub returns-in-Ok : goal.returns-in-Ok
returns-in-Ok c = named_lem c.args.n c.in-Ok.r (subst (NamesRefusal c.args.n) c.in-Ok.is c.try_from.ensures)

pub returns-in-Err : goal.returns-in-Err
returns-in-Err c = unnamed c.args.n c.in-Err.field-0 (subst (NamesRefusal c.args.n) c.in-Err.is c.try_from.ensures)
