-- `trails::follow::Tracing::close` meets its contract. Assumes nothing.
use mathlib.Core.Path.{sym, ◌∙◌}
use Rattle.trails.proofs.Passing.{ends_none, ends_some}
use Rattle.trails.proofs.Following.{ends_written, ends_broken}
use Rattle.trails.proofs.follow.Tracing.close.Goals as goal

pub returns-then-kept-eq0 : goal.returns-then-kept-eq0
returns-then-kept-eq0 c = ends_written _ _ (ends_none c.args.self.now.trail c.if-kept-eq0.true)

pub returns-in_err-written : goal.returns-in_err-written
returns-in_err-written c = ends_broken _ _ _ _ c.from_residual.ensures.1 (sym c.written.ensures ∙ c.in_err-written.was)

pub returns : goal.returns
returns c = ends_written _ _ (ends_some c.args.self.now.trail _ _ _ c.if-kept-eq0.false c.put_line-l.ensures.result)
