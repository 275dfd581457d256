-- `plans::tried` meets its contract. Assumes nothing.
use mathlib.Core.Path.{sym, ◌∙◌}
use Rattle.plans.proofs.Trying.{tried_over, tried_full, tried_refused, tried_done}
use borrow.Author.Rules.{rules}
use Rattle.plans.proofs.tried.Goals as goal

pub returns-then-is_refused : goal.returns-then-is_refused
returns-then-is_refused c = tried_over _ _ (sym c.is_refused.ensures ∙ c.if-is_refused.true)

pub returns-then-n-ge-MOST_FRAMES : goal.returns-then-n-ge-MOST_FRAMES
returns-then-n-ge-MOST_FRAMES c = tried_full _ _ (search rules)

pub returns-then-is_refused-2 : goal.returns-then-is_refused-2
returns-then-is_refused-2 c =
    tried_refused _ _ (sym c.is_refused.ensures ∙ c.if-is_refused.false) (search rules) c.step-o.result
    c.step-o.ensures (sym c.is_refused-2.ensures ∙ c.if-is_refused-2.true) _ c.no_frames.ensures

pub returns : goal.returns
returns c =
    tried_done _ _ (sym c.is_refused.ensures ∙ c.if-is_refused.false) (search rules) c.step-o.result c.step-o.ensures
    (sym c.is_refused-2.ensures ∙ c.if-is_refused-2.false) _ c.frame_for-f.ensures
