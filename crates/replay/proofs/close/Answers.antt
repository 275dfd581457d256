-- `replay::close` meets its contract. Assumes nothing.
use Rattle.replay.proofs.Ends.{ends_nothing, ends_tight, ends_answered}
use Rattle.lines.specs.Readers.{Reader, line_held}
use Rattle.frames.specs.Steps.{read_step}
use Rattle.steps.specs.declared.Step.{Step}
use Rattle.std.proofs.Common.{Option}
use Rattle.steps.specs.declared.Outcome.{Outcome}
use Rattle.cluster.specs.declared.Cluster.{Cluster}
use Rattle.replay.specs.Texts.{respond, answer_to}
use mathlib.Core.Path.{◌≡◌, sym, ap, ◌∙◌}
use Rattle.replay.proofs.close.Goals as goal

-- the rest was answered as a line
answered : (c : Cluster) (r : Reader) (read : Option Step) (o : Outcome) → o ≡ respond c read → read ≡ read_step (line_held r) → o ≡ answer_to c (line_held r)
unfolding answer_to
answered c r read o e h = e ∙ ap (respond c) h

pub returns-then-is_empty : goal.returns-then-is_empty
returns-then-is_empty c =
    let h = ends_nothing c.args.s _ c.args.out.now c.begin.ensures (sym c.is_empty.ensures ∙ c.if-is_empty.true) in
    record { result = h.0; output = h.1 }

pub returns-then-out-lt-ANSWER_LINE : goal.returns-then-out-lt-ANSWER_LINE
returns-then-out-lt-ANSWER_LINE c =
    let h = ends_tight c.args.s c.args.out.now (sym c.is_empty.ensures ∙ c.if-is_empty.false) c.if-out-lt-ANSWER_LINE.true in
    record { result = h.0; output = h.1 }

pub returns : goal.returns
returns c =
    let o = answered _ _ _ c.respond_to-o.result c.respond_to-o.ensures c.step_held.ensures in
    let h =
    ends_answered c.args.s _ c.args.out.now _ c.respond_to-o.result (sym c.is_empty.ensures ∙ c.if-is_empty.false)
    c.if-out-lt-ANSWER_LINE.false o c.begin-2.ensures c.put.ensures in
    record { result = h.0; output = h.1 }
