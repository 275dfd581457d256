-- `shapes::line_ended` meets its contract. Assumes nothing.
use mathlib.Core.Path.{sym, ◌∙◌}
use Rattle.base.proofs.Bools.{said_no, said_yes}
use Rattle.shapes.proofs.Judged.{judged_end, judged_over, judged_past, judged_other, judged_frame}
use Rattle.shapes.proofs.line_ended.Goals.{then-s-via-then-s, then-s-via-else-s+then-n-gt-MOST_CHARS}
use Rattle.shapes.proofs.line_ended.Goals as goal

pub returns-in_default : goal.returns-in_default
returns-in_default c = c.broken_at.ensures ∙ judged_end c.args.s (sym c.expected.ensures ∙ c.in_default.is)

pub returns-then-s : goal.returns-then-s
returns-then-s c =
    let due = sym c.expected.ensures ∙ c.in-Some.is in
    c.broken_at-then-s.ensures
    ∙ elim c.then-s.branch [
      | then-s-via-then-s w ↦ judged_over c.args.s c.in-Some.k due w.if-s.true
      | then-s-via-else-s+then-n-gt-MOST_CHARS w ↦ judged_past c.args.s c.in-Some.k due w.if-n-gt-MOST_CHARS.true
    ]

pub returns-then-not-is_next : goal.returns-then-not-is_next
returns-then-not-is_next c =
    c.broken_at-then-not-is_next.ensures
    ∙ judged_other c.args.s c.in-Some.k (sym c.expected.ensures ∙ c.in-Some.is) c.if-s.false c.if-n-gt-MOST_CHARS.false (said_no _ _ c.is_next.ensures c.if-not-is_next.true)

pub returns : goal.returns
returns c =
    judged_frame c.args.s c.in-Some.k (sym c.expected.ensures ∙ c.in-Some.is) c.if-s.false c.if-n-gt-MOST_CHARS.false _ _ (said_yes _ _ c.is_next.ensures c.if-not-is_next.false) c.first_bytes.ensures c.next_line.ensures
