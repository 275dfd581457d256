-- `loads::drafted` meets its contract. Assumes nothing.
use mathlib.Core.Path.{◌≡◌, ap, ◌∙◌}
use lib.ListN.{length}
use native.Mathlib.Omega.{arith}
use Rattle.loads.specs.declared.Draft.{Draft}
use Rattle.loads.proofs.Lines.{read_none, read_character, read_line, read_last, read_all}
use Rattle.loads.proofs.drafted.Goals.{else-start-text, else-text-i-eq-LINE_FEED, then-start-text, then-text-i-eq-LINE_FEED}
use Rattle.loads.proofs.drafted.Goals as goal

pub loop-i-init : goal.loop-i-init
loop-i-init c = rw c.fresh_draft-d.ensures (read_none _ _)

pub loop-i-preserved : goal.loop-i-preserved
loop-i-preserved c =
    elim c.if-text-i-eq-LINE_FEED.branch [ then-text-i-eq-LINE_FEED w ↦ rw (w.d-is, w.start-is) (read_line c.loop-i.invariant (omega arith) w.if-text-i-eq-LINE_FEED.true w.with_line-d.ensures) | else-text-i-eq-LINE_FEED w ↦ rw (w.d-is, w.start-is) (read_character c.loop-i.invariant (omega arith) w.if-text-i-eq-LINE_FEED.false) ]

pub returns : goal.returns
returns c =
    let z : c.loop-i.i ≡ length c.args.text.now = omega arith in
    let read = rw z at c.loop-i.invariant in
    elim c.if-start-text.branch [ then-start-text w ↦ ap (λ (x : Draft). x.cluster) w.d-is ∙ read_last read (omega arith) (omega arith) w.with_line-d-then-start-text.ensures | else-start-text w ↦ ap (λ (x : Draft). x.cluster) w.d-is ∙ read_all read (omega arith) (omega arith) ]
