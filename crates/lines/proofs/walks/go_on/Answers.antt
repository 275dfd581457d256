-- `lines::walks::go_on` meets its contract. Assumes nothing.
use mathlib.Core.Path.{◌≡◌, ◌∙◌}
use native.Mathlib.Omega.{arith}
use lib.ListN.{get_or}
use Rattle.lines.specs.Folds.{byte_after}
use Rattle.lines.proofs.Folded.{upto_byte, by_feed, by_character}
use Rattle.lines.proofs.walks.go_on.Goals.{else-b-eq-LINE_FEED, then-b-eq-LINE_FEED}
use Rattle.lines.proofs.walks.go_on.Goals as goal

pub loop-b-preserved : goal.loop-b-preserved
loop-b-preserved g c =
    let f = g.S.ByLines.after in
    let b = get_or c.args.piece.now c.loop-b.b-index 0 in
    let after : c.if-b-eq-LINE_FEED.state ≡ byte_after f c.loop-b.state c.loop-b.reader b =
    elim c.if-b-eq-LINE_FEED.branch [ then-b-eq-LINE_FEED w ↦ w.state-is ∙ w.line-state.ensures ∙ by_feed f c.loop-b.state c.loop-b.reader b w.if-b-eq-LINE_FEED.true | else-b-eq-LINE_FEED w ↦ w.state-is ∙ by_character f c.loop-b.state c.loop-b.reader b w.if-b-eq-LINE_FEED.false ] in
    upto_byte f c.loop-b.invariant _ _ (omega arith) after c.taken-reader.ensures
