-- `trails::follow::Tracing::take` meets its contract. Assumes nothing.
use Rattle.std.proofs.Common.{rules}
use Rattle.traces.proofs.Each.{each_more, each_ended}
use Rattle.trails.specs.Bytes.{trail_after}
use Rattle.trails.proofs.Passing.{passed_character, passed_line}
use Rattle.trails.proofs.follow.TracingTaker.take.Goals as goal

pub loop-b-preserved-then-b-ne-LINE_FEED : goal.loop-b-preserved-then-b-ne-LINE_FEED
loop-b-preserved-then-b-ne-LINE_FEED c =
    each_more trail_after _ c.loop-b.self.trail _ c.args.piece.now c.loop-b.b-index c.loop-b-test.true c.loop-b.invariant
    (passed_character c.loop-b.self.trail _ _ _ c.from_ref.ensures.value c.keep-self.ensures c.if-b-ne-LINE_FEED.true)

pub loop-b-preserved : goal.loop-b-preserved
loop-b-preserved c =
    each_more trail_after _ c.loop-b.self.trail _ c.args.piece.now c.loop-b.b-index c.loop-b-test.true c.loop-b.invariant
    (passed_line c.loop-b.self.trail _ _ _ c.from_ref.ensures.value c.keep-self.ensures _ _ _ _ c.if-b-ne-LINE_FEED.false c.put_line-l.ensures.result c.one_more-self.ensures)

pub returns-clause-taken : goal.returns-clause-taken
returns-clause-taken c = each_ended trail_after _ _ c.args.piece.now c.loop-b.b-index (search rules) c.loop-b.invariant
