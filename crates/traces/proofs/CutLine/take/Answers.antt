-- `traces::CutLine::take` meets its contract. Assumes nothing.
use mathlib.Core.Path.{ap}
use Prim.Native.Nat.{ℕ}
use borrow.Author.Rules.{rules}
use borrow.Author.Tests.{eq-eqb, ne_eqb, lt-ltb, le-ltb}
use Rattle.lines.specs.Texts.{line_feed}
use Rattle.traces.specs.Shown.{most_shown}
use Rattle.traces.specs.Writing.{kept_after, kept_with}
use Rattle.traces.proofs.CutLine.take.Goals as goal

pub returns-then-b-eq-LINE_FEED : goal.returns-then-b-eq-LINE_FEED
unfolding kept_after
returns-then-b-eq-LINE_FEED c = rw (eq-eqb c.args.b line_feed c.if-b-eq-LINE_FEED.true) c.nothing_kept.ensures

pub returns-then-self-lt-SHOWN : goal.returns-then-self-lt-SHOWN
unfolding kept_after kept_with
returns-then-self-lt-SHOWN c = rw (ne_eqb c.args.b line_feed c.if-b-eq-LINE_FEED.false, lt-ltb c.args.self.now.fill most_shown (search rules))

pub returns-else-self-lt-SHOWN : goal.returns-else-self-lt-SHOWN
unfolding kept_after kept_with
returns-else-self-lt-SHOWN c =
    rw (ne_eqb c.args.b line_feed c.if-b-eq-LINE_FEED.false, le-ltb c.args.self.now.fill most_shown (search rules))
    (ap (λ (n : ℕ). record { held = c.args.self.now.held; fill = c.args.self.now.fill; more = n }) c.one_more-self.ensures)
