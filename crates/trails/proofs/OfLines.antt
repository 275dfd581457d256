-- What is left of a line that is kept: the record after it, and all that a trace has for it where there is room. Assumes nothing.
use mathlib.Core.Path.{◌≡◌, ap, ◌∙◌}
use mathlib.Core.List.{List}
use Prim.Native.Nat.{ℕ, ◌≤◌, ◌<◌}
use native.Mathlib.Omega.{arith}
use lib.ListN.{length}
use borrow.Author.Tests.{lt-ltb, le-ltb}
use Rattle.cluster.specs.declared.Cluster.{Cluster}
use Rattle.steps.specs.declared.Outcome.{Outcome}
use Rattle.frames.specs.Steps.{read_step}
use Rattle.replay.specs.Texts.{respond, answer_to}
use Rattle.traces.specs.declared.CutLine.{CutLine}
use Rattle.traces.specs.declared.Pair.{Pair}
use Rattle.traces.specs.Writing.{held_in, text_in, pair_made}
use Rattle.trails.specs.declared.Wanted.{Wanted}
use Rattle.trails.specs.declared.Lined.{Lined}
use Rattle.trails.specs.Bytes.{most_line, Put, wanted_of, shown_by, lined_of, lined_out}

module _ (w : Wanted) (n : ℕ) (c : Cluster) (k : CutLine) (out : List ℕ) (o : Outcome) (e : o ≡ respond c (read_step (held_in k))) where
  answered : o ≡ answer_to c (held_in k)
  unfolding answer_to
  answered = e

  pub lined_none : length out < most_line
      → (◌≡◌ {A = Lined} (record { cluster = o.cluster; wrote = 0 }) (lined_of w n c k (length out))) × (out ≡ lined_out w n c k out)
  unfolding lined_of lined_out
  lined_none h = (rw (lt-ltb (length out) most_line h, answered), rw (lt-ltb (length out) most_line h))

  pub lined_some : (p : Pair) (after : List ℕ) (r : ℕ) → most_line ≤ length out → p ≡ pair_made k o.answer
      → Put most_line out after r (wanted_of w n c o.cluster (text_in p))
      → (◌≡◌ {A = Lined} (record { cluster = o.cluster; wrote = r }) (lined_of w n c k (length out))) × (after ≡ lined_out w n c k out)
  unfolding lined_of lined_out
  lined_some p after r h m q =
      let room = le-ltb (length out) most_line h in
      let shown : wanted_of w n c o.cluster (text_in p) ≡ shown_by w n c k = rw (m, answered) in
      let long : r ≡ length (shown_by w n c k) = omega (arith, q.count, ap length shown) in
      (rw (room, answered, long), q.buffer ∙ rw (room, shown))
