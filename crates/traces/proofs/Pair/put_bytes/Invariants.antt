-- What the loop of `traces::Pair::put_bytes` keeps. Assumes nothing.
use mathlib.Core.Path.{◌≡◌}
use lib.ListN.{drop}
use Rattle.traces.specs.Shown.{shown_bytes}
use Rattle.traces.specs.Writing.{put_all}
use Rattle.traces.proofs.Pair.put_bytes.Given as goal

abbrev pub invariant-loop-b : goal.invariant-loop-b
invariant-loop-b l = put_all l.self (shown_bytes (drop l.b-index l.bytes)) ≡ put_all l.initial.self (shown_bytes l.bytes)
