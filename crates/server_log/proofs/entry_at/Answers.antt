-- `server_log::entry_at` meets its contract. Assumes nothing.
use Rattle.server_log.specs.Entries.{zero_entry}
use Rattle.server_log.specs.Logs.{live}
use Rattle.server_log.proofs.Live.{entry_at_zero, entry_at_past, entry_at_before}
use lib.ListN.{get_or, length-take}
use Prim.Native.Nat.{ℕ, ◌≤◌}
use mathlib.Core.Path.{ap, ◌∙◌}
use native.Mathlib.Omega.{arith}
use Rattle.server_log.proofs.entry_at.Goals as goal

pub returns-in-Some : goal.returns-in-Some
returns-in-Some c =
    let e = c.in-Some.ensures in
    ap (λ (k : ℕ). get_or c.args.g.entries k zero_entry) e.1 ∙ entry_at_before c.args.g c.args.n (omega (arith, e.0)) (omega (arith, e, length-take c.args.g.len c.args.g.entries))

pub returns-in_default : goal.returns-in_default
returns-in_default c = let e = c.in-Some.ensures in entry_at_past (live c.args.g) c.args.n (omega (arith, e))

pub returns-in_default-2 : goal.returns-in_default-2
returns-in_default-2 c = let e : 1 ≤ c.args.n → ⊥ = c.in_default.ensures in entry_at_zero (live c.args.g) c.args.n (omega (arith, e))
