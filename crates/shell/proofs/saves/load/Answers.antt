-- `shell::saves::load` meets its contract. Assumes nothing.
use native.Mathlib.Omega.{arith}
use Rattle.shell.proofs.Saving.{whole_long, loads_kept}
use Rattle.shell.proofs.saves.load.Goals as goal

pub returns : goal.returns
returns c =
    loads_kept _ c.walk_on-end.result.0 _ _ _ c.walk_on-end.ensures
    (λ k. omega (arith, whole_long _ _ _ _ c.is_whole.ensures c.if-not-is_whole.false k, c.read_full-n.ensures.1)) c.loaded.ensures
