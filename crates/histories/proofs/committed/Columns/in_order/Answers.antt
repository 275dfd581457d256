-- `histories::committed::Columns::in_order` meets its contract. Assumes nothing.
use Rattle.server_log.proofs.Placed.{placed_none, placed_all, placed_more, placed_fails}
use Rattle.server_log.specs.declared.Entry.{Entry}
use Rattle.server_log.specs.Entries.{entry_at}
use Rattle.base.proofs.Bools.{said_no, said_yes}
use native.Mathlib.Numerals.{add-one}
use native.Mathlib.Omega.{arith}
use mathlib.Core.Path.{◌≡◌, sym, ap, ◌∙◌}
use mathlib.Core.List.{List}
use Prim.Native.Nat.{ℕ, suc, ◌+◌}
use Rattle.histories.proofs.committed.Columns.in_order.Goals as goal

-- the entry after the first i
next-is : (es : List Entry) (i : ℕ) (e : Entry) → e ≡ entry_at es (i + 1) → entry_at es (suc i) ≡ e
next-is es i e h = sym (h ∙ ap (entry_at es) (add-one i))

pub loop-i-init : goal.loop-i-init
loop-i-init c = placed_none

pub entry_at-e-requires : goal.entry_at-e-requires
entry_at-e-requires c = (omega arith, omega (arith, c.entries-i-end.ensures))

pub returns-then-not-place_ok : goal.returns-then-not-place_ok
returns-then-not-place_ok c =
    placed_fails c.loop-i.invariant _ (next-is _ _ _ c.entry_at-e.ensures) (omega (arith, c.entries-i-end.ensures))
    (said_no _ _ c.place_ok.ensures c.if-not-place_ok.true)

pub loop-i-preserved : goal.loop-i-preserved
loop-i-preserved c =
    placed_more c.loop-i.invariant _ (next-is _ _ _ c.entry_at-e.ensures) (omega (arith, c.entries-i-end.ensures))
    (said_yes _ _ c.place_ok.ensures c.if-not-place_ok.false)

pub returns : goal.returns
returns c = placed_all c.loop-i.invariant (omega (arith, c.entries-i-end.ensures, c.loop-i.invariant.within))
