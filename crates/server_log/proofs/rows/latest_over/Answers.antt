-- `server_log::rows::latest_over` meets its contract. Assumes nothing.
use Rattle.server_log.specs.declared.Entry.{Entry}
use Rattle.server_log.specs.declared.Log.{Log}
use Rattle.server_log.specs.declared.rows.Latest.{Latest}
use Rattle.server_log.specs.Entries.{zero_entry}
use Rattle.server_log.specs.Logs.{live}
use Rattle.server_log.specs.Order.{highest_key}
use Rattle.server_log.specs.Rows.{latest_after}
use Rattle.server_log.proofs.Rowed.{left_less}
use native.Mathlib.Omega.{arith}
use lib.ListN.{length, get_or, take, set, length-take}
use lib.Seq.{get_or-take}
use mathlib.Core.Path.{◌≡◌, ◌∙◌}
use borrow.Author.Tests.{le-leb, lt-leb}
use Prim.Native.Nat.{ℕ, ◌<◌, ◌≤◌}
use Rattle.server_log.proofs.rows.latest_over.Goals as goal
use Rattle.server_log.proofs.rows.latest_over.Goals.{then-e-le-HIGHEST_KEY, else-e-le-HIGHEST_KEY}

-- an entry among the first n stands in its slot
slot : (g : Log) (n i : ℕ) → i < length (take n (live g)) → get_or (take n (live g)) i zero_entry ≡ get_or g.entries i zero_entry
slot g n i h =
    get_or-take n (live g) i zero_entry (omega (arith, length-take n (live g)))
    ∙ get_or-take g.len g.entries i zero_entry (omega (arith, length-take n (live g), length-take g.len g.entries))

-- an entry with a key is its key's latest; any other changes nothing
noted : (v : Latest) (e : Entry) (key : ℕ) → key ≡ e.key → e.key ≤ highest_key → record { values = set v.values key e.value } ≡ latest_after v e
unfolding latest_after
noted v e key q h = rw (q, le-leb e.key highest_key h)

passed : (v : Latest) (e : Entry) → highest_key < e.key → v ≡ latest_after v e
unfolding latest_after
passed v e h = rw (lt-leb e.key highest_key h)

pub loop-i-preserved : goal.loop-i-preserved
loop-i-preserved c =
    let e = get_or c.args.g.entries c.loop-i.i zero_entry in
    let after : c.if-e-le-HIGHEST_KEY.w ≡ latest_after c.loop-i.w e = elim c.if-e-le-HIGHEST_KEY.branch [ then-e-le-HIGHEST_KEY w ↦ w.w-is ∙ noted _ e w.from.result w.from.ensures w.if-e-le-HIGHEST_KEY.true | else-e-le-HIGHEST_KEY w ↦ w.w-is ∙ passed _ e w.if-e-le-HIGHEST_KEY.false ] in
    let h : c.loop-i.i < length (take c.args.n (live c.args.g)) = omega (arith, c.last_of-end.ensures, length-take c.args.n (live c.args.g)) in
    rw after (left_less c.loop-i.invariant e h (slot c.args.g c.args.n c.loop-i.i h))
