-- `phones::record_held` meets its contract. Assumes nothing.
use mathlib.Core.Path.{◌≡◌, sym, ap, ◌∙◌}
use mathlib.Core.Bool.{false}
use Prim.Native.Nat.{ℕ}
use native.Mathlib.Omega.{arith}
use lib.ListN.{take}
use Rattle.base.proofs.Facts.{mapped_long}
use Rattle.std.proofs.Common.{None}
use Rattle.lines.proofs.Held.{held_over_lem, held_short, held_within}
use Rattle.lines.specs.Readers.{Reader, width, line_held}
use Rattle.phones.specs.Records.{record_bytes, record_of, read_record}
use borrow.Author.Rules.{rules}
use Rattle.phones.proofs.record_held.Goals.{then-r-via-then-r, then-r-via-else-r+then-r-ne-RECORD_CHARS}
use Rattle.phones.proofs.record_held.Goals as goal

-- a line of a record's length is read as it stands
whole : (r : Reader) → r.over ≡ false → r.fill ≡ 24 → take 24 r.held ≡ line_held r
unfolding line_held
whole r e h = ap (λ (k : ℕ). take k r.held) (sym h) ∙ held_within width r.held r.fill r.over e (omega arith)

pub returns-then-r : goal.returns-then-r
unfolding line_held
returns-then-r c =
    let r = c.args.r in
    elim c.then-r.branch [ then-r-via-then-r w ↦ held_over_lem record_bytes record_of None width (omega arith) r.held r.fill r.over w.if-r.true | then-r-via-else-r+then-r-ne-RECORD_CHARS w ↦ held_short record_bytes record_of None width (omega arith) r.held r.fill r.over (search (rules, mapped_long)) w.if-r.false w.if-r-ne-RECORD_CHARS.true ]

pub returns : goal.returns
returns c =
    c.read_record.ensures ∙ ap read_record (whole c.args.r c.if-r.false c.if-r-ne-RECORD_CHARS.false)
