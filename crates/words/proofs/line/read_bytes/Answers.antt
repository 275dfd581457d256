-- `words::line::read_bytes` meets its contract. Assumes nothing.
use mathlib.Core.Path.{◌≡◌, ap, ◌∙◌}
use Prim.Native.Nat.{◌*◌}
use native.Mathlib.Omega.{arith}
use lib.ListN.{length}
use Rattle.std.proofs.Common.{Some, None}
use Rattle.base.proofs.Bools.{said_yes}
use Rattle.hex_text.specs.Lines.{chars}
use Rattle.hex_text.proofs.Trips.{unhexed}
use Rattle.words.proofs.Framed.{framed_good}
use Rattle.words.proofs.line.read_bytes.Goals as goal

pub returns : goal.returns
returns g c =
    let l : length c.args.line.now ≡ chars * g.row.N = omega arith in
    ap Some (unhexed g.row.N c.args.line.now _ l c.first_bytes.ensures)
    ∙ framed_good g.row.N Some None c.args.line.now l (said_yes _ _ c.all_hex.ensures c.if-not-all_hex.false)
