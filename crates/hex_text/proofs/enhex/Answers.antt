-- `hex_text::enhex` meets its contract. Assumes nothing.
use Rattle.hex_text.proofs.Places.{hex_length, char_at_lem, put_more, put_all_lem}
use native.Mathlib.Omega.{arith}
use mathlib.Core.Path.{sym, ◌∙◌}
use Rattle.hex_text.proofs.enhex.Goals as goal

pub loop-i-preserved : goal.loop-i-preserved
loop-i-preserved c =
    put_more c.loop-i.invariant (omega (arith, hex_length c.args.bytes.now)) (omega arith) (c.char_at.ensures ∙ sym (char_at_lem c.args.bytes.now c.loop-i.i (omega arith)))

pub returns : goal.returns
returns c = put_all_lem c.loop-i.invariant (omega (arith, hex_length c.args.bytes.now))
