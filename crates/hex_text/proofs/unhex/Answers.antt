-- `hex_text::unhex` meets its contract. Assumes nothing.
use Rattle.hex_text.proofs.Places.{bytes_length, byte_at, put_more, put_all_lem}
use native.Mathlib.Omega.{arith}
use mathlib.Core.Path.{sym, ◌∙◌}
use Rattle.hex_text.proofs.unhex.Goals as goal

pub loop-i-preserved : goal.loop-i-preserved
loop-i-preserved c =
    put_more c.loop-i.invariant (omega (arith, bytes_length c.args.line.now)) (omega arith) (c.byte_of.ensures ∙ sym (byte_at c.args.line.now c.loop-i.i (omega arith)))

pub returns : goal.returns
returns c = put_all_lem c.loop-i.invariant (omega (arith, bytes_length c.args.line.now))
