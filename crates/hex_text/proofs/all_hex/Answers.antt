-- `hex_text::all_hex` meets its contract. Assumes nothing.
use Rattle.hex_text.specs.Digits.{radix, digit_of}
use Rattle.hex_text.specs.Lines.{all_hex}
use Rattle.hex_text.proofs.Greatest.{fold_every}
use Rattle.std.proofs.lemmas.Iterator.{YieldsList-from_slice}
use Rattle.std.proofs.lemmas.Iterator.Consumers.{fold_from_yields_List}
use borrow.Author.Tests.{tests}
use borrow.Author.Rules.{rules}
use lib.Dec.{ltb}
use mathlib.Core.Path.{ap, ◌∙◌}
use native.Mathlib.Omega.{arith}
use Prim.Native.Nat.{ℕ, max}
use Rattle.hex_text.proofs.all_hex.Goals as goal

pub returns : goal.returns
unfolding all_hex
returns c = ap (λ (n : ℕ). ltb n radix) (fold_from_yields_List _ (λ a x. max a (digit_of x)) 0 _ c.fold.ensures.ran (YieldsList-from_slice c.args.line.now cc) (λ a x b q k. search (rules, tests))) ∙ fold_every digit_of radix (omega arith) c.args.line.now 0
