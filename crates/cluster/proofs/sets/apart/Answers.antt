-- `cluster::sets::apart` meets its contract. Assumes nothing.
use Rattle.base.proofs.Numbered.{every_below}
use Rattle.cluster.specs.Sets.{bits, is_apart, member}
use Rattle.std.proofs.lemmas.Iterator.{YieldsList-from_range}
use Rattle.std.proofs.lemmas.Iterator.Search.{all_from_yields_List}
use mathlib.Core.Bool.{not, ◌&&◌}
use mathlib.Core.Path.{refl, ◌∙◌}
use Prim.Native.Nat.{ℕ}
use borrow.Author.Tests.{tests}
use borrow.Author.Rules.{rules}
use Rattle.cluster.proofs.sets.apart.Goals as goal

pub returns : goal.returns
unfolding is_apart
returns c =
    all_from_yields_List (λ (i : ℕ). not (member c.args.set i && member c.args.followers i)) _ _ _ c.all.ensures.ran (YieldsList-from_range 0 bits bits refl refl) (λ x b q k. search (rules, tests)) ∙ every_below _ bits
