-- `frames::masks::is_clean` meets its contract. Assumes nothing.
use Rattle.std.proofs.lemmas.Iterator.{YieldsList-from_range}
use Rattle.std.proofs.lemmas.Iterator.Search.{all_from_yields_List}
use Rattle.std.specs.List.{range_with_len}
use Rattle.words.specs.Words.{byte_at}
use Rattle.frames.specs.Layout.{step_bytes}
use Rattle.frames.specs.Kinds.{byte_ok, is_clean}
use Rattle.base.specs.Numbers.{every}
use Rattle.base.proofs.Every.{every_listed}
use mathlib.Core.Bool.{Bool}
use mathlib.Core.Path.{refl, ◌∙◌}
use Prim.Native.Nat.{ℕ}
use borrow.Author.Tests.{tests}
use borrow.Author.Rules.{rules}
use Rattle.frames.proofs.masks.is_clean.Goals as goal

pub returns : goal.returns
unfolding is_clean every
returns c =
    let ok : ℕ → Bool = λ i. byte_ok c.args.kind i (byte_at c.args.b i) in
    all_from_yields_List ok _ _ _ c.all.ensures.ran (YieldsList-from_range 0 step_bytes step_bytes refl refl) (λ x b q k. search (rules, tests))
    ∙ every_listed ok (range_with_len 0 step_bytes) 0
