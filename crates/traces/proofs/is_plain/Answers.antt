-- `traces::is_plain` meets its contract. Assumes nothing.
use mathlib.Core.Path.{◌≡◌, refl, sym, ◌∙◌}
use mathlib.Core.Bool.{Bool, true, false, cond, not, ◌&&◌}
use lib.Dec.{eqb, leb}
use Rattle.traces.specs.Shown.{is_plain}
use Rattle.traces.proofs.is_plain.Goals as goal

within : (a b x y : Bool) → (a && b) ≡ x → cond x y false ≡ (a && (b && y))
within true true true y e = refl
within true true false y e = cc
within true false true y e = cc
within true false false y e = refl
within false b true y e = cc
within false b false y e = refl

pub returns-then-is_ascii_graphic : goal.returns-then-is_ascii_graphic
unfolding is_plain
returns-then-is_ascii_graphic c = within (leb 33 c.args.b) (leb c.args.b 126) _ (not (eqb c.args.b 92)) (sym c.is_ascii_graphic.ensures.value ∙ c.if-is_ascii_graphic.true)

pub returns-else-is_ascii_graphic : goal.returns-else-is_ascii_graphic
unfolding is_plain
returns-else-is_ascii_graphic c = c.if-is_ascii_graphic.false ∙ within (leb 33 c.args.b) (leb c.args.b 126) _ (not (eqb c.args.b 92)) (sym c.is_ascii_graphic.ensures.value ∙ c.if-is_ascii_graphic.false)
