-- `traces::Pair::put_more` meets its contract. Assumes nothing.
use mathlib.Core.Path.{◌≡◌, ap, ◌∙◌}
use Prim.Native.Nat.{ℕ, ◌≤◌}
use native.Mathlib.Omega.{arith}
use borrow.Author.Rules.{rules}
use borrow.Author.Tests.{eq-eqb, ne_eqb}
use Rattle.io.specs.Digits.{last_digits}
use Rattle.traces.specs.declared.Pair.{Pair}
use Rattle.traces.specs.Shown.{plus, places_of, decimal_of, shown_more}
use Rattle.traces.specs.Writing.{put_of, put_all}
use Rattle.traces.proofs.Decimal.{places}
use Rattle.traces.proofs.Pair.put_more.Goals as goal

pub returns-then-n-ne0 : goal.returns-then-n-ne0
unfolding shown_more
returns-then-n-ne0 c =
    let some : 1 ≤ c.args.n = omega (arith, c.if-n-ne0.true) in
    let k : c.decimal-k.result ≡ places_of c.args.n = places c.args.n c.decimal-k.result some (search rules) c.decimal-k.ensures.len in
    rw (ne_eqb c.args.n 0 c.if-n-ne0.true)
    (c.put_all.ensures ∙ ap (put_all c.put-then-n-ne0.new.self) (c.decimal-k.ensures.digits ∙ ap (λ (x : ℕ). last_digits 10 x c.args.n) k)
    ∙ ap (λ (x : Pair). put_all x (decimal_of c.args.n)) (c.put-then-n-ne0.ensures ∙ ap (λ (x : Pair). put_of x plus) c.put.ensures))

pub returns-else-n-ne0 : goal.returns-else-n-ne0
unfolding shown_more
returns-else-n-ne0 c = rw (eq-eqb c.args.n 0 c.if-n-ne0.false)
