-- `plans::closed` meets its contract. Assumes nothing.
use Rattle.steps.specs.declared.Step.TheVariants.{Hears, TakesReport}
use borrow.Author.Rules.{rules}
use Rattle.plans.specs.Moves.{other}
use Rattle.plans.specs.Plan.{copies}
use Rattle.plans.specs.Working.{closed_of}
use Rattle.plans.proofs.closed.Goals as goal

pub returns : goal.returns
unfolding closed_of
returns c =
    let v = c.each_turn-v.ensures (λ k. copies (other c.args.a k) c.args.a) (λ v k r l p. search rules) in
    let u = c.each_turn-u.ensures (λ k d. TakesReport c.args.a) (λ v k r l p. search rules) in
    let t = c.each_turn.ensures (λ k d. Hears (other c.args.a k) c.args.a) (λ v k r l p. search rules) in
    rw (t, c.tried-t.ensures, u, v)
