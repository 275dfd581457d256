-- `plans::all_voters` meets its contract. Assumes nothing.
use mathlib.Core.Path.{◌≡◌, refl, ap, ◌∙◌}
use mathlib.Core.Bool.{Bool, true, false, cond}
use mir.Val.{bool_byte}
use native.Mathlib.Omega.{arith}
use borrow.Author.Rules.{rules}
use Rattle.cluster.specs.Servers.{server_count}
use Rattle.cluster.specs.Sets.{votes}
use Rattle.plans.proofs.Sets.{bit, set_none, set_down, set_small}
use Rattle.plans.proofs.all_voters.Goals as goal

-- the byte of a test
byte_bit : (b : Bool) → bool_byte b ≡ cond b 1 0
byte_bit true = refl
byte_bit false = refl

pub loop-i-init : goal.loop-i-init
loop-i-init c = (omega (arith, c.server_count-i.ensures), rw c.server_count-i.ensures (set_none _ _))

pub overflow_mul-set : goal.overflow_mul-set
overflow_mul-set c =
    let f = votes c.args.c.followers in
    let z = set_small f c.loop-i.i (server_count c.args.c) c.loop-i.set (search rules) c.loop-i.invariant.0 (omega arith) c.loop-i.invariant.1 in
    search (rules, z)

pub overflow_add-set : goal.overflow_add-set
overflow_add-set c =
    let f = votes c.args.c.followers in
    let z = set_small f c.loop-i.i (server_count c.args.c) c.loop-i.set (search rules) c.loop-i.invariant.0 (omega arith) c.loop-i.invariant.1 in
    let k = bit c.does_vote.result in
    omega (arith, z, k, (c.from.ensures ∙ byte_bit c.does_vote.result))

pub loop-i-preserved : goal.loop-i-preserved
loop-i-preserved c =
    let f = votes c.args.c.followers in (
      omega (arith, c.loop-i.invariant.0),
      set_down f c.loop-i.i (server_count c.args.c) c.loop-i.set c.from.result (search rules) c.loop-i.invariant.0 c.loop-i.invariant.1
          (c.from.ensures ∙ byte_bit c.does_vote.result ∙ ap (λ (x : Bool). cond x 1 0) c.does_vote.ensures),
    )
