-- `counts::advances::highest_passing` meets its contract. Assumes nothing.
use Rattle.counts.proofs.Passing.{passes_low, passes_yes, passes_old, passes_few}
use Rattle.counts.specs.Advances.{backs, backers, passes, highest_passing}
use Rattle.cluster.specs.Sets.{votes}
use Rattle.server_log.specs.Logs.{length_of}
use Rattle.base.proofs.Highest.{highest_here, highest_down, highest_none}
use Rattle.base.proofs.Numbered.{count_below}
use Rattle.base.specs.Numbers.{highest}
use Rattle.std.proofs.lemmas.Iterator.{YieldsList-from_range}
use Rattle.std.proofs.lemmas.Iterator.Consumers.{YieldsList-from_filter, count_from_yields_List}
use native.Mathlib.Omega.{arith}
use mathlib.Core.Bool.{◌&&◌, false}
use mathlib.Core.Path.{◌≡◌, ap, sym, ◌∙◌}
use Prim.Native.Nat.{ℕ}
use borrow.Author.Tests.{tests}
use borrow.Author.Rules.{rules}
use Rattle.counts.proofs.advances.highest_passing.Goals.{After-count-backers, else-e-s-via-then-e-s+else-voters-backers, else-e-s-via-else-e-s}
use Rattle.counts.proofs.advances.highest_passing.Goals as goal

-- the count is that of the backers
backed : (c : After-count-backers) → c.count-backers.result ≡ backers c.server_count-size.result c.args.followers c.args.s c.args.a c.loop-n.n
backed c =
    count_from_yields_List c.filter.result _ c.count-backers.ensures.ran
    (YieldsList-from_filter _ (λ (j : ℕ). votes c.args.followers j && backs c.args.s c.args.a c.loop-n.n j) (YieldsList-from_range 0 c.server_count-size.result c.server_count-size.result (cc) (omega arith)) c.filter.ensures.closure (λ x b q k. search (rules, tests)))
    ∙ count_below _ c.server_count-size.result

pub loop-n-preserved : goal.loop-n-preserved
loop-n-preserved c =
    let size = c.server_count-size.result in
    let a = c.args in
    let e = c.entry_at-e in
    let counted = backed c.before.before.before.before in
    let no : passes size a.followers a.s a.a c.loop-n.n ≡ false =
    elim c.else-e-s.branch [
      | else-e-s-via-then-e-s+else-voters-backers w ↦
          passes_few size a.followers a.s a.a c.loop-n.n e.result c.count-backers.result (omega arith) c.loop-n.invariant.0 e.ensures counted
          (omega (arith, w.if-voters-backers.false, c.voters-voters.ensures))
      | else-e-s-via-else-e-s w ↦
          passes_old size a.followers a.s a.a c.loop-n.n e.result c.count-backers.result (omega arith) c.loop-n.invariant.0 e.ensures counted w.if-e-s.false
    ] in
    (omega (arith, c.loop-n.invariant.0), c.loop-n.invariant.1 ∙ highest_down _ _ no)

pub returns-then-n-s : goal.returns-then-n-s
unfolding highest_passing
returns-then-n-s c =
    sym (ap (λ (z : ℕ). highest (passes z c.args.followers c.args.s c.args.a) (length_of c.args.s.log)) (sym c.server_count-size.ensures) ∙ c.loop-n.invariant.1 ∙ highest_none _ _ (λ j l. passes_low _ _ _ _ j (omega arith)))

pub returns-then-voters-backers : goal.returns-then-voters-backers
unfolding highest_passing
returns-then-voters-backers c =
    sym (ap (λ (x : ℕ). highest (passes x c.args.followers c.args.s c.args.a) (length_of c.args.s.log)) (sym c.server_count-size.ensures) ∙ c.loop-n.invariant.1 ∙ highest_here _ _ (omega arith)
    (passes_yes c.server_count-size.result c.args.followers c.args.s c.args.a c.loop-n.n c.entry_at-e.result c.count-backers.result (omega arith) c.loop-n.invariant.0 c.entry_at-e.ensures (backed c.before.before.before.before.before) c.if-e-s.true (omega (arith, c.if-voters-backers.true, c.voters-voters.ensures))))
