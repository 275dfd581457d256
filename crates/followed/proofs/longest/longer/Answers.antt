-- `followed::longest::longer` meets its contract. Assumes nothing.
use mathlib.Core.Path.{◌≡◌, ap, ◌∙◌}
use native.Mathlib.Omega.{arith}
use borrow.Author.Rules.{rules}
use lib.ListN.{length, length-take}
use lib.Seq.{get_or-take}
use Rattle.base.proofs.Facts.{mapped_long}
use Rattle.followed.specs.Longest.{cut_log}
use Rattle.followed.proofs.Covering.{kept_none, kept_more, kept_all}
use Rattle.followed.proofs.longest.longer.Goals as goal

pub loop-s-init : goal.loop-s-init
loop-s-init c = kept_none _ _

pub loop-s-preserved : goal.loop-s-preserved
loop-s-preserved c =
    let n = c.server_count-n.result in
    kept_more c.loop-s.g _ _ _ _ c.loop-s.s-index c.loop-s.invariant
    (c.cut-h.ensures ∙ ap cut_log (get_or-take n c.args.c.servers c.loop-s.s-index _ (omega (arith, length-take n c.args.c.servers)))) c.longer_of-g.ensures

pub returns : goal.returns
returns c =
    let long : length c.args.c.servers ≡ 7 = search (rules, mapped_long) in
    kept_all _ _ _ c.loop-s.s-index c.loop-s.invariant (omega (arith, length-take c.server_count-n.result c.args.c.servers))
