-- `plans::heard_first` meets its contract. Assumes nothing.
use Prim.Native.Nat.{ℕ}
use mathlib.Core.Path.{◌≡◌, ap, sym, ◌∙◌}
use mathlib.Core.Bool.{Bool}
use borrow.Author.Rules.{rules}
use native.Mathlib.Omega.{arith}
use Rattle.steps.specs.declared.Step.TheVariants.{Hears}
use Rattle.cluster.specs.declared.Cluster.{Cluster}
use Rattle.plans.specs.declared.Planned.{Planned}
use Rattle.plans.specs.Plan.{not_older, newest_server}
use Rattle.plans.specs.Working.{tried_of, begun_of}
use Rattle.plans.proofs.Lines.{best_small, hearing_yes, hearing_no}
use Rattle.plans.proofs.heard_first.Goals as goal

-- what the test told, of the server that was found
told : (c : Cluster) (a b : ℕ) (r x : Bool) → b ≡ newest_server c → r ≡ not_older c a b → r ≡ x → not_older c a (newest_server c) ≡ x
told c a b r x e q t = ap (not_older c a) (sym e) ∙ sym q ∙ t

pub not_older-requires : goal.not_older-requires
not_older-requires c = (search rules, omega (arith, c.newest_server-b.ensures, best_small (not_older c.args.c) c.args.c))

pub returns-then-not_older : goal.returns-then-not_older
returns-then-not_older c =
    ap (λ (x : Planned). record { cluster = c.args.c; plan = x }) c.no_frames.ensures
    ∙ hearing_no c.args.c c.args.a (told c.args.c c.args.a c.newest_server-b.result _ _ c.newest_server-b.ensures c.not_older.ensures c.if-not_older.true)

pub overflow_cast-b : goal.overflow_cast-b
overflow_cast-b c = omega (arith, c.newest_server-b.ensures, best_small (not_older c.args.c) c.args.c)

pub returns : goal.returns
returns c =
    c.tried.ensures ∙ ap (λ (x : Planned). tried_of (record { cluster = c.args.c; plan = x }) (Hears c.args.a c.newest_server-b.result)) c.no_frames.ensures
    ∙ ap (λ (x : ℕ). tried_of (begun_of c.args.c) (Hears c.args.a x)) c.newest_server-b.ensures
    ∙ hearing_yes c.args.c c.args.a (told c.args.c c.args.a c.newest_server-b.result _ _ c.newest_server-b.ensures c.not_older.ensures c.if-not_older.false)
