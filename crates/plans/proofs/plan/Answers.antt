-- `plans::plan` meets its contract. Assumes nothing.
use mathlib.Core.Path.{◌≡◌, ◌∙◌}
use mathlib.Core.Bool.{true}
use native.Mathlib.Omega.{arith}
use Rattle.base.proofs.Bools.{said_no, said_yes}
use Rattle.cluster.specs.WellFormed.{well_formed}
use Rattle.plans.specs.Plan.{may_lead}
use Rattle.plans.specs.Making.{all_room, all_low}
use Rattle.plans.proofs.Lines.{best_small, planned_ill, planned_key, planned_value, planned_full, planned_limit, planned_made}
use Rattle.plans.proofs.plan.Goals.{Else-not-all_room, Else-not-all_low, Else-not-well_formed}
use Rattle.plans.proofs.plan.Goals as goal

-- what the tests so far told
formed : (c : Else-not-well_formed) → well_formed c.args.c ≡ true
formed c = said_yes _ _ c.well_formed-2.ensures c.if-not-well_formed.false

roomy : (c : Else-not-all_room) → all_room c.args.c ≡ true
roomy c = said_yes _ _ c.all_room.ensures c.if-not-all_room.false

low : (c : Else-not-all_low) → all_low c.args.c ≡ true
low c = said_yes _ _ c.all_low.ensures c.if-not-all_low.false

pub returns-then-not-well_formed : goal.returns-then-not-well_formed
returns-then-not-well_formed c =
    c.no_frames.ensures ∙ planned_ill c.args.c c.args.key c.args.value (said_no _ _ c.well_formed-2.ensures c.if-not-well_formed.true)

pub returns-then-key-gt-HIGHEST_KEY : goal.returns-then-key-gt-HIGHEST_KEY
returns-then-key-gt-HIGHEST_KEY c =
    c.no_frames-then-key-gt-HIGHEST_KEY.ensures ∙ planned_key c.args.c c.args.key c.args.value (formed c.before.before) c.if-key-gt-HIGHEST_KEY.true

pub returns-then-value-lt1 : goal.returns-then-value-lt1
returns-then-value-lt1 c =
    c.no_frames-then-value-lt1.ensures ∙ planned_value c.args.c c.args.key c.args.value (formed c.before.before.before) c.if-key-gt-HIGHEST_KEY.false c.if-value-lt1.true

pub returns-then-not-all_room : goal.returns-then-not-all_room
returns-then-not-all_room c =
    c.no_frames-then-not-all_room.ensures
    ∙ planned_full c.args.c c.args.key c.args.value (formed c.before.before.before.before.before) c.if-key-gt-HIGHEST_KEY.false c.if-value-lt1.false (said_no _ _ c.all_room.ensures c.if-not-all_room.true)

pub returns-then-not-all_low : goal.returns-then-not-all_low
returns-then-not-all_low c =
    c.no_frames-then-not-all_low.ensures
    ∙ planned_limit c.args.c c.args.key c.args.value (formed c.before.before.before.before.before.before.before) c.if-key-gt-HIGHEST_KEY.false c.if-value-lt1.false (roomy c.before.before.before) (said_no _ _ c.all_low.ensures c.if-not-all_low.true)

pub opened-requires : goal.opened-requires
opened-requires c =
    omega (arith, c.chosen-a.ensures, best_small (may_lead c.args.c) c.args.c)

pub closed-w-requires : goal.closed-w-requires
closed-w-requires c = (
  omega (arith, c.others_of.ensures),
  omega (arith, c.chosen-a.ensures, best_small (may_lead c.args.c) c.args.c),
)

pub returns : goal.returns
returns c =
    rw (c.closed-w.ensures, c.others_of.ensures, c.opened.ensures, c.chosen-a.ensures)
    (planned_made c.args.c c.args.key c.args.value (formed c.before.before.before.before.before.before.before.before.before.before.before) c.if-key-gt-HIGHEST_KEY.false c.if-value-lt1.false (roomy c.before.before.before.before.before.before.before) (low c.before.before.before.before.before))
