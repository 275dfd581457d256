-- `replay::pour` meets its contract. Assumes nothing.
use Rattle.replay.specs.declared.Plan.{Plan}
use Rattle.steps.specs.declared.Step.{Step}
use Rattle.steps.specs.declared.Stepped.{Stepped}
use Rattle.replay.specs.declared.Plan.TheVariants.{Server, Record}
use Rattle.replay.proofs.Along.{start, stopped, ended}
use Rattle.replay.proofs.Ahead.{moved, line_fresh, by_character, by_came}
use Rattle.replay.proofs.Planned.{Inside, plan_does, plan_inside}
use Rattle.base.proofs.Facts.{mapped_long}
use Rattle.std.proofs.Common.{Option, Result, Ok, Err}
use Rattle.steps.specs.declared.Refusal.{Refusal}
use mathlib.Core.Bool.{Bool}
use Rattle.replay.specs.Plans.{plan_of, carried_out}
use Rattle.lines.specs.Readers.{Reader}
use Rattle.lines.proofs.Readers.{slots_kept}
use Rattle.replay.specs.Pieces.{answer_line, fed_of, fed_out}
use Rattle.replay.specs.Texts.{respond}
use Rattle.steps.specs.declared.Outcome.{Outcome}
use Rattle.cluster.specs.WellFormed.{well_formed}
use Rattle.cluster.specs.Servers.{server_count, with_server}
use Rattle.cluster.specs.declared.Cluster.{Cluster}
use lib.ListN.{length}
use native.Mathlib.Omega.{arith}
use Prim.Native.Nat.{ℕ, ◌+◌, ◌≤◌}
use mathlib.Core.Path.{◌≡◌, sym, ap, ◌∙◌}
use borrow.Author.Rules.{rules}
use Rattle.replay.proofs.pour.Goals.{else-loop-i-test, in-Ok-Record, in-Err, in-Ok-Server, then-loop-i-test+else-out-w-ge-ANSWER_LINE}
use Rattle.replay.proofs.pour.Goals as goal

-- a line that was planned
module _ (c : Cluster) (read : Option Step) (size : ℕ) (formed : Bool) (p : Result Plan Refusal) (s : size ≡ server_count c) (f : formed ≡ well_formed c) (e : p ≡ plan_of size formed read) where
  planned : p ≡ plan_of (server_count c) (well_formed c) read
  planned = e ∙ ap (λ (k : ℕ). plan_of k formed read) s ∙ ap (λ (b : Bool). plan_of (server_count c) b read) f

  -- the servers that it names are there
  inside : (a b : ℕ) (step : Step) → p ≡ Ok (Server a b step) → Inside 7 a b
  inside a b step is =
      let h = plan_inside _ _ _ _ _ _ (sym planned ∙ is) in
      record { first = omega (arith, h.first); second = omega (arith, h.second) }

  -- a plan that was carried out gave what the line gives
  settled : (q : Result Plan Refusal) (o : Outcome) → p ≡ q → o ≡ carried_out c q → o ≡ respond c read
  settled q o is h = h ∙ ap (carried_out c) (sym is ∙ planned) ∙ plan_does c read

pub loop-i-init : goal.loop-i-init
loop-i-init c = (start _ _ _, search (rules, mapped_long))

pub overflow_add-i : goal.overflow_add-i
overflow_add-i c = let m = moved c.loop-i.r _ c.loop-i.i _ (omega arith) c.take_next-n.ensures in search rules

pub loop-i-smaller-in_default : goal.loop-i-smaller-in_default
loop-i-smaller-in_default c = let m = moved c.loop-i.r _ c.loop-i.i _ (omega arith) c.take_next-n.ensures in search rules

pub loop-i-preserved-in_default : goal.loop-i-preserved-in_default
loop-i-preserved-in_default c =
    let a = c.loop-i.invariant.0 in (
      by_character a c.loop-i.invariant.1 (omega arith) (omega (arith, a.same)) c.take_next-n.result _ c.take_next-n.ensures c.in_default.is c.taken-r.ensures,
      ap (λ (q : Reader). length q.held) c.taken-r.ensures ∙ slots_kept c.loop-i.r _ c.loop-i.invariant.1,
    )

pub offset_bounds-c-a : goal.offset_bounds-c-a
offset_bounds-c-a c =
    let h = (inside c.loop-i.c c.in-Some.read _ _ _ c.server_count-size.ensures c.well_formed-formed.ensures c.plan_for.ensures _ _ _ (c.in-Ok-Server.is ∙ ap Ok c.in-Ok-Server.field-0-is)).first in
    search rules

pub bounds-c-a : goal.bounds-c-a
bounds-c-a c = (inside c.loop-i.c c.in-Some.read _ _ _ c.server_count-size.ensures c.well_formed-formed.ensures c.plan_for.ensures _ _ _ (c.in-Ok-Server.is ∙ ap Ok c.in-Ok-Server.field-0-is)).first

pub offset_bounds-c-b : goal.offset_bounds-c-b
offset_bounds-c-b c =
    let h = (inside c.loop-i.c c.in-Some.read _ _ _ c.server_count-size.ensures c.well_formed-formed.ensures c.plan_for.ensures _ _ _ (c.in-Ok-Server.is ∙ ap Ok c.in-Ok-Server.field-0-is)).second in
    search rules

pub bounds-c-b : goal.bounds-c-b
bounds-c-b c = (inside c.loop-i.c c.in-Some.read _ _ _ c.server_count-size.ensures c.well_formed-formed.ensures c.plan_for.ensures _ _ _ (c.in-Ok-Server.is ∙ ap Ok c.in-Ok-Server.field-0-is)).second

pub offset_bounds-c-a-in-Ok-Server : goal.offset_bounds-c-a-in-Ok-Server
offset_bounds-c-a-in-Ok-Server c =
    let h = (inside c.loop-i.c c.in-Some.read _ _ _ c.server_count-size.ensures c.well_formed-formed.ensures c.plan_for.ensures _ _ _ (c.in-Ok-Server.is ∙ ap Ok c.in-Ok-Server.field-0-is)).first in
    search rules

pub bounds-c-a-in-Ok-Server : goal.bounds-c-a-in-Ok-Server
bounds-c-a-in-Ok-Server c = (inside c.loop-i.c c.in-Some.read _ _ _ c.server_count-size.ensures c.well_formed-formed.ensures c.plan_for.ensures _ _ _ (c.in-Ok-Server.is ∙ ap Ok c.in-Ok-Server.field-0-is)).first

pub put-requires : goal.put-requires
put-requires c = omega (arith, c.loop-i.invariant.0.same)

pub overflow_add-w : goal.overflow_add-w
overflow_add-w c = let h : c.loop-i.w + answer_line ≤ length c.loop-i.out = omega arith in search rules

pub loop-i-smaller : goal.loop-i-smaller
loop-i-smaller c = let m = moved c.loop-i.r _ c.loop-i.i _ (omega arith) c.take_next-n.ensures in search rules

pub loop-i-preserved : goal.loop-i-preserved
unfolding carried_out
loop-i-preserved c =
    let a = c.loop-i.invariant.0 in
    let read = c.in-Some.read in
    let was = c.loop-i.c in
    let does = settled was read _ _ _ c.server_count-size.ensures c.well_formed-formed.ensures c.plan_for.ensures in
    let outcome : ◌≡◌ {A = Outcome} (record { cluster = c.match-plan_for.c; answer = c.match-plan_for.answer }) (respond was read) =
    elim c.match-plan_for.branch [
      | in-Err w ↦ does (Err w.in-Err.refusal) _ w.in-Err.is (λ i. record { cluster = w.c-is i; answer = w.answer-is i })
      | in-Ok-Server w ↦
          let stepped = rw c.server_count-size.ensures at w.one-o.ensures in
          does (Ok (Server w.in-Ok-Server.a w.in-Ok-Server.b w.in-Ok-Server.step)) _ (w.in-Ok-Server.is ∙ ap Ok w.in-Ok-Server.field-0-is)
          (λ i. record {
            cluster = (w.c-is ∙ ap (λ (r : Stepped). with_server was w.in-Ok-Server.a r.server) stepped) i;
            answer = (w.answer-is ∙ ap (λ (r : Stepped). r.answer) stepped) i;
          })
      | in-Ok-Record w ↦
          does (Ok (Record w.in-Ok-Record.step)) _ (w.in-Ok-Record.is ∙ ap Ok w.in-Ok-Record.field-0-is)
          (λ i. record {
            cluster = (w.c-is ∙ ap (λ (r : Outcome). r.cluster) w.core-o.ensures) i;
            answer = (w.answer-is ∙ ap (λ (r : Outcome). r.answer) w.core-o.ensures) i;
          })
    ] in
    let fresh = line_fresh c.loop-i.r c.taken-r.result _ c.loop-i.i _ _ c.take_next-n.ensures c.in-Some.is c.taken-r.ensures in (
      by_came a c.loop-i.invariant.1 (omega arith) (omega (arith, a.same)) c.take_next-n.result read (record { cluster = c.match-plan_for.c; answer = c.match-plan_for.answer }) _ _
          c.take_next-n.ensures c.in-Some.is outcome (λ i. record { cluster = c.match-plan_for.c; reader = fresh i }) c.put.ensures,
      ap (λ (q : Reader). length q.held) c.taken-r.ensures ∙ slots_kept c.loop-i.r _ c.loop-i.invariant.1,
    )

pub returns : goal.returns
returns c =
    let a = c.loop-i.invariant.0 in
    let from = c.args.s in
    let h : (record { session = record { cluster = c.loop-i.c; reader = c.loop-i.r }; taken = c.loop-i.i; wrote = c.loop-i.w }
    ≡ fed_of from c.args.text.now (length c.args.out.now)) × (c.loop-i.out ≡ fed_out from c.args.text.now c.args.out.now) =
    elim c.loop-i-test.branch [
      | then-loop-i-test+else-out-w-ge-ANSWER_LINE w ↦ stopped a (omega (arith, w.if-out-w-ge-ANSWER_LINE.false, a.same))
      | else-loop-i-test w ↦ ended a (omega (arith, w.loop-i-test.false))
    ] in
    record { result = c.so_far.ensures ∙ h.0; output = h.1 }
