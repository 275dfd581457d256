-- A start line that is answered with done begins a fresh cluster, with the followers that it names. Assumes nothing.
use mathlib.Core.Path.{◌≡◌, refl, ap, sym, ◌∙◌}
use mathlib.Core.Bool.{true, false}
use mathlib.Core.List.{List}
use Prim.Native.Nat.{ℕ}
use Rattle.base.proofs.Bools.{not_both}
use Rattle.cluster.specs.declared.Cluster.{Cluster}
use Rattle.steps.specs.declared.Answer.TheVariants.{Done}
use Rattle.steps.specs.declared.Outcome.{Outcome}
use Rattle.steps.specs.declared.Step.{Step}
use Rattle.steps.specs.declared.Step.TheVariants.{Start, Elect, StepDown, Hears, Pulls, RollsBack, Writes, Advances, WallClock, Restarts, LocalRead, MajorityRead, Acknowledged, ClocksAgree, WritesNothing, NewestRead, TakesReport}
use Rattle.steps.specs.Ranges.{FitsStep}
use Rattle.steps.specs.Reasons.{Clear}
use Rattle.wholes.specs.Starts.{start_rules, Opening}
use Rattle.rules.specs.Rules.{row_of, is_start, step_of}
use Rattle.rules.proofs.Keeps.{start_fresh}
use Rattle.rules.proofs.Outcomes.{answered_done}
use Rattle.std.proofs.Common.{Some}
use Rattle.frames.specs.Steps.{read_step}
use Rattle.frames.proofs.Steps.{read_step_fits}
use Rattle.replay.specs.Texts.{respond, answer_to}
use Rattle.promises.specs.Texts.{Begins, FreshOf}

-- a start names its servers and its followers
pub start_of : (s : Step) → is_start s ≡ true → (n : ℕ) × (f : ℕ) × (s ≡ Start n f)
start_of (Start n f) e = (n, f, refl)
start_of (Elect a m) e = not_both false e refl
start_of (StepDown a) e = not_both false e refl
start_of (Hears a b) e = not_both false e refl
start_of (Pulls a b) e = not_both false e refl
start_of (RollsBack a b) e = not_both false e refl
start_of (Writes a key value client) e = not_both false e refl
start_of (Advances a) e = not_both false e refl
start_of (WallClock a) e = not_both false e refl
start_of (Restarts a) e = not_both false e refl
start_of (LocalRead a key asked) e = not_both false e refl
start_of (MajorityRead a key asked) e = not_both false e refl
start_of (Acknowledged a k n term) e = not_both false e refl
start_of ClocksAgree e = not_both false e refl
start_of (WritesNothing a) e = not_both false e refl
start_of (NewestRead a key n term) e = not_both false e refl
start_of (TakesReport a) e = not_both false e refl

-- a line is the step that it reads as
pub answer_is : (c : Cluster) (line : List ℕ) (s : Step) → read_step line ≡ Some s → answer_to c line ≡ step_of c s
unfolding answer_to respond
answer_is c line s e = ap (respond c) e

pub answer_of : {o p : Outcome} → o ≡ p → o.answer ≡ p.answer
answer_of e = ap (λ (o : Outcome). o.answer) e

pub clear_fresh : (c : Cluster) (n f : ℕ) → FitsStep (Start n f) → Clear (start_rules n f) → FreshOf (step_of c (Start n f)).cluster n f
clear_fresh c n f fits k = record { fits = fits; allowed = k.0; is = start_fresh c n f k }

-- it is an opening
abbrev pub opening_of : {c : Cluster} {n f : ℕ} → FreshOf c n f → Opening
opening_of {n = n} {f = f} o = record { servers = n; followers = f; fits = o.fits; allowed = o.allowed }

start_clear : (c : Cluster) (n f : ℕ) → (step_of c (Start n f)).answer ≡ Done → Clear (start_rules n f)
unfolding row_of
start_clear c n f d = (answered_done c (Start n f) d refl).clear

pub begins_fresh : (c : Cluster) (start : List ℕ) (n f : ℕ) → Begins c start n f → FreshOf (answer_to c start).cluster n f
begins_fresh c start n f b =
    let e = answer_is c start (Start n f) b.reads in
    rw e (clear_fresh c n f (read_step_fits start (Start n f) b.reads) (start_clear c n f (sym (answer_of e) ∙ b.done)))
