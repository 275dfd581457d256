-- Savings change nothing over lines: an evening's text and a morning's are answered as one. Assumes nothing.
use mathlib.Core.Path.{◌≡◌, refl, sym, ap, ◌∙◌}
use mathlib.Core.Bool.{Bool, true, false}
use mathlib.Core.List.{List, [], ◌∷◌, ◌++◌, append_assoc}
use Prim.Native.Nat.{ℕ, ◌≤◌}
use native.Mathlib.Omega.{arith}
use lib.Dec.{eqb}
use lib.ListN.{length}
use Rattle.cluster.specs.declared.Cluster.{Cluster}
use Rattle.cluster.specs.Ranges.{Fits}
use Rattle.steps.specs.declared.Outcome.{Outcome}
use Rattle.rules.proofs.Keeps.{step_fits}
use Rattle.steps.specs.declared.Step.{Step}
use Rattle.std.proofs.Common.{Option, Some, None}
use Rattle.frames.specs.Steps.{read_step}
use Rattle.frames.proofs.Steps.{read_step_fits}
use Rattle.lines.specs.Texts.{line_feed, on_line, lines}
use Rattle.replay.specs.Texts.{respond, answer_to, line_of, answers_to, record_after, answers, leaves}
use Rattle.loads.proofs.Loads.{gives_back}
use Rattle.promises.specs.Written.{is_ended, CarriedInTexts}

-- ---- the lines of two texts

-- there is a line where there is a byte
line_there : (b : ℕ) (bs : List ℕ) → 1 ≤ length (lines (b ∷ bs))
line_there b bs = go (eqb b line_feed) (lines bs)
  where
    go : (x : Bool) (ls : List (List ℕ)) → 1 ≤ length (on_line x b ls)
    go true ls = omega arith
    go false [] = omega arith
    go false (l ∷ ls) = omega arith

on_line_then : (x : Bool) (b : ℕ) (ls ms : List (List ℕ)) → 1 ≤ length ls → on_line x b (ls ++ ms) ≡ on_line x b ls ++ ms
on_line_then true b ls ms h = refl
on_line_then false b [] ms h = let z : ⊥ = omega arith in absurd z
on_line_then false b (l ∷ ls) ms h = refl

-- the lines of a text whose last line is ended, and then those of another
lines_then : (x y : List ℕ) → is_ended x ≡ true → lines (x ++ y) ≡ lines x ++ lines y
lines_then [] y e = refl
lines_then (b ∷ []) y e = rw e
lines_then (b ∷ d ∷ x) y e =
    ap (on_line (eqb b line_feed) b) (lines_then (d ∷ x) y e) ∙ on_line_then (eqb b line_feed) b (lines (d ∷ x)) (lines y) (line_there d x)

-- ---- answers, and the record

answers_then : (c : Cluster) (ls ms : List (List ℕ)) → answers_to c (ls ++ ms) ≡ answers_to c ls ++ answers_to (record_after c ls) ms
answers_then c [] ms = refl
answers_then c (l ∷ ls) ms =
    ap (λ (x : List ℕ). line_of (answer_to c l).answer ++ x) (answers_then (answer_to c l).cluster ls ms)
    ∙ sym (append_assoc (line_of (answer_to c l).answer) (answers_to (answer_to c l).cluster ls) (answers_to (record_after (answer_to c l).cluster ls) ms))

record_then : (c : Cluster) (ls ms : List (List ℕ)) → record_after c (ls ++ ms) ≡ record_after (record_after c ls) ms
record_then c [] ms = refl
record_then c (l ∷ ls) ms = record_then (answer_to c l).cluster ls ms

-- lines keep a record in its types' ranges
line_fits : (c : Cluster) (l : List ℕ) → Fits c → Fits (answer_to c l).cluster
unfolding answer_to respond
line_fits c l h = go (read_step l) refl
  where
    go : (r : Option Step) → read_step l ≡ r → Fits (respond c r).cluster
    go (Some s) e = step_fits c s h (read_step_fits l s e)
    go None e = h

lines_fit : (c : Cluster) (ls : List (List ℕ)) → Fits c → Fits (record_after c ls)
lines_fit c [] h = h
lines_fit c (l ∷ ls) h = lines_fit (answer_to c l).cluster ls (line_fits c l h)

pub carried_in_texts : CarriedInTexts
carried_in_texts c d evening morning f e w =
    let same = ap (λ (o : Outcome). o.cluster) (gives_back d (leaves c evening) (lines_fit c (lines evening) f) w) in (
      ap (answers_to c) (lines_then evening morning e) ∙ answers_then c (lines evening) (lines morning)
          ∙ ap (λ (x : Cluster). answers c evening ++ answers_to x (lines morning)) (sym same),
      ap (record_after c) (lines_then evening morning e) ∙ record_then c (lines evening) (lines morning)
          ∙ ap (λ (x : Cluster). record_after x (lines morning)) (sym same),
    )
