-- Texts are runs, and runs are texts. Assumes nothing.
use mathlib.Core.Path.{◌≡◌, refl, ap, sym, ◌∙◌, subst}
use mathlib.Core.Logic.{◌≢◌}
use mathlib.Core.Bool.{true}
use mathlib.Core.List.{List, [], ◌∷◌, ◌++◌, map}
use Prim.Native.Nat.{ℕ}
use Rattle.cluster.specs.declared.Cluster.{Cluster}
use Rattle.cluster.specs.Servers.{zero_cluster}
use Rattle.steps.specs.declared.Answer.TheVariants.{Done}
use Rattle.steps.specs.declared.Outcome.{Outcome}
use Rattle.steps.specs.declared.Step.{Step}
use Rattle.steps.specs.declared.Step.TheVariants.{Start}
use Rattle.steps.specs.Fields.{frame_for}
use Rattle.steps.specs.Ranges.{FitsStep}
use Rattle.wholes.specs.Starts.{start_done, Opening, fresh_of}
use Rattle.rules.specs.Rules.{row_of, is_start, step_of}
use Rattle.rules.proofs.Outcomes.{step_done}
use Rattle.std.proofs.Common.{Option, Some, None}
use Rattle.frames.specs.Layout.{bytes_of_frame}
use Rattle.frames.specs.Steps.{read_step, write_step}
use Rattle.frames.proofs.Steps.{read_step_fits, read_written_step}
use Rattle.lines.specs.Texts.{line_feed, lines}
use Rattle.replay.specs.Texts.{respond, answer_to, record_after}
use Rattle.safety.proofs.Stepped.{Now, begun}
use Rattle.promises.specs.Runs.{Event, comes, overnight, happens, run_to, Onward}
use Rattle.promises.specs.Texts.{Given, a_line, a_night, taken_all, NoneBegins, with_read, events_in, IsRun, TextsAreRuns, lines_for, RunsAreTexts}
use Rattle.promises.proofs.Turns.{given_back, next}
use Rattle.promises.proofs.Starts.{start_of, answer_is, answer_of, begins_fresh}
use Rattle.promises.proofs.Written.{hex_line}

-- ---- texts are runs

-- a line is no event or the step that it reads as, which fits, and is no start that succeeds where the line begins no cluster
is_run : (c : Cluster) (gs : List Given) → NoneBegins c gs → IsRun c gs
unfolding answer_to respond
is_run c [] h = record { onward = tt; same = refl }
is_run c (a_night d ∷ gs) h = let r = is_run (happens c (overnight d)) gs h in record { onward = (tt, r.onward); same = r.same }
is_run c (a_line l ∷ gs) h = let p = go (read_step l) refl (λ d. is_run d gs) h.1 in record { onward = p.0; same = p.1 }
  where
    no_start : (s : Step) → read_step l ≡ Some s → is_start s ≡ true → (step_of c s).answer ≢ Done
    no_start s e y d =
        let m = start_of s y in h.0 m.0 m.1 (record { reads = e ∙ ap Some m.2; done = answer_of (answer_is c l s e) ∙ d })

    go : (r : Option Step) → read_step l ≡ r → ((d : Cluster) → NoneBegins d gs → IsRun d gs) → NoneBegins (respond c r).cluster gs
        → Onward c (with_read r (events_in gs)) × (run_to c (with_read r (events_in gs)) ≡ taken_all (respond c r).cluster gs)
    go (Some s) e more t = let r = more (step_of c s).cluster t in (((read_step_fits l s e, no_start s e), r.onward), r.same)
    go None e more t = let r = more c t in (r.onward, r.same)

-- lines alone are taken in as the program takes them in
pub lines_are_given : (c : Cluster) (ls : List (List ℕ)) → taken_all c (map a_line ls) ≡ record_after c ls
lines_are_given c [] = refl
lines_are_given c (l ∷ ls) = lines_are_given (answer_to c l).cluster ls

pub texts_are_runs : TextsAreRuns
texts_are_runs = record { begun = begins_fresh; goes_on = is_run }

-- ---- runs are texts

abbrev unlines : List (List ℕ) → List ℕ
unlines [] = []
unlines (l ∷ ls) = l ++ (line_feed ∷ unlines ls)

text_lines : (run : List Event) → lines (unlines (lines_for run)) ≡ lines_for run
text_lines [] = refl
text_lines (comes s ∷ run) = hex_line (bytes_of_frame (frame_for s)) (unlines (lines_for run)) ∙ ap (λ (ls : List (List ℕ)). write_step s ∷ ls) (text_lines run)
text_lines (overnight d ∷ run) = text_lines run

pub line_is : (c : Cluster) (s : Step) → FitsStep s → answer_to c (write_step s) ≡ step_of c s
line_is c s f = answer_is c (write_step s) s (read_written_step s f)

start_is : (z : Opening) → answer_to zero_cluster (write_step (Start z.servers z.followers)) ≡ start_done z.servers z.followers
unfolding row_of
start_is z =
    let s = Start z.servers z.followers in
    line_is zero_cluster s z.fits ∙ step_done zero_cluster s refl (z.allowed, tt)

-- the lines of a run's beginning lead to its record
same_record : {z : Opening} {c : Cluster} → Now z c → (es more : List Event) → Onward c (es ++ more) → record_after c (lines_for es) ≡ run_to c es
same_record N [] more h = refl
same_record {c = c} N (comes s ∷ es) more h =
    ap (λ (o : Outcome). record_after o.cluster (lines_for es)) (line_is c s h.0.0) ∙ same_record {c = happens c (comes s)} (next N (comes s) h.0).later es more h.1
same_record {c = c} N (overnight d ∷ es) more h =
    ap (λ (x : Cluster). record_after x (lines_for es)) (sym (given_back N d)) ∙ same_record {c = happens c (overnight d)} (next N (overnight d) tt).later es more h.1

pub runs_are_texts : RunsAreTexts
runs_are_texts z run h =
    let s = Start z.servers z.followers in
    record {
      text = unlines (write_step s ∷ lines_for run);
      is = text_lines (comes s ∷ run);
      moments = λ es more e.
          ap (λ (o : Outcome). record_after o.cluster (lines_for es)) (start_is z) ∙ same_record (begun z) es more (subst (Onward (fresh_of z)) e h);
    }
