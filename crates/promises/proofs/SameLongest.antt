-- The longest beginning over the lines of a text is that over their events: a line that is no frame leaves it as it is. Assumes nothing.
use mathlib.Core.Path.{◌≡◌, refl, ap, ◌∙◌}
use mathlib.Core.List.{List, [], ◌∷◌, map}
use Prim.Native.Nat.{ℕ}
use Rattle.server_log.specs.declared.Entry.{Entry}
use Rattle.cluster.specs.declared.Cluster.{Cluster}
use Rattle.rules.specs.Rules.{step_of}
use Rattle.steps.specs.declared.Step.{Step}
use Rattle.std.proofs.Common.{Option, Some, None}
use Rattle.frames.specs.Steps.{read_step}
use Rattle.replay.specs.Texts.{respond, answer_to, records_on}
use Rattle.histories.specs.Longest.{longer_of, longest_of}
use Rattle.promises.specs.Runs.{Event, happens}
use Rattle.promises.specs.Texts.{a_line, with_read, events_in}
use Rattle.promises.specs.Longest.{records_of}
use Rattle.promises.proofs.Folds.{longer_again}

-- the first record of a run counts once
counts_once : (es : List Entry) (c : Cluster) (run : List Event) → longest_of (longer_of es c) (records_of c run) ≡ longest_of es (records_of c run)
counts_once es c [] = longer_again es c
counts_once es c (e ∷ run) = ap (λ (fs : List Entry). longest_of fs (records_of (happens c e) run)) (longer_again es c)

pub same_longest : (es : List Entry) (c : Cluster) (ls : List (List ℕ)) → longest_of es (records_on c ls) ≡ longest_of es (records_of c (events_in (map a_line ls)))
unfolding answer_to respond
same_longest es c [] = refl
same_longest es c (l ∷ ls) = go (read_step l) (λ d. same_longest (longer_of es c) d ls)
  where
    run : List Event
    run = events_in (map a_line ls)

    go : (r : Option Step) → ((d : Cluster) → longest_of (longer_of es c) (records_on d ls) ≡ longest_of (longer_of es c) (records_of d run))
        → longest_of (longer_of es c) (records_on (respond c r).cluster ls) ≡ longest_of es (records_of c (with_read r run))
    go (Some s) more = more (step_of c s).cluster
    go None more = more c ∙ counts_once es c run
