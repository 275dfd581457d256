-- The words of what is claimed of the step: why it refuses, which servers it touches, and which programs differ from it. Assumes nothing.
use Rattle.std.specs.Prelude.{◌≡◌, Bool, true, false, cond, ◌||◌, ℕ, eqb, ltb, Option, Some, None}
use Rattle.cluster.specs.declared.Cluster.{Cluster}
use Rattle.cluster.specs.Servers.{server_at}
use Rattle.cluster.specs.Sets.{member}
use Rattle.cluster.specs.WellFormed.{well_formed}
use Rattle.steps.specs.declared.Answer.{Answer}
use Rattle.steps.specs.declared.Answer.TheVariants as A
use Rattle.steps.specs.declared.Outcome.{Outcome}
use Rattle.steps.specs.declared.Refusal.{Refusal}
use Rattle.steps.specs.declared.Refusal.TheVariants.{IllFormed}
use Rattle.steps.specs.declared.Step.{Step}
use Rattle.steps.specs.declared.Step.TheVariants.{Start, Elect, StepDown, Hears, Pulls, RollsBack, Writes, Advances, WallClock, Restarts, LocalRead, MajorityRead, Acknowledged, ClocksAgree, WritesNothing, NewestRead, TakesReport}
use Rattle.steps.specs.Answers.{refusing_all}
use Rattle.steps.specs.Reasons.{Broken}
use Rattle.rules.specs.Rules.{is_start, rules_of, step_of}

-- ---- refusals

-- why a step is refused: the record is ill formed and the step no start, or a rule is broken
pub data Why (c : Cluster) (s : Step) : Refusal → Type 0 where
  ill_formed : (is_start s || well_formed c) ≡ false → Why c s IllFormed
  broken : {r : Refusal} → (is_start s || well_formed c) ≡ true → Broken (rules_of c s) r → Why c s r

-- ---- which servers a step touches

-- the source is server i
abbrev pub is_source : Option ℕ → ℕ → Bool
is_source None i = false
is_source (Some b) i = eqb i b

-- the server that it names and the one that it sends a report to, a set's members, every counted server; a step that only asks changes none
abbrev pub touches : Cluster → Step → ℕ → Bool
touches c (Start n f) i = true
touches c (Elect a m) i = member m i
touches c (StepDown a) i = eqb i a
touches c (Hears a b) i = eqb i a
touches c (Pulls a b) i = eqb i a || eqb i b
touches c (RollsBack a b) i = eqb i a || eqb i b
touches c (Writes a key value client) i = eqb i a
touches c (Advances a) i = eqb i a
touches c (WallClock a) i = eqb i a
touches c (Restarts a) i = eqb i a
touches c (LocalRead a key asked) i = false
touches c (MajorityRead a key asked) i = false
touches c (Acknowledged a k n term) i = false
touches c ClocksAgree i = ltb i c.count
touches c (WritesNothing a) i = eqb i a
touches c (NewestRead a key n term) i = false
touches c (TakesReport a) i = eqb i a || is_source (server_at c a).mail.source i

-- ---- what a program is held to

abbrev pub Program : Type 0
Program = Cluster → Step → Outcome

-- a record and a step at which the program gives something else than the step
pub record Differs (p : Program) : Type 0 where
  pub from : Cluster
  pub takes : Step
  pub differs : p from takes ≡ step_of from takes → ⊥

-- one that refuses every step
abbrev pub refuses_each : Refusal → Program
refuses_each r c s = refusing_all c r

-- one whose answer never varies; its records are right
abbrev pub says_one : Answer → Program
says_one a c s = record { cluster = (step_of c s).cluster; answer = a }

-- one that leaves every record as it is; its answers are right
abbrev pub leaves_all : Program
leaves_all c s = record { cluster = c; answer = (step_of c s).answer }

-- one that performs the first step, on the record that is all zero, and echoes from then on
abbrev pub echoes_later : Program
echoes_later c s = cond (eqb c.count 0) (step_of c s) (record { cluster = c; answer = A.Done })
