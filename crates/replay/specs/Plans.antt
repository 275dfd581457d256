-- What a line is to do to the record: nothing, one server, or the whole record, where the step may send a report to another. Nobody has to believe this: by `plan_does` a plan
-- that is carried out gives what `Texts` says. Assumes nothing.
use Rattle.std.specs.Prelude.{ℕ, Bool, cond, ◌||◌, eqb, ltb, Option, Some, None, Result, Ok, Err}
use Rattle.cluster.specs.declared.Cluster.{Cluster}
use Rattle.cluster.specs.Servers.{server_count, server_at, with_server}
use Rattle.steps.specs.declared.Outcome.{Outcome}
use Rattle.steps.specs.declared.Refusal.{Refusal}
use Rattle.steps.specs.declared.Refusal.TheVariants.{NotAFrame, IllFormed, OutOfRange}
use Rattle.steps.specs.declared.Step.{Step}
use Rattle.steps.specs.declared.Step.TheVariants as S
use Rattle.steps.specs.Answers.{refusing_all}
use Rattle.rules.specs.Rules.{is_start, core_of}
use Rattle.rules.specs.One.{one_of}
use Rattle.replay.specs.declared.Plan.{Plan}
use Rattle.replay.specs.declared.Plan.TheVariants.{Server, Record}

-- one server, whose number is in range
unfoldable pub plan_alone : ℕ → ℕ → Step → Result Plan Refusal
plan_alone size a s = cond (ltb a size) (Ok (Server a a s)) (Err OutOfRange)

-- two servers, not the same
unfoldable pub plan_apart : ℕ → ℕ → ℕ → Step → Result Plan Refusal
plan_apart size a b s =
    cond (ltb a size) (cond (ltb b size) (cond (eqb a b) (Err OutOfRange) (Ok (Server a b s))) (Err OutOfRange)) (Err OutOfRange)

unfoldable pub place_of : ℕ → Step → Result Plan Refusal
place_of size (S.Start n f) = Ok (Record (S.Start n f))
place_of size (S.Elect a m) = Ok (Record (S.Elect a m))
place_of size (S.StepDown a) = plan_alone size a (S.StepDown a)
place_of size (S.Hears a b) = plan_apart size a b (S.Hears a b)
place_of size (S.Pulls a b) = Ok (Record (S.Pulls a b))
place_of size (S.RollsBack a b) = Ok (Record (S.RollsBack a b))
place_of size (S.Writes a key value client) = plan_alone size a (S.Writes a key value client)
place_of size (S.Advances a) = Ok (Record (S.Advances a))
place_of size (S.WallClock a) = plan_alone size a (S.WallClock a)
place_of size (S.Restarts a) = plan_alone size a (S.Restarts a)
place_of size (S.LocalRead a key asked) = plan_alone size a (S.LocalRead a key asked)
place_of size (S.MajorityRead a key asked) = plan_alone size a (S.MajorityRead a key asked)
place_of size (S.Acknowledged a k n term) = plan_alone size a (S.Acknowledged a k n term)
place_of size S.ClocksAgree = Ok (Record S.ClocksAgree)
place_of size (S.WritesNothing a) = plan_alone size a (S.WritesNothing a)
place_of size (S.NewestRead a key n term) = plan_alone size a (S.NewestRead a key n term)
place_of size (S.TakesReport a) = Ok (Record (S.TakesReport a))

-- refusal 1, then 2, then the step
unfoldable pub plan_of : ℕ → Bool → Option Step → Result Plan Refusal
plan_of size formed (Some s) = cond (is_start s || formed) (place_of size s) (Err IllFormed)
plan_of size formed None = Err NotAFrame

-- what is done
unfoldable pub carried_out : Cluster → Result Plan Refusal → Outcome
carried_out c (Err r) = refusing_all c r
carried_out c (Ok (Server a b s)) = record { cluster = with_server c a (one_of (server_count c) (server_at c a) (server_at c b) s).server; answer = (one_of (server_count c) (server_at c a) (server_at c b) s).answer }
carried_out c (Ok (Record s)) = core_of c s
