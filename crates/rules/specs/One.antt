-- The kinds that change one server, as one function of it, of the server that it looks at and of the server count. Nobody has to believe this: by the laws
-- of `Parts` it comes to the rows of `Rules`. Assumes nothing.
use Rattle.std.specs.Prelude.{[], ◌∷◌, ℕ}
use Rattle.cluster.specs.declared.Cluster.{Cluster}
use Rattle.cluster.specs.declared.Server.{Server}
use Rattle.steps.specs.declared.Step.{Step}
use Rattle.steps.specs.declared.Step.TheVariants.{Start, Elect, StepDown, Hears, Pulls, RollsBack, Writes, Advances, WallClock, Restarts, LocalRead, MajorityRead, Acknowledged, ClocksAgree, WritesNothing, NewestRead, TakesReport}
use Rattle.steps.specs.declared.Stepped.{Stepped}
use Rattle.steps.specs.declared.Outcome.{Outcome}
use Rattle.steps.specs.declared.Answer.TheVariants.{Done}
use Rattle.cluster.specs.Servers.{server_count, server_at}
use Rattle.steps.specs.Refusals.{decided}
use Rattle.steps.specs.Answers.{refusing_all, answering}
use Rattle.rules.specs.Rules.{in_range, both_in_range, put_back}
use Rattle.pairs.specs.Hears.{hears_of}
use Rattle.pairs.specs.Pulls.{pulls_of}
use Rattle.pairs.specs.RollsBack.{rolls_back_of}
use Rattle.singles.specs.StepsDown.{steps_down_of}
use Rattle.singles.specs.WallClock.{wall_clock_of}
use Rattle.singles.specs.Restarts.{restarts_of}
use Rattle.singles.specs.Writes.{writes_of}
use Rattle.singles.specs.WritesNothing.{writes_nothing_of}
use Rattle.reads.specs.Acknowledged.{acknowledged_of}
use Rattle.reads.specs.LocalRead.{local_read_of}
use Rattle.reads.specs.MajorityRead.{majority_read_of}
use Rattle.reads.specs.NewestRead.{newest_read_of}
use Rattle.singles.specs.TakesReport.{takes_report_of}

-- a step of the whole cluster leaves a server as it is
abbrev pub untouched_of : Server → Stepped
untouched_of s = answering s Done

unfoldable pub one_of : ℕ → Server → Server → Step → Stepped
one_of size s t (Start n f) = untouched_of s
one_of size s t (Elect a m) = untouched_of s
one_of size s t (StepDown a) = steps_down_of s
one_of size s t (Hears a b) = hears_of s t
one_of size s t (Pulls a b) = pulls_of s t a b
one_of size s t (RollsBack a b) = rolls_back_of s t a b
one_of size s t (Writes a key value client) = writes_of s key value client
one_of size s t (Advances a) = untouched_of s
one_of size s t (WallClock a) = wall_clock_of s
one_of size s t (Restarts a) = restarts_of s
one_of size s t (LocalRead a key asked) = local_read_of s key asked
one_of size s t (MajorityRead a key asked) = majority_read_of s key asked
one_of size s t (Acknowledged a k n term) = acknowledged_of size s k n term
one_of size s t ClocksAgree = untouched_of s
one_of size s t (WritesNothing a) = writes_nothing_of s
one_of size s t (NewestRead a key n term) = newest_read_of s key n term
one_of size s t (TakesReport a) = takes_report_of s

-- server a of the record takes the step, alone
unfoldable pub single_of : Cluster → ℕ → Step → Outcome
single_of c a s = decided (refusing_all c) (put_back c a (one_of (server_count c) (server_at c a) (server_at c a) s)) (in_range c a ∷ [])

-- server a of the record takes the step, looking at server b
unfoldable pub pair_of : Cluster → ℕ → ℕ → Step → Outcome
pair_of c a b s = decided (refusing_all c) (put_back c a (one_of (server_count c) (server_at c a) (server_at c b) s)) (both_in_range c a b [])
