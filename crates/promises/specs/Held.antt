-- What servers hold along a run: the entries that a server has appended or taken over and not since lost. From a log nothing can be dropped yet, so that by
-- `holds_logs` it is what the logs have. Assumes nothing.
use Rattle.std.specs.Prelude.{◌≡◌, cond, List, [], ◌∷◌, ◌++◌, ℕ, ◌<◌, eqb}
use Rattle.server_log.specs.declared.Entry.{Entry}
use Rattle.base.specs.Lists.{joined_at}
use Rattle.server_log.specs.Entries.{entry_at}
use Rattle.server_log.specs.Logs.{live, length_of}
use Rattle.cluster.specs.declared.Cluster.{Cluster}
use Rattle.cluster.specs.declared.Server.{Server}
use Rattle.cluster.specs.Servers.{server_at}
use Rattle.steps.specs.declared.Step.{Step}
use Rattle.steps.specs.declared.Step.TheVariants.{Start, Elect, StepDown, Hears, Pulls, RollsBack, Writes, Advances, WallClock, Restarts, LocalRead, MajorityRead, Acknowledged, ClocksAgree, WritesNothing, NewestRead, TakesReport}
use Rattle.steps.specs.Answers.{is_refused}
use Rattle.pairs.specs.RollsBack.{common}
use Rattle.rules.specs.Rules.{step_of}
use Rattle.promises.specs.Runs.{Event, comes, overnight, happens}

-- of each server the entries that it holds
abbrev pub Held : Type 0
Held = ℕ → List Entry

abbrev pub hold_nothing : Held
hold_nothing i = []

-- server a holds these, and every other what it held
unfoldable pub held_with : Held → ℕ → List Entry → Held
held_with h a es i = cond (eqb i a) es (h i)

-- how many of its own entries a keeps at a pull, and at a rollback
abbrev pub pull_keeps : Server → ℕ
pull_keeps s = length_of s.log

abbrev pub roll_keeps : Server → Server → ℕ
roll_keeps s t = common s t

-- a keeps the first k of its own, and takes what b holds after them
abbrev pub held_copy : Held → ℕ → ℕ → ℕ → Held
held_copy h a b k = held_with h a (joined_at k (h a) (h b))

-- a has appended the entry that is its last one in d
abbrev pub held_more : Held → ℕ → Cluster → Held
held_more h a d = held_with h a (h a ++ (entry_at (live (server_at d a).log) (length_of (server_at d a).log) ∷ []))

-- after a step that is done, which leads from c to d: copies and writes change it, and a start ends it
abbrev pub held_done : Cluster → Cluster → Held → Step → Held
held_done c d h (Start n f) = hold_nothing
held_done c d h (Elect a m) = h
held_done c d h (StepDown a) = h
held_done c d h (Hears a b) = h
held_done c d h (Pulls a b) = held_copy h a b (pull_keeps (server_at c a))
held_done c d h (RollsBack a b) = held_copy h a b (roll_keeps (server_at c a) (server_at c b))
held_done c d h (Writes a key value client) = held_more h a d
held_done c d h (Advances a) = h
held_done c d h (WallClock a) = h
held_done c d h (Restarts a) = h
held_done c d h (LocalRead a key asked) = h
held_done c d h (MajorityRead a key asked) = h
held_done c d h (Acknowledged a k n term) = h
held_done c d h ClocksAgree = h
held_done c d h (WritesNothing a) = held_more h a d
held_done c d h (NewestRead a key n term) = h
held_done c d h (TakesReport a) = h

-- after any step: a refusal changes nothing
unfoldable pub held_after : Cluster → Held → Step → Held
held_after c h s = cond (is_refused (step_of c s).answer) h (held_done c (step_of c s).cluster h s)

-- along the events of a run, of which a saving changes nothing
abbrev pub held_over : Cluster → Held → List Event → Held
held_over c h [] = h
held_over c h (comes s ∷ es) = held_over (happens c (comes s)) (held_after c h s) es
held_over c h (overnight d ∷ es) = held_over (happens c (overnight d)) h es

-- every counted server holds just what its log has
abbrev pub HoldsLogs : Cluster → Held → Type 0
HoldsLogs c h = (i : ℕ) → i < c.count → h i ≡ live (server_at c i).log
