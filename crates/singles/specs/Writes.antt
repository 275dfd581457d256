-- Kind 6: a writes key, value, for a client that carries a time. Assumes nothing.
use Rattle.std.specs.Prelude.{◌∷◌, ℕ, ◌+◌, leb}
use Rattle.clock.specs.declared.Time.{Time}
use Rattle.clock.specs.Times.{later_of}
use Rattle.server_log.specs.Order.{highest_key}
use Rattle.cluster.specs.declared.Server.{Server}
use Rattle.steps.specs.declared.Stepped.{Stepped}
use Rattle.steps.specs.declared.Refusal.TheVariants.{OutOfRange, ClockAhead}
use Rattle.steps.specs.Refusals.{Rules, decided}
use Rattle.steps.specs.Answers.{refusing}
use Rattle.singles.specs.Appends.{append_rules, append_done}

-- how far a client's p may be above the wall clock
abbrev pub most_ahead : ℕ
most_ahead = 600

-- the tick starts from the later of the client's time and the cluster time
abbrev pub write_from : Server → Time → Time
write_from s client = later_of s.head.time client

-- key and value in range, and the client's clock not too far ahead, before all that an entry asks for
abbrev pub write_rules : Server → ℕ → ℕ → Time → Rules
write_rules s key value client =
    (leb key highest_key, OutOfRange)
    ∷ (leb 1 value, OutOfRange)
    ∷ (leb client.p (s.head.wall + most_ahead), ClockAhead)
    ∷ append_rules s (write_from s client)

abbrev pub write_done : Server → ℕ → ℕ → Time → Stepped
write_done s key value client = append_done s key value (write_from s client)

abbrev pub writes_of : Server → ℕ → ℕ → Time → Stepped
writes_of s key value client = decided (refusing s) (write_done s key value client) (write_rules s key value client)
