-- Appending one entry, stamped by the tick: what a write and an entry that writes nothing have in common. Assumes nothing.
use Rattle.std.specs.Prelude.{[], ◌∷◌, Bool, true, false, ℕ, Option, Some, None}
use Rattle.clock.specs.declared.Time.{Time}
use Rattle.clock.specs.Times.{zero_time, tick_of}
use Rattle.server_log.specs.declared.Entry.{Entry}
use Rattle.server_log.specs.Logs.{length_of, has_room, appended}
use Rattle.server_log.specs.Rows.{latest_after}
use Rattle.cluster.specs.declared.Server.{Server}
use Rattle.cluster.specs.Servers.{with_time, with_head, with_log, with_whole}
use Rattle.steps.specs.declared.Stepped.{Stepped}
use Rattle.steps.specs.declared.Answer.TheVariants as A
use Rattle.steps.specs.declared.Refusal.TheVariants as R
use Rattle.steps.specs.Refusals.{Rules, decided}
use Rattle.steps.specs.Answers.{refusing, answering}

-- the tick can be made, and its time
abbrev pub ticks : Option Time → Bool
ticks (Some t) = true
ticks None = false

abbrev pub tick_time : Option Time → Time
tick_time (Some t) = t
tick_time None = zero_time

-- a primary; its log not full; refusal 7 where l is at its limit and the tick from this time must raise it
abbrev pub append_rules : Server → Time → Rules
append_rules s from =
    (s.head.primary, R.WrongRole)
    ∷ (has_room s.log, R.LogFull)
    ∷ (ticks (tick_of s.head.wall from), R.AtLimit)
    ∷ []

-- one entry with a's term and the new cluster time t
abbrev pub new_entry : Server → ℕ → ℕ → Time → Entry
new_entry s key value t = record { term = s.head.term; key = key; value = value; time = t }

-- its value goes into the row of the whole log
unfoldable pub stamped_of : Server → ℕ → ℕ → Time → Server
stamped_of s key value t =
    with_whole (with_log (with_head s (with_time s.head t)) (appended s.log (new_entry s key value t)))
    (latest_after s.rows.whole (new_entry s key value t))

-- the answer is the entry's position, term and time
abbrev pub stamp_done : Server → ℕ → ℕ → Time → Stepped
stamp_done s key value t =
    answering (stamped_of s key value t) (A.Entry (length_of (appended s.log (new_entry s key value t))) s.head.term t)

abbrev pub append_done : Server → ℕ → ℕ → Time → Stepped
append_done s key value from = stamp_done s key value (tick_time (tick_of s.head.wall from))

abbrev pub appends_of : Server → ℕ → ℕ → Time → Stepped
appends_of s key value from = decided (refusing s) (append_done s key value from) (append_rules s from)
