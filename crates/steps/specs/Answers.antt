-- What a step gives, and 01's and 02's number and values for each case of an answer. Assumes nothing.
use Rattle.std.specs.Prelude.{Option, None, Some, Result, Ok, Err, Bool, true, false, ℕ, ◌%◌}
use Rattle.clock.specs.declared.Time.{Time}
use Rattle.clock.specs.Times.{zero_time}
use Rattle.mail.specs.declared.Report.{Report}
use Rattle.cluster.specs.declared.Server.{Server}
use Rattle.cluster.specs.declared.Cluster.{Cluster}
use Rattle.steps.specs.declared.Refusal.{Refusal}
use Rattle.steps.specs.declared.Answer.{Answer}
use Rattle.steps.specs.declared.Answer.TheVariants.{Done, Elected, Reached, Entry, Value, Refused}
use Rattle.steps.specs.declared.Numbers.{Numbers}
use Rattle.steps.specs.declared.Sent.{Sent}
use Rattle.steps.specs.declared.Stepped.{Stepped}
use Rattle.steps.specs.declared.Outcome.{Outcome}

-- a report to server b
abbrev pub report_to : ℕ → Report → Option Sent
report_to b r = Some (record { to = b; report = r })

-- the server and its answer, and nothing is sent
abbrev pub answering : Server → Answer → Stepped
answering s a = record { server = s; answer = a; sends = None }

-- any refusal returns only its number, and what was there before
abbrev pub refusing : Server → Refusal → Stepped
refusing s r = answering s (Refused r)

abbrev pub refusing_all : Cluster → Refusal → Outcome
refusing_all c r = record { cluster = c; answer = Refused r }

-- a position or a length in the sixteen bits of an answer's number
abbrev pub number_of : ℕ → ℕ
number_of n = n % 65536

-- what is told of an answer: its numbers, or the refusal
abbrev pub Telling : Type 0
Telling = Result Numbers Refusal

abbrev pub numbers : ℕ → ℕ → Time → Telling
numbers n term time = Ok (record { number = n; term = term; time = time })

-- kind 1 fills term; 4, 5, 7 number; 6, 12, 14 position, term and time; 10, 11, 15 number with the time; all else is zero
abbrev pub telling_of : Answer → Telling
telling_of Done = numbers 0 0 zero_time
telling_of (Elected term) = numbers 0 term zero_time
telling_of (Reached n) = numbers (number_of n) 0 zero_time
telling_of (Entry n term time) = numbers (number_of n) term time
telling_of (Value value time) = numbers value 0 time
telling_of (Refused r) = Err r

abbrev pub is_refused : Answer → Bool
is_refused Done = false
is_refused (Elected term) = false
is_refused (Reached n) = false
is_refused (Entry n term time) = false
is_refused (Value value time) = false
is_refused (Refused r) = true
