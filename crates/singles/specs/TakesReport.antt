-- Kind 16: a takes its oldest report. Assumes nothing.
use Rattle.std.specs.Prelude.{cond, [], ◌∷◌, leb, Option, None, option_and_then}
use Rattle.mail.specs.declared.Report.{Report}
use Rattle.mail.specs.Queues.{report_at}
use Rattle.mail.specs.Mails.{noted, taken}
use Rattle.cluster.specs.declared.Server.{Server}
use Rattle.cluster.specs.Servers.{with_mail}
use Rattle.steps.specs.declared.Sent.{Sent}
use Rattle.steps.specs.declared.Stepped.{Stepped}
use Rattle.steps.specs.declared.Answer.TheVariants.{Done}
use Rattle.steps.specs.declared.Refusal.TheVariants.{ConditionUnmet}
use Rattle.steps.specs.Refusals.{Rules, decided}
use Rattle.steps.specs.Answers.{refusing, report_to}

-- a report is there
abbrev pub take_rules : Server → Rules
take_rules s = (leb 1 s.mail.queue.len, ConditionUnmet) ∷ []

abbrev pub oldest_of : Server → Report
oldest_of s = report_at s.mail.queue 0

-- the same report, to the source: at a primary it goes no further, and at a server without a source it is dropped
unfoldable pub forwards : Server → Option Sent
forwards s = cond s.head.primary None (option_and_then (λ b. report_to b (oldest_of s)) s.mail.source)

-- it leaves the queue, and the note of the server that it is about gives way to it where it is greater
abbrev pub take_done : Server → Stepped
take_done s = record { server = with_mail s (taken (noted s.mail (oldest_of s))); answer = Done; sends = forwards s }

abbrev pub takes_report_of : Server → Stepped
takes_report_of s = decided (refusing s) (take_done s) (take_rules s)
