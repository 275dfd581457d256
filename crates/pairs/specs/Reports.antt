-- What a server that took over another's entries tells it: kinds 4 and 5 end so. Assumes nothing.
use Rattle.std.specs.Prelude.{ℕ, Some}
use Rattle.server_log.specs.Entries.{last_term}
use Rattle.server_log.specs.Logs.{live, length_of}
use Rattle.mail.specs.declared.Report.{Report}
use Rattle.mail.specs.Mails.{with_source}
use Rattle.cluster.specs.declared.Server.{Server}
use Rattle.cluster.specs.Servers.{with_mail}
use Rattle.steps.specs.declared.Stepped.{Stepped}
use Rattle.steps.specs.declared.Answer.TheVariants.{Reached}
use Rattle.steps.specs.Answers.{number_of, report_to}

-- server a's report of itself: its number, its term, its last term and its length
abbrev pub report_of : ℕ → Server → Report
report_of a s = record { who = a; term = s.head.term; last = last_term (live s.log); len = number_of (length_of s.log) }

-- b is its source, it sends b its report, and answers its length
abbrev pub sent_of : ℕ → ℕ → Server → Stepped
sent_of a b s = record { server = with_mail s (with_source s.mail (Some b)); answer = Reached (length_of s.log); sends = report_to b (report_of a s) }
