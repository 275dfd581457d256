-- One queue by value: its slots and its length; the oldest report stands first, and slots past the length are zero. Assumes nothing.
use Rattle.std.specs.Prelude.{cond, ℕ, suc, ◌+◌, ◌-◌, ltb, get_or, set, replicate}
use Rattle.base.specs.Lists.{each}
use Rattle.mail.specs.declared.Report.{Report}
use Rattle.mail.specs.declared.Queue.{Queue}
use Rattle.mail.specs.Reports.{zero_report}

-- a queue holds at most 8 reports
abbrev pub queue_limit : ℕ
queue_limit = 8

abbrev pub empty_queue : Queue
empty_queue = record { reports = replicate queue_limit zero_report; len = 0 }

abbrev pub report_at : Queue → ℕ → Report
report_at q i = get_or q.reports i zero_report

-- a report at the end of the queue; to a full queue it is lost
unfoldable pub queued : Queue → Report → Queue
queued q r = cond (ltb q.len queue_limit) (record { reports = set q.reports q.len r; len = q.len + 1 }) q

-- the queue without its oldest report: each slot takes what the next has, and the last is zero
unfoldable pub oldest_taken : Queue → Queue
oldest_taken q = record { reports = each (λ i r. report_at q (suc i)) q.reports; len = q.len - 1 }
