-- Kind 9: a restarts. Assumes nothing.
use Rattle.std.specs.Prelude.{false}
use Rattle.server_log.specs.Entries.{applied_time}
use Rattle.server_log.specs.Logs.{live}
use Rattle.server_log.specs.Rows.{zero_row}
use Rattle.mail.specs.Mails.{zero_mail}
use Rattle.cluster.specs.declared.Server.{Server}
use Rattle.cluster.specs.Servers.{with_primary, with_commit, with_time, with_head, with_mail, with_committed}
use Rattle.steps.specs.declared.Stepped.{Stepped}
use Rattle.steps.specs.declared.Answer.TheVariants.{Done}
use Rattle.steps.specs.Answers.{answering}

-- log, term and wall clock kept; secondary, commit point 0 with nothing in its row, cluster time = applied time; no notes, no reports, no source
abbrev pub restarted_of : Server → Server
restarted_of s =
    with_committed (with_mail (with_head s (with_time (with_commit (with_primary s.head false) 0) (applied_time (live s.log)))) zero_mail) zero_row

abbrev pub restarts_of : Server → Stepped
restarts_of s = answering (restarted_of s) Done
