-- All sixteen values of a server at once, with their time: for each key what kind 10, or kind 11, would answer now. Assumes nothing.
use Rattle.server_log.specs.Entries.{applied_time}
use Rattle.server_log.specs.Logs.{live}
use Rattle.cluster.specs.declared.Server.{Server}
use Rattle.reads.specs.declared.lists.Listed.{Listed}
use Rattle.reads.specs.MajorityRead.{commit_time}

-- of the whole log, as of the applied time
abbrev pub whole_list : Server → Listed
whole_list s = record { latest = s.rows.whole; time = applied_time (live s.log) }

-- of the committed beginning, as of the commit time
abbrev pub committed_list : Server → Listed
committed_list s = record { latest = s.rows.committed; time = commit_time s }
