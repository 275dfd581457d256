-- The view of a record: what the safety theory sees of each server, and of what was told.
-- Assumes nothing.
use Rattle.std.specs.Prelude.{ℕ}
use Rattle.server_log.specs.declared.Entry.{Entry}
use Rattle.server_log.specs.Entries.{entry_at}
use Rattle.server_log.specs.Logs.{live, length_of}
use Rattle.mail.specs.declared.Report.{Report}
use Rattle.mail.specs.declared.Note.{Note}
use Rattle.mail.specs.Queues.{report_at}
use Rattle.mail.specs.Mails.{note_at}
use Rattle.cluster.specs.declared.Server.{Server}
use Rattle.cluster.specs.declared.Cluster.{Cluster}
use Rattle.cluster.specs.Servers.{server_at}
use Rattle.safety.specs.Cluster.{EntrySeen, ServerSeen, Seen}
use Rattle.safety.specs.Told.{ReportSeen, note, slot, Told, ClusterSeen}
use Rattle.safety.specs.Time.{stamp}

abbrev pub seen_entry : Entry → EntrySeen
seen_entry e = record { term = e.term; key = e.key; value = e.value; time = stamp e.time }

-- its log by positions: the zero entry, which stands at position 0, is seen as the root. No step of a record drops anything, so its mark is 0
abbrev pub seen_server : Server → ServerSeen
seen_server s =
    record {
      len = length_of s.log;
      log = λ n. seen_entry (entry_at (live s.log) n);
      term = s.head.term;
      primary = s.head.primary;
      commit = s.head.commit;
      mark = 0;
    }

abbrev pub view : Cluster → Seen
view c i = seen_server (server_at c i)

-- the note about server j, and a report
abbrev pub seen_note : ℕ → Note → ReportSeen
seen_note j n = record { who = j; term = n.term; last = n.last; len = n.len }

abbrev pub seen_report : Report → ReportSeen
seen_report r = record { who = r.who; term = r.term; last = r.last; len = r.len }

abbrev pub told_in : Cluster → Told
told_in c (note i j) = seen_note j (note_at (server_at c i).mail j)
told_in c (slot i k) = seen_report (report_at (server_at c i).mail.queue k)

abbrev pub seen_cluster : Cluster → ClusterSeen
seen_cluster c = record { servers = view c; told = told_in c }
