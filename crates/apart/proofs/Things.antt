-- The times, entries, logs, notes, reports, servers and records that the facts are about, as docs/PROMISES.md names them. Assumes nothing.
use mathlib.Core.List.{List, [], ◌∷◌, ◌++◌}
use mathlib.Core.Bool.{Bool, true, false}
use Prim.Native.Nat.{ℕ, ◌-◌}
use lib.ListN.{length, replicate}
use Rattle.clock.specs.declared.Time.{Time}
use Rattle.clock.specs.Times.{zero_time}
use Rattle.server_log.specs.declared.Entry.{Entry}
use Rattle.server_log.specs.declared.Log.{Log}
use Rattle.server_log.specs.Entries.{zero_entry}
use Rattle.server_log.specs.Logs.{log_limit}
use Rattle.server_log.specs.Rows.{rows_of}
use Rattle.mail.specs.declared.Report.{Report}
use Rattle.mail.specs.declared.Note.{Note}
use Rattle.mail.specs.declared.Queue.{Queue}
use Rattle.mail.specs.declared.Mail.{Mail}
use Rattle.mail.specs.Reports.{zero_report, zero_note}
use Rattle.mail.specs.Queues.{queue_limit}
use Rattle.mail.specs.Mails.{note_slots, zero_mail, with_notes, with_queue}
use Rattle.cluster.specs.declared.Server.{Server}
use Rattle.cluster.specs.declared.Cluster.{Cluster}
use Rattle.cluster.specs.Servers.{zero_server, fresh_cluster}

abbrev pub at : ℕ → ℕ → Time
at p l = record { p = p; l = l }

-- term/key/value@time
abbrev pub entry : ℕ → ℕ → ℕ → Time → Entry
entry term key value time = record { term = term; key = key; value = value; time = time }

abbrev pub x : Entry
x = entry 1 5 41 (at 1 0)

abbrev pub y : Entry
y = entry 1 5 40 (at 1 0)

abbrev pub z : Entry
z = entry 1 5 42 (at 2 0)

abbrev pub w : Entry
w = entry 1 6 7 (at 3 0)

abbrev pub u : Entry
u = entry 2 5 42 (at 2 0)

-- the log of these entries
abbrev pub log : List Entry → Log
log es = record { entries = es ++ replicate (log_limit - length es) zero_entry; len = length es }

-- a note: term/last term/length
abbrev pub note : ℕ → ℕ → ℕ → Note
note term last len = record { term = term; last = last; len = len }

-- a report: who:term/last term/length
abbrev pub report : ℕ → ℕ → ℕ → ℕ → Report
report who term last len = record { who = who; term = term; last = last; len = len }

abbrev pub f : Report
f = report 0 1 1 1

abbrev pub g : Report
g = report 1 1 1 2

abbrev pub h : Report
h = report 2 2 1 3

-- the queue of these reports
abbrev pub queue : List Report → Queue
queue rs = record { reports = rs ++ replicate (queue_limit - length rs) zero_report; len = length rs }

-- zero mail but for these first notes
abbrev pub noting : List Note → Mail
noting ns = with_notes zero_mail (ns ++ replicate (note_slots - length ns) zero_note)

-- zero mail but for these reports
abbrev pub holding : List Report → Mail
holding rs = with_queue zero_mail (queue rs)

-- a fresh server but for its term, role, commit point, wall clock, cluster time and log
abbrev pub server : ℕ → Bool → ℕ → ℕ → Time → List Entry → Server
server term primary commit wall time es =
    record {
      head = record { term = term; primary = primary; commit = commit; wall = wall; time = time };
      log = log es;
      mail = zero_mail;
      rows = rows_of (log es) commit;
    }

-- a fresh server but for its term and log
abbrev pub holder : ℕ → List Entry → Server
holder term es = server term false 0 1 zero_time es

-- a fresh server but for being a primary of term 1 with this log
abbrev pub leader : List Entry → Server
leader es = server 1 true 0 1 zero_time es

-- a secondary of term 1 with this log, whose commit point covers the first entry
abbrev pub covering : List Entry → Server
covering es = server 1 false 1 1 zero_time es

-- a fresh server but for its wall clock
abbrev pub clocked : ℕ → Server
clocked wall = server 0 false 0 wall zero_time []

-- a fresh server but for its cluster time
abbrev pub timed : Time → Server
timed time = server 0 false 0 1 time []

-- the record of these two
abbrev pub two : Server → Server → Cluster
two s t = record { count = 2; followers = 0; servers = s ∷ t ∷ replicate 5 zero_server }

abbrev pub F2 : Cluster
F2 = fresh_cluster 2 0
