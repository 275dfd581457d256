-- What a text decodes to, frame by frame, with nothing checked. Nobody has to believe this: loading takes the record only where it saves
-- to that very text in the text's own edition. Assumes nothing.
use Rattle.std.specs.Prelude.{cond, ◌&&◌, List, [], ◌∷◌, map, ℕ, zero, suc, ◌+◌, ◌-◌, eqb, ltb, leb, replicate, Option, Some, None}
use Rattle.hex_text.specs.Lines.{bytes_of, over}
use Rattle.words.specs.Words.{byte_at}
use Rattle.server_log.specs.declared.Entry.{Entry}
use Rattle.server_log.specs.Logs.{empty_log, appended}
use Rattle.server_log.specs.Rows.{zero_rows}
use Rattle.mail.specs.declared.Report.{Report}
use Rattle.mail.specs.Mails.{zero_mail, with_source, noted, received}
use Rattle.cluster.specs.declared.Head.{Head}
use Rattle.cluster.specs.declared.Server.{Server}
use Rattle.cluster.specs.declared.Cluster.{Cluster}
use Rattle.cluster.specs.Servers.{most_servers, with_log, with_mail, server_at, zero_cluster, with_server, rowed_all}
use Rattle.lines.specs.Texts.{lines}
use Rattle.saved.specs.declared.Sort.TheVariants as S
use Rattle.saved.specs.Layout.{Widths, sort_number, numbers_in, said_at}
use Rattle.saved.specs.Written.{most_bytes}
use Rattle.loads.specs.declared.Draft.{Draft}

-- ---- by the numbers of a frame

abbrev pub head_said : List ℕ → Head
head_said ns =
    record {
      term = byte_at ns 5;
      primary = eqb (byte_at ns 4) 1;
      commit = byte_at ns 6;
      wall = byte_at ns 7;
      time = record { p = byte_at ns 8; l = byte_at ns 9 };
    }

-- the source whose number it is
abbrev pub source_said : ℕ → Option ℕ
source_said zero = None
source_said (suc n) = Some n

-- a server frame tells of no entries, notes and reports yet
abbrev pub server_said : List ℕ → Server
server_said ns = record { head = head_said ns; log = empty_log; mail = with_source zero_mail (source_said (byte_at ns 3)); rows = zero_rows }

abbrev pub entry_said : List ℕ → Entry
entry_said ns = record { term = byte_at ns 0; key = byte_at ns 1; value = byte_at ns 2; time = record { p = byte_at ns 3; l = byte_at ns 4 } }

-- a note's frame says what a report's does
abbrev pub report_said : List ℕ → Report
report_said ns = record { who = byte_at ns 0; term = byte_at ns 1; last = byte_at ns 2; len = byte_at ns 3 }

-- ---- one frame after the other

abbrev pub counting : Draft → ℕ → ℕ → Draft
counting d n f = record { cluster = record { count = n; followers = f; servers = d.cluster.servers }; begun = d.begun }

-- the next server is begun, where there is a place for it
unfoldable pub beginning : Draft → Server → Draft
beginning d s = cond (ltb d.begun most_servers) (record { cluster = with_server d.cluster d.begun s; begun = d.begun + 1 }) d

-- a frame's bytes in the room of the longest, zeros after them
abbrev pub roomy : List ℕ → List ℕ
roomy bs = over bs (replicate most_bytes 0)

-- nothing is known and no server begun
abbrev pub fresh_draft : Draft
fresh_draft = record { cluster = zero_cluster; begun = 0 }

module _ (w : Widths) where
  -- a server with what an entry's, a note's or a report's frame tells
  unfoldable pub told_by : Server → List ℕ → Server
  told_by s bs =
      cond (eqb (byte_at bs 0) (sort_number S.Entry)) (with_log s (appended s.log (entry_said (numbers_in w S.Entry bs))))
      (cond (eqb (byte_at bs 0) (sort_number S.Note)) (with_mail s (noted s.mail (report_said (numbers_in w S.Note bs))))
      (cond (eqb (byte_at bs 0) (sort_number S.Report)) (with_mail s (received s.mail (report_said (numbers_in w S.Report bs)))) s))

  -- the server that was begun last is told more
  unfoldable pub telling : Draft → List ℕ → Draft
  telling d bs =
      cond (leb 1 d.begun && leb d.begun most_servers)
      (record { cluster = with_server d.cluster (d.begun - 1) (told_by (server_at d.cluster (d.begun - 1)) bs); begun = d.begun }) d

  unfoldable pub with_frame : Draft → List ℕ → Draft
  with_frame d bs =
      cond (eqb (byte_at bs 0) (sort_number S.First)) (counting d (said_at w S.First bs 1) (said_at w S.First bs 2))
      (cond (eqb (byte_at bs 0) (sort_number S.Server)) (beginning d (server_said (numbers_in w S.Server bs))) (telling d bs))

  abbrev pub decoded_by : Draft → List (List ℕ) → Draft
  decoded_by d [] = d
  decoded_by d (f ∷ fs) = decoded_by (with_frame d (roomy f)) fs

  unfoldable pub drafted_in : List ℕ → Cluster
  drafted_in text = (decoded_by fresh_draft (map bytes_of (lines text))).cluster

  -- no frame tells of rows: they are worked out afresh
  unfoldable pub decoded_in : List ℕ → Cluster
  decoded_in text = rowed_all (drafted_in text)
