-- The verdict on what phones saw, by the run that was followed and the list that was read. Assumes nothing.
use Rattle.std.specs.Prelude.{List, map, cond, ℕ, eqb, take, Some, None}
use Rattle.server_log.specs.declared.Entry.{Entry}
use Rattle.server_log.specs.declared.Log.{Log}
use Rattle.server_log.specs.Logs.{live}
use Rattle.histories.specs.Committed.{Committed, lent}
use Rattle.histories.specs.Checking.{check_of}
use Rattle.histories.specs.Longest.{columns_of}
use Rattle.followed.specs.declared.Run.{Run}
use Rattle.followed.specs.Follow.{run_followed}
use Rattle.phones.specs.declared.Listed.{Listed}
use Rattle.phones.specs.Listed.{records_kept, list_of}
use Rattle.verdicts.specs.declared.Spread.{Spread}
use Rattle.verdicts.specs.declared.Verdict.{Verdict}
use Rattle.verdicts.specs.declared.Verdict.TheVariants.{BadLine, NoStart, Judged}

-- every slot of the log, an array a field
abbrev pub all_columns : Log → Spread
all_columns g =
    record {
      terms = map (λ (e : Entry). e.term) g.entries;
      keys = map (λ (e : Entry). e.key) g.entries;
      values = map (λ (e : Entry). e.value) g.entries;
      ps = map (λ (e : Entry). e.time.p) g.entries;
      ls = map (λ (e : Entry). e.time.l) g.entries;
    }

-- the first n slots
abbrev pub first_columns : ℕ → Spread → Committed
first_columns n c = lent (take n c.terms) (take n c.keys) (take n c.values) (take n c.ps) (take n c.ls)

-- a bad line comes first, then a run without a start, then the check
unfoldable pub verdict_of : Run → Listed → Verdict
verdict_of run s =
    elim s.bad [ Some n ↦ BadLine n | None ↦ cond (eqb run.starts 0) NoStart (Judged (check_of (records_kept s) (columns_of (live run.longest)))) ]

-- the verdict on two texts: the steps, and the phones' records
abbrev pub verdict_on : List ℕ → List ℕ → Verdict
verdict_on steps phones = verdict_of (run_followed steps) (list_of phones)
