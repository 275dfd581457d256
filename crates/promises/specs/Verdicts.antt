-- What the program says of any two texts, the servers' step lines and the phones' records; and of honest phones' that all are accepted. Assumes
-- nothing.
use Rattle.std.specs.Prelude.{◌≡◌, ◌⊎◌, List, [], ◌∷◌, ◌++◌, map, ℕ, ◌≤◌, length}
use Rattle.cluster.specs.Servers.{zero_cluster, fresh_cluster}
use Rattle.lines.specs.Texts.{lines}
use Rattle.replay.specs.Texts.{answer_to, record_after}
use Rattle.histories.specs.declared.PhoneRecord.{PhoneRecord}
use Rattle.histories.specs.declared.Checked.TheVariants.{Accepted}
use Rattle.histories.specs.Checking.{most_records, check_of}
use Rattle.histories.specs.Longest.{columns_of}
use Rattle.phones.specs.Listed.{line_number, Reads, FirstBad}
use Rattle.verdicts.specs.declared.Verdict.TheVariants.{BadLine, NoStart, Judged}
use Rattle.verdicts.specs.Verdicts.{verdict_on}
use Rattle.promises.specs.Runs.{Event}
use Rattle.promises.specs.Texts.{a_line, Begins, NoneBegins, events_in}
use Rattle.promises.specs.Longest.{longest_covered}
use Rattle.promises.specs.Honest.{Made}

-- the last start line of a text that begins a cluster, and the lines after it
pub record SinceStart (text : List ℕ) : Type 0 where
  pub before : List (List ℕ)
  pub start : List ℕ
  pub after : List (List ℕ)
  pub split : lines text ≡ before ++ (start ∷ after)
  pub count : ℕ
  pub followers : ℕ
  pub begins : Begins (record_after zero_cluster before) start count followers
  pub none_after : NoneBegins (answer_to (record_after zero_cluster before) start).cluster (map a_line after)

-- the run since then
abbrev pub run_since : {text : List ℕ} → SinceStart text → List Event
run_since t = events_in (map a_line t.after)

pub record VerdictPromise (steps phones : List ℕ) : Type 0 where
  -- some start line is the last that begins a cluster, or none does; each line of the phones' is a record's, or one is the first that isn't
  pub some_run : SinceStart steps ⊎ NoneBegins zero_cluster (map a_line (lines steps))
  pub some_list : ((rs : List PhoneRecord) × Reads (lines phones) rs) ⊎ FirstBad (lines phones)
  -- a bad line comes first, by its number
  pub bad_line : (f : FirstBad (lines phones)) → verdict_on steps phones ≡ BadLine (line_number (length f.before))
  -- then nothing is checked without a start
  pub no_start : (rs : List PhoneRecord) → Reads (lines phones) rs → NoneBegins zero_cluster (map a_line (lines steps)) → verdict_on steps phones ≡ NoStart
  -- then the records are checked against the longest beginning that was covered since the last start
  pub checked : (t : SinceStart steps) (rs : List PhoneRecord) → Reads (lines phones) rs
      → verdict_on steps phones ≡ Judged (check_of rs (columns_of (longest_covered (fresh_cluster t.count t.followers) (run_since t))))
  -- and those that are made along that run, 256 at most, are accepted
  pub honest : (t : SinceStart steps) (rs : List PhoneRecord) → Reads (lines phones) rs → Made (fresh_cluster t.count t.followers) (run_since t) [] [] rs
      → length rs ≤ most_records → verdict_on steps phones ≡ Judged Accepted

-- for any two texts, however mangled
abbrev pub VerdictPromised : Type 0
VerdictPromised = (steps phones : List ℕ) → VerdictPromise steps phones
