-- An honest phone is never accused: the records that are made along a run are accepted, against any committed log that holds the longest
-- beginning that was ever covered.
-- Assumes nothing.
use Rattle.std.specs.Prelude.{◌≡◌, false, ℕ, ◌≤◌, length}
use mathlib.Core.List.{List, [], ◌∷◌, ◌++◌, Memᴰ as Among}
use Rattle.clock.specs.declared.Time.{Time}
use Rattle.clock.specs.Times.{is_before}
use Rattle.cluster.specs.declared.Cluster.{Cluster}
use Rattle.wholes.specs.Starts.{Opening, fresh_of}
use Rattle.steps.specs.declared.Step.TheVariants.{Writes, MajorityRead, Acknowledged}
use Rattle.steps.specs.declared.Answer.TheVariants as A
use Rattle.rules.specs.Rules.{step_of}
use Rattle.histories.specs.declared.PhoneRecord.{PhoneRecord}
use Rattle.histories.specs.declared.Checked.TheVariants.{Accepted}
use Rattle.histories.specs.Committed.{Committed}
use Rattle.histories.specs.Rules.{write_kind, read_kind}
use Rattle.histories.specs.Checking.{most_records, check_of}
use Rattle.promises.specs.Runs.{Event, comes, happens, Onward}
use Rattle.promises.specs.Longest.{longest_covered, HoldsAll}

-- ---- what phones record

-- a write that was answered: its key and value, and the position, term and time of the answer
pub record AnsweredWrite : Type 0 where
  pub key : ℕ
  pub value : ℕ
  pub position : ℕ
  pub term : ℕ
  pub time : Time

abbrev pub record_of_write : ℕ → AnsweredWrite → PhoneRecord
record_of_write session w =
    record { session = session; kind = write_kind; key = w.key; value = w.value; position = w.position; time = w.time }

-- a read's position says nothing
abbrev pub record_of_read : (session key value position : ℕ) → Time → PhoneRecord
record_of_read session key value position time =
    record { session = session; kind = read_kind; key = key; value = value; position = position; time = time }

-- the session asks with the latest time that it has seen, or a later one: it is not before that of any record that the session has
abbrev pub AsksLatest : List PhoneRecord → ℕ → Time → Type 0
AsksLatest rs session asked = (e : PhoneRecord) → Among e rs → e.session ≡ session → is_before asked e.time ≡ false

-- along the events from c on, after the writes ws were answered and the records rs were made, the records out can be made in the end. A record
-- is made before its step is taken, so which answered steps are recorded, how often, and under which session is free
pub data Made : Cluster → List Event → List AnsweredWrite → List PhoneRecord → List PhoneRecord → Type 0 where
  -- no event is left
  ends : {c : Cluster} {ws : List AnsweredWrite} {rs : List PhoneRecord} → Made c [] ws rs rs
  -- the next event happens, whatever it is
  goes : {c : Cluster} {es : List Event} {ws : List AnsweredWrite} {rs out : List PhoneRecord} (e : Event) → Made (happens c e) es ws rs out
      → Made c (e ∷ es) ws rs out
  -- the next step is a write that is answered, and is kept in mind
  writes : {c : Cluster} {es : List Event} {ws : List AnsweredWrite} {rs out : List PhoneRecord} (a : ℕ) (client : Time) (w : AnsweredWrite)
      → (step_of c (Writes a w.key w.value client)).answer ≡ A.Entry w.position w.term w.time
      → Made (step_of c (Writes a w.key w.value client)).cluster es (w ∷ ws) rs out
      → Made c (comes (Writes a w.key w.value client) ∷ es) ws rs out
  -- the next step is a majority read that is answered, by a session that asks with its latest time: a record of it is made
  reads : {c : Cluster} {es : List Event} {ws : List AnsweredWrite} {rs out : List PhoneRecord} (q key : ℕ) (asked : Time) (session value position : ℕ)
      (time : Time) → (step_of c (MajorityRead q key asked)).answer ≡ A.Value value time → AsksLatest rs session asked
      → Made c (comes (MajorityRead q key asked) ∷ es) ws (rs ++ (record_of_read session key value position time ∷ [])) out
      → Made c (comes (MajorityRead q key asked) ∷ es) ws rs out
  -- the next step asks any server, with count 0, about the position and term of a write that was answered, and is answered: a record of that
  -- write is made, with the position and time of its own answer
  acknowledges : {c : Cluster} {es : List Event} {ws : List AnsweredWrite} {rs out : List PhoneRecord} (q session : ℕ) (w : AnsweredWrite) {n term : ℕ}
      {time : Time} → Among w ws → (step_of c (Acknowledged q 0 w.position w.term)).answer ≡ A.Entry n term time
      → Made c (comes (Acknowledged q 0 w.position w.term) ∷ es) ws (rs ++ (record_of_write session w ∷ [])) out
      → Made c (comes (Acknowledged q 0 w.position w.term) ∷ es) ws rs out

-- ---- what is promised

abbrev pub HonestPromised : Type 0
HonestPromised =
    (z : Opening) (run : List Event) (rs : List PhoneRecord) (g : Committed) → Onward (fresh_of z) run
    → Made (fresh_of z) run [] [] rs → length rs ≤ most_records → HoldsAll (longest_covered (fresh_of z) run) g → check_of rs g ≡ Accepted
