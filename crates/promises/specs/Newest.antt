-- The read that is sure to be newest: its value takes in every write that any commit point covered before the kind 14 step.
-- Assumes nothing.
use Rattle.std.specs.Prelude.{◌≡◌, ◌≢◌, true, ℕ, ◌≤◌, ◌<◌, length}
use Rattle.clock.specs.declared.Time.{Time}
use Rattle.clock.specs.Times.{is_before}
use Rattle.server_log.specs.Entries.{latest_value, is_beginning}
use Rattle.cluster.specs.declared.Cluster.{Cluster}
use Rattle.cluster.specs.Servers.{server_at}
use Rattle.steps.specs.declared.Step.{Step}
use Rattle.steps.specs.declared.Step.TheVariants.{WritesNothing, NewestRead}
use Rattle.steps.specs.declared.Answer.{Answer}
use Rattle.steps.specs.declared.Answer.TheVariants.{Entry, Value}
use Rattle.rules.specs.Rules.{step_of}
use Rattle.promises.specs.Runs.{LeadsTo, FromFresh}
use Rattle.promises.specs.Demand3.{entry_of, first_of}

-- ---- what a newest read takes in

-- a newest read at a server: the key, position and term that it is asked with, and the value and time that it is answered with
pub record Reading : Type 0 where
  pub server : ℕ
  pub key : ℕ
  pub position : ℕ
  pub term : ℕ
  pub value : ℕ
  pub time : Time

-- a reading as a step, and its answer
abbrev pub reading_step : Reading → Step
reading_step r = NewestRead r.server r.key r.position r.term

abbrev pub reading_answer : Reading → Answer
reading_answer r = Value r.value r.time

-- server i has no entry for the key after position j and up to position m
abbrev pub NoneFor : Cluster → ℕ → ℕ → ℕ → ℕ → Type 0
NoneFor c i key j m = (p : ℕ) → j < p → p ≤ m → (entry_of c i p).key ≢ key

-- the value of a reading in y, beside the first k entries that server s had in w
pub data NewestValue (w y : Cluster) (s k : ℕ) (r : Reading) : Type 0 where
  -- it is that of the last of them for the key, or 0 if none is for it, and no newer entry that is read is for it
  last_of_those : latest_value r.key (first_of w s k) ≡ r.value → NoneFor y r.server r.key k r.position → NewestValue w y s k r
  -- or it is that of an entry for the key that is newer than all of them
  of_a_newer : (p : ℕ) → k < p → p ≤ r.position → (entry_of y r.server p).key ≡ r.key → (entry_of y r.server p).value ≡ r.value
      → is_before (entry_of w s k).time (entry_of y r.server p).time ≡ true → NewestValue w y s k r

-- a reading in y takes in the first k entries that server s had in w
pub record TakenIn (w y : Cluster) (s k : ℕ) (r : Reading) : Type 0 where
  -- they are k entries, and with more after them they are a beginning of the entries that are read
  pub whole : length (first_of w s k) ≡ k
  pub below : k < r.position
  pub beginning : is_beginning (first_of w s k) (first_of y r.server r.position) ≡ true
  -- so the value is that of the last entry for the key among them, or that of a newer entry for the key
  pub newest : NewestValue w y s k r
  -- and it is 0 only where there is neither
  pub none : r.value ≡ 0 → NoneFor w s r.key 0 k × NoneFor y r.server r.key k r.position

-- ---- what is promised

-- w is the record at the moment, and in y the reading is answered; in between, a was asked to write nothing
pub record NewestPromise (w y : Cluster) (a : ℕ) (r : Reading) : Type 0 where
  -- the server that answers is the one that was asked
  pub same_server : r.server ≡ a
  -- whatever a server's commit point covers at the moment is taken in
  pub taken_in : (s k : ℕ) → s < w.count → 1 ≤ k → k ≤ (server_at w s).head.commit → TakenIn w y s k r

-- from a fresh cluster to w, onward to x, where server a is asked to write nothing and answers with a position and a term; onward from there to
-- y, where a newest read is asked for with these, and answered
abbrev pub NewestPromised : Type 0
NewestPromised =
    (w x y : Cluster) (a : ℕ) (r : Reading) (t : Time) → FromFresh w → LeadsTo w x
    → (step_of x (WritesNothing a)).answer ≡ Entry r.position r.term t → LeadsTo (step_of x (WritesNothing a)).cluster y
    → (step_of y (reading_step r)).answer ≡ reading_answer r → NewestPromise w y a r
