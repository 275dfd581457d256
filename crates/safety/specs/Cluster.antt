-- The cluster as the safety theory sees it: a server for every number, each with its log, term, role, commit point and mark.
-- Assumes nothing.
use Rattle.std.specs.Prelude.{◌≡◌, ◌≢◌, Bool, ℕ, ◌≤◌}

-- a time is one number here (`Time.stamp`)
pub record EntrySeen : Type 0 where
  pub term : ℕ
  pub key : ℕ
  pub value : ℕ
  pub time : ℕ

-- what stands at position 0 of every log, so that last term, applied time and commit time have no empty case
abbrev pub root : EntrySeen
root = record { term = 0; key = 0; value = 0; time = 0 }

-- a log by its positions, which count from 1
abbrev pub LogSeen : Type 0
LogSeen = ℕ → EntrySeen

-- the first n entries are the same
abbrev pub Agree : ℕ → LogSeen → LogSeen → Type 0
Agree n L M = (k : ℕ) → k ≤ n → L k ≡ M k

pub record ServerSeen : Type 0 where
  pub len : ℕ
  pub log : LogSeen
  pub term : ℕ
  pub primary : Bool
  pub commit : ℕ
  -- the dropped position: entries up to it may be gone, and a restart goes back to it
  pub mark : ℕ

-- a view of the record: servers past the count are zero, and no quorum asks for them
abbrev pub Seen : Type 0
Seen = ℕ → ServerSeen

abbrev pub last_term_seen : ServerSeen → ℕ
last_term_seen s = (s.log s.len).term

abbrev pub applied_time_seen : ServerSeen → ℕ
applied_time_seen s = (s.log s.len).time

abbrev pub commit_time_seen : ServerSeen → ℕ
commit_time_seen s = (s.log s.commit).time

-- server s holds the first n entries of L
pub record Holds (n : ℕ) (L : LogSeen) (s : ServerSeen) : Type 0 where
  pub long : n ≤ s.len
  pub same : Agree n s.log L

-- (t, n) is not after (u, l): a log with last term u and length l is not behind one with t and n
pub record Upto (t n u l : ℕ) : Type 0 where
  pub le : t ≤ u
  pub eq : u ≤ t → n ≤ l

-- s is not behind r: last term greater, or equal with a length not smaller
abbrev pub NotBehind : ServerSeen → ServerSeen → Type 0
NotBehind s r = Upto (last_term_seen r) r.len (last_term_seen s) s.len

-- every server but a is unchanged
abbrev pub Others : Seen → Seen → ℕ → Type 0
Others v v' a = (i : ℕ) → i ≢ a → v' i ≡ v i
