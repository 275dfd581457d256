-- Demand 3: what a commit point covered once is there ever after, and refusal 9 is never given.
-- Assumes nothing.
use Rattle.std.specs.Prelude.{◌≡◌, ◌≢◌, Bool, true, false, List, ℕ, ◌≤◌, ◌<◌, length, take}
use Rattle.clock.specs.declared.Time.{Time}
use Rattle.clock.specs.Times.{is_before}
use Rattle.server_log.specs.declared.Entry.{Entry}
use Rattle.server_log.specs.Entries.{entry_at, is_beginning}
use Rattle.server_log.specs.Logs.{live}
use Rattle.cluster.specs.declared.Cluster.{Cluster}
use Rattle.cluster.specs.Servers.{server_at}
use Rattle.cluster.specs.Sets.{voters, voters_with, most_of}
use Rattle.steps.specs.declared.Step.{Step}
use Rattle.steps.specs.declared.Step.TheVariants.{MajorityRead}
use Rattle.steps.specs.declared.Answer.TheVariants.{Value, Refused}
use Rattle.steps.specs.declared.Refusal.TheVariants.{BelowCommitPoint}
use Rattle.rules.specs.Rules.{step_of}
use Rattle.promises.specs.Runs.{LeadsTo, FromFresh}

-- ---- what is covered

-- the entry at position k of server s, and its first k entries
abbrev pub entry_of : Cluster → ℕ → ℕ → Entry
entry_of c s k = entry_at (live (server_at c s).log) k

abbrev pub first_of : Cluster → ℕ → ℕ → List Entry
first_of c s k = take k (live (server_at c s).log)

-- server i holds the entries: they are a beginning of its log
abbrev pub holds : Cluster → List Entry → ℕ → Bool
holds c es i = is_beginning es (live (server_at c i).log)

-- v is the value of e, which is entry k, or of a newer entry for its key, among those that server q's commit point covers
pub record Shows (c : Cluster) (q : ℕ) (e : Entry) (k v : ℕ) : Type 0 where
  pub position : ℕ
  pub from : k ≤ position
  pub covered : position ≤ (server_at c q).head.commit
  pub key : (entry_of c q position).key ≡ e.key
  pub value : (entry_of c q position).value ≡ v
  pub same : position ≡ k → entry_of c q position ≡ e
  pub newer : k < position → is_before e.time (entry_of c q position).time ≡ true

-- the first k entries of server s in x, as they are in the later record y
pub record Kept (x y : Cluster) (s k : ℕ) : Type 0 where
  -- they are k entries
  pub whole : length (first_of x s k) ≡ k
  -- a majority of servers hold those same entries: of those that vote
  pub majority : most_of (voters y.count y.followers) (voters_with y.count y.followers (holds y (first_of x s k))) ≡ true
  -- so does every primary whose term is not below the one that s had in x
  pub primaries : (i : ℕ) → i < y.count → (server_at y i).head.primary ≡ true → (server_at x s).head.term ≤ (server_at y i).head.term
      → holds y (first_of x s k) i ≡ true
  -- and so does every server whose commit point is k or more
  pub commits : (i : ℕ) → i < y.count → k ≤ (server_at y i).head.commit → holds y (first_of x s k) i ≡ true
  -- a majority read of the kth entry's key that asks for at least that entry's time, if it is answered, shows that entry's value or
  -- that of a newer entry for the key
  pub reads : (q : ℕ) (asked : Time) (v : ℕ) (t : Time) → is_before asked (entry_of x s k).time ≡ false
      → (step_of y (MajorityRead q (entry_of x s k).key asked)).answer ≡ Value v t → Shows y q (entry_of x s k) k v

-- ---- demand 3

-- c is the record at some moment, d one onward from there, which may be c itself
pub record Demand3Promise (c d : Cluster) : Type 0 where
  -- there are still as many servers, and the same ones vote
  pub counted : d.count ≡ c.count
  pub follow : d.followers ≡ c.followers
  -- whatever a server's commit point covers at the moment is kept
  pub kept : (s k : ℕ) → s < c.count → 1 ≤ k → k ≤ (server_at c s).head.commit → Kept c d s k
  -- refusal 9 is given to no step
  pub never_9 : (s : Step) → (step_of d s).answer ≢ Refused BelowCommitPoint

abbrev pub Demand3Promised : Type 0
Demand3Promised = (c d : Cluster) → FromFresh c → LeadsTo c d → Demand3Promise c d
