-- There is a longest beginning that was ever covered: the moments of a run, what was covered at any of them, and which logs hold it.
-- Assumes nothing.
use Rattle.std.specs.Prelude.{◌≡◌, ◌≢◌, true, ℕ, ◌≤◌, ◌<◌, length}
use mathlib.Core.List.{List, [], ◌∷◌, Memᴰ as Among}
use Rattle.clock.specs.Times.{zero_time}
use Rattle.server_log.specs.declared.Entry.{Entry}
use Rattle.server_log.specs.Entries.{entry_at, is_beginning}
use Rattle.cluster.specs.declared.Cluster.{Cluster}
use Rattle.cluster.specs.Servers.{server_at}
use Rattle.wholes.specs.Starts.{Opening, fresh_of}
use Rattle.reads.specs.MajorityRead.{covered}
use Rattle.histories.specs.Committed.{Committed, entries_of, could_hold}
use Rattle.histories.specs.Longest.{longest_of, columns_of}
use Rattle.promises.specs.Runs.{Event, happens, Onward}

-- the records of a run, at each moment of it
abbrev pub records_of : Cluster → List Event → List Cluster
records_of c [] = c ∷ []
records_of c (e ∷ es) = c ∷ records_of (happens c e) es

-- the longest beginning that was covered at any of them
abbrev pub longest_covered : Cluster → List Event → List Entry
longest_covered c run = longest_of [] (records_of c run)

-- some server's commit point covered these entries at some moment of the run
pub record CoveredIn (c : Cluster) (run : List Event) (es : List Entry) : Type 0 where
  pub moment : Cluster
  pub of_the_run : Among moment (records_of c run)
  pub server : ℕ
  pub counted : server < c.count
  pub is : covered (server_at moment server) ≡ es

-- a committed log that is not refused, that begins with the entries es, and that has no entry at (0,0)
pub record HoldsAll (es : List Entry) (g : Committed) : Type 0 where
  pub could_hold : could_hold g ≡ true
  pub begins : is_beginning es (entries_of g) ≡ true
  pub none_at_zero : (k : ℕ) → 1 ≤ k → k ≤ length (entries_of g) → (entry_at (entries_of g) k).time ≢ zero_time

-- there is a longest beginning
pub record LongestPromise (c : Cluster) (run : List Event) : Type 0 where
  -- of two beginnings that were covered, at whatever moments, the one that is not longer is a beginning of the other
  pub comparable : (xs ys : List Entry) → CoveredIn c run xs → CoveredIn c run ys → length xs ≤ length ys → is_beginning xs ys ≡ true
  -- the longest was covered, and whatever was covered is a beginning of it
  pub was_covered : CoveredIn c run (longest_covered c run)
  pub begins_with : (es : List Entry) → CoveredIn c run es → is_beginning es (longest_covered c run) ≡ true
  -- its own entries are a log that holds it, so there always is one to check against
  pub own_log : HoldsAll (longest_covered c run) (columns_of (longest_covered c run))

abbrev pub LongestPromised : Type 0
LongestPromised =
    (z : Opening) (run : List Event) → Onward (fresh_of z) run → LongestPromise (fresh_of z) run
