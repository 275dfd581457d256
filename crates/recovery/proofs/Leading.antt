-- What stays from the write on: the chosen server is the one primary of the highest term, and holds the same entries. Assumes nothing.
use mathlib.Core.Path.{◌≡◌}
use mathlib.Core.Logic.{◌≢◌}
use mathlib.Core.Bool.{true, false}
use mathlib.Core.List.{List}
use Prim.Native.Nat.{ℕ, suc, ◌≤◌, ◌<◌}
use lib.ListN.{length}
use Rattle.clock.specs.Times.{limit}
use Rattle.server_log.specs.declared.Entry.{Entry}
use Rattle.server_log.specs.Entries.{last_term}
use Rattle.mail.specs.declared.Report.{Report}
use Rattle.mail.specs.declared.Note.{Note}
use Rattle.cluster.specs.declared.Cluster.{Cluster}
use Rattle.cluster.specs.Servers.{server_at}
use Rattle.recovery.specs.Promise.{held_by}
use Rattle.recovery.proofs.Standing.{Stands}

-- server a of m + 1, its term t and its entries es: the last has that term
pub record Task (m a t : ℕ) (es : List Entry) : Type 0 where
  pub below : a < suc m
  pub from_one : 1 ≤ t
  pub last : last_term es ≡ t
  pub some : 1 ≤ length es
  pub few : length es ≤ limit

pub record Leads (m f : ℕ) (a t : ℕ) (es : List Entry) (c : Cluster) : Type 0 where
  pub stands : Stands (suc m) f c
  pub primary : (server_at c a).head.primary ≡ true
  pub held : held_by c a ≡ es
  pub own : (server_at c a).head.term ≡ t
  pub terms : (i : ℕ) → i < suc m → (server_at c i).head.term ≤ t
  pub secondary : (i : ℕ) → i < suc m → i ≢ a → (server_at c i).head.primary ≡ false

-- the report of server i, which holds them too
abbrev pub report_from : ℕ → ℕ → List Entry → Report
report_from i t es = record { who = i; term = t; last = t; len = length es }

-- and what it says, as a note
abbrev pub note_from : ℕ → List Entry → Note
note_from t es = record { term = t; last = t; len = length es }

-- entries as many as es, of the same last term
pub record Level (t : ℕ) (es xs : List Entry) : Type 0 where
  pub len : length xs ≡ length es
  pub last : last_term xs ≡ t
