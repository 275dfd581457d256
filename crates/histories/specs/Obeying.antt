-- 02's sentences about the phones' records, as facts: when a record obeys, and what each answer of the check says. Assumes nothing.
use Rattle.std.specs.Prelude.{◌≡◌, List, true, false, ◌⊎◌, ℕ, ◌<◌, ◌≤◌, length}
use Rattle.clock.specs.declared.Time.{Time}
use Rattle.clock.specs.Times.{limit, zero_time, is_before}
use Rattle.server_log.specs.declared.Entry.{Entry}
use Rattle.server_log.specs.Entries.{entry_at}
use Rattle.server_log.specs.Logs.{live}
use Rattle.server_log.specs.Order.{highest_key, in_order}
use Rattle.cluster.specs.declared.Cluster.{Cluster}
use Rattle.cluster.specs.Ranges.{Fits}
use Rattle.cluster.specs.Servers.{server_at}
use Rattle.cluster.specs.WellFormed.{well_formed}
use Rattle.steps.specs.declared.Refusal.{Refusal}
use Rattle.steps.specs.declared.Refusal.TheVariants.{IllFormed, OutOfRange}
use Rattle.histories.specs.declared.PhoneRecord.{PhoneRecord}
use Rattle.histories.specs.declared.Checked.{Checked}
use Rattle.histories.specs.declared.Checked.TheVariants.{Accepted, Breaks, Refused}
use Rattle.histories.specs.Committed.{Committed, committed_limit, entries_of}
use Rattle.histories.specs.Rules.{write_kind, read_kind}
use Rattle.histories.specs.Checking.{most_records, record_at}

-- ---- one record

-- the log has an entry at position n
pub record Stands (es : List Entry) (n : ℕ) : Type 0 where
  pub from_one : 1 ≤ n
  pub within : n ≤ length es

-- a write's key, value and time are those of the entry at its position
pub record WriteObeys (es : List Entry) (r : PhoneRecord) : Type 0 where
  pub position : Stands es r.position
  pub key : (entry_at es r.position).key ≡ r.key
  pub value : (entry_at es r.position).value ≡ r.value
  pub time : (entry_at es r.position).time ≡ r.time

-- some entry has the time
pub record SomeEntry (es : List Entry) (t : Time) : Type 0 where
  pub place : ℕ
  pub stands : Stands es place
  pub same : (entry_at es place).time ≡ t

-- an entry for the key k, not after the time t
pub record Readable (k : ℕ) (t : Time) (e : Entry) : Type 0 where
  pub key : e.key ≡ k
  pub not_after : is_before t e.time ≡ false

-- the last entry for the key not after the time, and the value v
pub record LastReadable (es : List Entry) (k : ℕ) (t : Time) (v : ℕ) : Type 0 where
  pub place : ℕ
  pub stands : Stands es place
  pub readable : Readable k t (entry_at es place)
  pub none_later : (m : ℕ) → place < m → m ≤ length es → Readable k t (entry_at es m) → ⊥
  pub value : (entry_at es place).value ≡ v

-- there is no entry for the key not after the time, and the value is 0
pub record NoValueFor (es : List Entry) (k : ℕ) (t : Time) (v : ℕ) : Type 0 where
  pub none : (m : ℕ) → Stands es m → Readable k t (entry_at es m) → ⊥
  pub zero : v ≡ 0

-- record i of the list, a read: its time is (0,0) or some entry's, its value is that of the last entry for the key not after that
-- time, or 0, and its time is not before that of an earlier record of its session
pub record ReadObeys (es : List Entry) (rs : List PhoneRecord) (i : ℕ) : Type 0 where
  pub time : ((record_at rs i).time ≡ zero_time) ⊎ SomeEntry es (record_at rs i).time
  pub value : LastReadable es (record_at rs i).key (record_at rs i).time (record_at rs i).value ⊎ NoValueFor es (record_at rs i).key (record_at rs i).time (record_at rs i).value
  pub order : (j : ℕ) → j < i → (record_at rs j).session ≡ (record_at rs i).session → is_before (record_at rs i).time (record_at rs j).time ≡ false

-- record i of the list obeys the rules
pub record Obeys (es : List Entry) (rs : List PhoneRecord) (i : ℕ) : Type 0 where
  pub write : (record_at rs i).kind ≡ write_kind → WriteObeys es (record_at rs i)
  pub read : (record_at rs i).kind ≡ read_kind → ReadObeys es rs i

-- ---- the log and the list

-- the five lists are of one length
pub record Together (g : Committed) : Type 0 where
  pub keys : length g.keys ≡ length g.terms
  pub values : length g.values ≡ length g.terms
  pub ps : length g.ps ≡ length g.terms
  pub ls : length g.ls ≡ length g.terms

-- a well-formed record could hold the log: its five lists are of one length, not too long, and its entries in order
pub record LogFits (g : Committed) : Type 0 where
  pub together : Together g
  pub short : length g.terms ≤ committed_limit
  pub order : in_order limit (entries_of g) ≡ true

-- a counted server of a well-formed record holds the entries
pub record HeldBy (es : List Entry) : Type 0 where
  pub cluster : Cluster
  pub fits : Fits cluster
  pub well_formed : well_formed cluster ≡ true
  pub server : ℕ
  pub counted : server < cluster.count
  pub same : live (server_at cluster server).log ≡ es

-- a record is of kind 6 or 11, and its key is not above 15
pub record InRange (r : PhoneRecord) : Type 0 where
  pub kind : (r.kind ≡ write_kind) ⊎ (r.kind ≡ read_kind)
  pub key : r.key ≤ highest_key

-- there are at most 256 records, each in range
pub record ListFits (rs : List PhoneRecord) : Type 0 where
  pub few : length rs ≤ most_records
  pub each : (i : ℕ) → i < length rs → InRange (record_at rs i)

-- ---- what an answer says

-- every record obeys the rules
pub record Accepts (g : Committed) (rs : List PhoneRecord) : Type 0 where
  pub log : LogFits g
  pub list : ListFits rs
  pub all : (i : ℕ) → i < length rs → Obeys (entries_of g) rs i

-- record n is the first that breaks a rule
pub record Names (g : Committed) (rs : List PhoneRecord) (n : ℕ) : Type 0 where
  pub log : LogFits g
  pub list : ListFits rs
  pub below : n < length rs
  pub breaks : Obeys (entries_of g) rs n → ⊥
  pub before : (i : ℕ) → i < n → Obeys (entries_of g) rs i

-- 2 is given for a log that no well-formed record could hold, and otherwise 3 for a list that isn't in range
abbrev pub Refuses : Committed → List PhoneRecord → Refusal → Type 0
Refuses g rs x = ((x ≡ IllFormed) × (LogFits g → ⊥)) ⊎ ((x ≡ OutOfRange) × LogFits g × (ListFits rs → ⊥))

abbrev pub CheckSays : Committed → List PhoneRecord → Checked → Type 0
CheckSays g rs Accepted = Accepts g rs
CheckSays g rs (Breaks n) = Names g rs n
CheckSays g rs (Refused x) = Refuses g rs x
