-- The steps of 01 and 02 that are not refused, each as what safety needs to know of the view before it and the view after it.
-- Assumes nothing.
use Rattle.std.specs.Prelude.{◌≡◌, Bool, true, false, ◌⊎◌, ℕ, suc, ◌≤◌, ◌<◌, max}
use Rattle.safety.specs.Quorum.{Quorums}
use Rattle.safety.specs.Cluster.{EntrySeen, root, Agree, ServerSeen, Seen, last_term_seen, applied_time_seen, NotBehind, Others}
use Rattle.safety.specs.Told.{Place, Told, ClusterSeen, Said, Tells}

-- the log of s is still that of r
pub record SameLog (r s : ServerSeen) : Type 0 where
  pub len : s.len ≡ r.len
  pub log : s.log ≡ r.log

-- a member of an election: r before, s after, where term t is won
pub record Voted (r s : ServerSeen) (t : ℕ) : Type 0 where
  pub keeps : SameLog r s
  pub commit : s.commit ≡ r.commit
  pub mark : s.mark ≡ r.mark
  pub term : s.term ≡ t

-- kind 1: the members elect a; that a is one of them is not needed
pub record Elects (𝓠 : Quorums) (v v' : Seen) (a : ℕ) (members : ℕ → Bool) : Type 0 where
  pub quorum : 𝓠.Most (λ i. members i ≡ true)
  pub low : (i : ℕ) → members i ≡ true → (v i).term ≤ (v a).term
  pub ahead : (i : ℕ) → members i ≡ true → NotBehind (v a) (v i)
  pub voted : (i : ℕ) → members i ≡ true → Voted (v i) (v' i) (suc (v a).term)
  pub winner : (i : ℕ) → members i ≡ true → (v' i).primary ≡ true → i ≡ a
  pub others : (i : ℕ) → members i ≡ false → v' i ≡ v i

-- kinds 6 and 14: a writes e
pub record Writes (v v' : Seen) (a : ℕ) (e : EntrySeen) : Type 0 where
  pub primary : (v a).primary ≡ true
  pub current : e.term ≡ (v a).term
  pub later : applied_time_seen (v a) < e.time
  pub len : (v' a).len ≡ suc (v a).len
  pub kept : Agree (v a).len (v' a).log (v a).log
  pub entry : (v' a).log (suc (v a).len) ≡ e
  pub term : (v' a).term ≡ (v a).term
  pub role : (v' a).primary ≡ (v a).primary
  pub commit : (v' a).commit ≡ (v a).commit
  pub mark : (v' a).mark ≡ (v a).mark
  pub others : Others v v' a

-- kinds 4 and 5: when s may take r's log; the root stands for the last entry of an empty log. A log that ends before r's mark may be any
pub data Copies (s r : ServerSeen) : Type 0 where
  pulls : s.len ≤ r.len → s.log s.len ≡ r.log s.len → Copies s r
  rolls_back : last_term_seen s < last_term_seen r → Copies s r
  takes_over : s.len < r.mark → Copies s r

-- kinds 4 and 5: a takes b's log, which is what both rows leave
pub record Takes (v v' : Seen) (a b : ℕ) : Type 0 where
  pub may : Copies (v a) (v b)
  pub secondary : (v a).primary ≡ false
  pub len : (v' a).len ≡ (v b).len
  pub log : Agree (v b).len (v' a).log (v b).log
  pub term : (v' a).term ≡ max (v a).term (v b).term
  pub role : (v' a).primary ≡ (v a).primary
  pub commit : (v' a).commit ≡ max (v a).commit (v b).commit
  -- its own, or b's where it takes over the dropped beginning too
  pub mark : ((v' a).mark ≡ (v a).mark) ⊎ ((v' a).mark ≡ (v b).mark)
  pub others : Others v v' a

-- where server i's commit point may go without a count: it stays, goes back to the mark at a restart, or up to b's, which is heard, with an
-- equal entry there
pub data Settles (v : Seen) (i k : ℕ) : Type 0 where
  stays : k ≡ (v i).commit → Settles v i k
  restarts : k ≡ (v i).mark → Settles v i k
  hears : (b : ℕ) → k ≡ (v b).commit → (v i).commit ≤ k → k ≤ (v i).len → (v i).log k ≡ (v b).log k → Settles v i k

-- where its mark may go: it stays, or up to an entry that the commit point covers, of the term of the one at the commit point (kind 17)
pub data Marks (v : Seen) (i k : ℕ) : Type 0 where
  unmoved : k ≡ (v i).mark → Marks v i k
  drops : (v i).mark ≤ k → k ≤ (v i).commit → ((v i).log k).term ≡ ((v i).log (v i).commit).term → Marks v i k

-- s is r afterwards: its log is kept, and where its term has risen it is no primary
pub record Rests (r s : ServerSeen) : Type 0 where
  pub keeps : SameLog r s
  pub raised : r.term ≤ s.term
  pub role : s.primary ≡ true → r.primary ≡ true
  pub unraised : s.primary ≡ true → s.term ≡ r.term

-- kinds 2, 3, 9 and 17, and those that the view does not show: s is server i afterwards
pub record Quiet (v : Seen) (i : ℕ) (s : ServerSeen) : Type 0 where
  pub rests : Rests (v i) s
  pub settles : Settles v i s.commit
  pub marks : Marks v i s.mark

-- kind 7: server i counts for position n with a, as a itself or by what was said of it
pub data Counts (m : Told) (v : Seen) (a n i : ℕ) : Type 0 where
  itself : i ≡ a → Counts m v a n i
  reported : Said m i (v a).term n → Counts m v a n i

-- kind 7: a's commit point goes up to n, which passes; no other server is looked into
pub record Passes (𝓠 : Quorums) (m : Told) (v v' : Seen) (a n : ℕ) : Type 0 where
  pub within : n ≤ (v a).len
  pub above : (v a).commit ≤ n
  pub current : ((v a).log n).term ≡ (v a).term
  pub quorum : 𝓠.Most (Counts m v a n)
  pub keeps : SameLog (v a) (v' a)
  pub term : (v' a).term ≡ (v a).term
  pub role : (v' a).primary ≡ (v a).primary
  pub commit : (v' a).commit ≡ n
  pub mark : (v' a).mark ≡ (v a).mark
  pub others : Others v v' a

-- what a step does to the servers, with all that was told before it
pub data Goes (𝓠 : Quorums) (m : Told) (v v' : Seen) : Type 0 where
  elects : (a : ℕ) (members : ℕ → Bool) → Elects 𝓠 v v' a members → Goes 𝓠 m v v'
  writes : (a : ℕ) (e : EntrySeen) → Writes v v' a e → Goes 𝓠 m v v'
  takes : (a b : ℕ) → Takes v v' a b → Goes 𝓠 m v v'
  quiet : ((i : ℕ) → Quiet v i (v' i)) → Goes 𝓠 m v v'
  passes : (a n : ℕ) → Passes 𝓠 m v v' a n → Goes 𝓠 m v v'

-- a step: what it does to the servers, and to what was told, which may be told on, noted or lost anyhow
pub record StepSeen (𝓠 : Quorums) (x y : ClusterSeen) : Type 0 where
  pub goes : Goes 𝓠 x.told x.servers y.servers
  pub tells : (p : Place) → Tells x.told y.servers (y.told p)

-- the servers of a fresh cluster
pub record FreshServers (v : Seen) : Type 0 where
  pub len : (i : ℕ) → (v i).len ≡ 0
  pub log : (i : ℕ) → (v i).log 0 ≡ root
  pub term : (i : ℕ) → (v i).term ≡ 0
  pub role : (i : ℕ) → (v i).primary ≡ false
  pub commit : (i : ℕ) → (v i).commit ≡ 0
  pub mark : (i : ℕ) → (v i).mark ≡ 0

-- a fresh cluster: nobody was told anything
pub record Fresh (x : ClusterSeen) : Type 0 where
  pub servers : FreshServers x.servers
  pub told : (p : Place) → (x.told p).len ≡ 0

-- any steps in any order
pub data Walk (𝓠 : Quorums) : ClusterSeen → ClusterSeen → Type 0 where
  stop : {x : ClusterSeen} → Walk 𝓠 x x
  go : {x y z : ClusterSeen} → Walk 𝓠 x y → StepSeen 𝓠 y z → Walk 𝓠 x z
