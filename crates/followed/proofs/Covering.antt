-- The log that is kept holds the longest beginning that was ever covered. Assumes nothing.
use mathlib.Core.Path.{◌≡◌, refl, sym, ap, ◌∙◌}
use mathlib.Core.Bool.{Bool, true, false, cond}
use mathlib.Core.Logic.{⊎_elim}
use mathlib.Core.List.{List}
use Prim.Native.Nat.{ℕ, zero, suc, ◌+◌, ◌<◌, ◌≤◌, min}
use native.Mathlib.Numerals.{add-one}
use native.Mathlib.Omega.{arith}
use borrow.Author.Tests.{lt-ltb, le-ltb}
use lib.Dec.{ltb}
use lib.ListN.{length, take}
use lib.Seq.{take_all, take-length}
use Rattle.base.proofs.Facts.{lt_or_le}
use Rattle.server_log.specs.declared.Entry.{Entry}
use Rattle.server_log.specs.declared.Log.{Log}
use Rattle.server_log.specs.Logs.{live, length_of}
use Rattle.server_log.proofs.Live.{first_slots}
use Rattle.cluster.specs.declared.Server.{Server}
use Rattle.cluster.specs.declared.Cluster.{Cluster}
use Rattle.cluster.specs.Servers.{server_count, server_at}
use Rattle.reads.specs.MajorityRead.{covered}
use Rattle.histories.specs.Longest.{longer, longest_upto, longer_of}
use Rattle.followed.specs.Longest.{cut_log, longer_log, kept_upto, kept_log}

-- ---- the entries of what is kept

-- past the end there is nothing to take
take_min : {A : Type 0} (k : ℕ) (xs : List A) → take (min k (length xs)) xs ≡ take k xs
take_min k xs = ⊎_elim below above (lt_or_le k (length xs))
  where
    below : k < length xs → take (min k (length xs)) xs ≡ take k xs
    below h = let e : min k (length xs) ≡ k = omega arith in ap (λ (j : ℕ). take j xs) e

    above : length xs ≤ k → take (min k (length xs)) xs ≡ take k xs
    above h = let e : min k (length xs) ≡ length xs = omega arith in ap (λ (j : ℕ). take j xs) e ∙ take-length xs ∙ sym (take_all k xs h)

pub cut_live : (s : Server) → live (cut_log s) ≡ covered s
cut_live s =
    first_slots s.log (min s.head.commit (length_of s.log)) (omega arith) ∙ take_min s.head.commit (live s.log)

longer_live : (g h : Log) → live (longer_log g h) ≡ longer (live g) (live h)
unfolding longer_log
longer_live g h = go (ltb (length_of g) (length_of h))
  where
    go : (b : Bool) → live (cond b h g) ≡ cond b (live h) (live g)
    go true = refl
    go false = refl

upto_live : (g : Log) (c : Cluster) (n : ℕ) → live (kept_upto g c n) ≡ longest_upto (live g) c n
unfolding kept_upto longest_upto
upto_live g c zero = refl
upto_live g c (suc n) =
    longer_live (kept_upto g c n) (cut_log (server_at c n))
    ∙ ap (λ (es : List Entry). longer es (live (cut_log (server_at c n)))) (upto_live g c n)
    ∙ ap (longer (longest_upto (live g) c n)) (cut_live (server_at c n))

-- THE LAW, for any log and any record
pub kept_live : (g : Log) (c : Cluster) → live (kept_log g c) ≡ longer_of (live g) c
kept_live g c = upto_live g c (server_count c)

-- ---- for the code

pub cut_below : (s : Server) (n : ℕ) → n ≡ length_of s.log → s.head.commit < n → ◌≡◌ {A = Log} (record { entries = s.log.entries; len = s.head.commit }) (cut_log s)
cut_below s n e h = let k : s.head.commit ≡ min s.head.commit (length_of s.log) = omega arith in ap (λ (j : ℕ). record { entries = s.log.entries; len = j }) k

pub cut_above : (s : Server) (n : ℕ) → n ≡ length_of s.log → n ≤ s.head.commit → ◌≡◌ {A = Log} (record { entries = s.log.entries; len = n }) (cut_log s)
cut_above s n e h = let k : n ≡ min s.head.commit (length_of s.log) = omega arith in ap (λ (j : ℕ). record { entries = s.log.entries; len = j }) k

pub longer_second : (g h : Log) (m n : ℕ) → m ≡ length_of g → n ≡ length_of h → m < n → h ≡ longer_log g h
unfolding longer_log
longer_second g h m n e f l = rw (lt-ltb (length_of g) (length_of h) (omega arith))

pub longer_first : (g h : Log) (m n : ℕ) → m ≡ length_of g → n ≡ length_of h → n ≤ m → g ≡ longer_log g h
unfolding longer_log
longer_first g h m n e f l = rw (le-ltb (length_of g) (length_of h) (omega arith))

-- no server, one more, and all of them
pub kept_none : (k : Log) (c : Cluster) → k ≡ kept_upto k c 0
unfolding kept_upto
kept_none k c = refl

pub kept_more : (g h j k : Log) (c : Cluster) (n : ℕ) → g ≡ kept_upto k c n → h ≡ cut_log (server_at c n) → j ≡ longer_log g h → j ≡ kept_upto k c (n + 1)
unfolding kept_upto
kept_more g h j k c n e f d = rw (add-one n) (d ∙ ap (λ (x : Log). longer_log x h) e ∙ ap (longer_log (kept_upto k c n)) f)

pub kept_all : (g k : Log) (c : Cluster) (n : ℕ) → g ≡ kept_upto k c n → n ≡ server_count c → g ≡ kept_log k c
kept_all g k c n e h = e ∙ ap (kept_upto k c) h
