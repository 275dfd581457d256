-- The longest beginning that commit points have covered, over records in turn, and as a log to check against. Assumes nothing.
use Rattle.std.specs.Prelude.{List, [], ◌∷◌, map, cond, ℕ, zero, suc, ltb, length}
use Rattle.server_log.specs.declared.Entry.{Entry}
use Rattle.cluster.specs.declared.Cluster.{Cluster}
use Rattle.cluster.specs.Servers.{server_count, server_at}
use Rattle.reads.specs.MajorityRead.{covered}
use Rattle.histories.specs.Committed.{Committed, lent}

-- the longer of both, the first where neither is
abbrev pub longer : List Entry → List Entry → List Entry
longer xs ys = cond (ltb (length xs) (length ys)) ys xs

-- the longest of es and of what each of the first n servers covers
unfoldable pub longest_upto : List Entry → Cluster → ℕ → List Entry
longest_upto es c zero = es
longest_upto es c (suc n) = longer (longest_upto es c n) (covered (server_at c n))

-- one record more: each of its servers counts
abbrev pub longer_of : List Entry → Cluster → List Entry
longer_of es c = longest_upto es c (server_count c)

-- records in turn; with none covered so far, es is empty
abbrev pub longest_of : List Entry → List Cluster → List Entry
longest_of es [] = es
longest_of es (c ∷ cs) = longest_of (longer_of es c) cs

-- entries as a committed log, one list a field
abbrev pub columns_of : List Entry → Committed
columns_of es =
    lent (map (λ (e : Entry). e.term) es) (map (λ (e : Entry). e.key) es) (map (λ (e : Entry). e.value) es)
    (map (λ (e : Entry). e.time.p) es) (map (λ (e : Entry). e.time.l) es)
