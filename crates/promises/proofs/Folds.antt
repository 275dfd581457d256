-- The longest beginning over records in turn: none that is covered is longer, and it is one of them.
-- Assumes nothing.
use mathlib.Core.Path.{◌≡◌, refl}
use mathlib.Core.Bool.{Bool, true, false, cond}
use mathlib.Core.Logic.{◌⊎◌, inl, inr}
use mathlib.Core.List.Memᴰ
use mathlib.Core.List.{List, [], ◌∷◌, Memᴰ as Among}
use Prim.Native.Nat.{ℕ, zero, suc, ◌≤◌, ◌<◌}
use native.Mathlib.Nat.{eq-or-lt_of_le, le_of_suc-le-suc}
use native.Mathlib.Omega.{arith}
use lib.Dec.{ltb}
use lib.ListN.{length}
use borrow.Author.Tests.{ltb-true, ltb-false, le-ltb}
use Rattle.server_log.specs.declared.Entry.{Entry}
use Rattle.cluster.specs.declared.Cluster.{Cluster}
use Rattle.cluster.specs.Servers.{server_count, server_at}
use Rattle.reads.specs.MajorityRead.{covered}
use Rattle.histories.specs.Longest.{longer, longest_upto, longer_of, longest_of}

-- ---- two lists

module _ (xs ys : List Entry) where
  -- neither is longer than the longer
  longer_both : (length xs ≤ length (longer xs ys)) × (length ys ≤ length (longer xs ys))
  longer_both = go (ltb (length xs) (length ys)) refl
    where
      go : (b : Bool) → ltb (length xs) (length ys) ≡ b → (length xs ≤ length (cond b ys xs)) × (length ys ≤ length (cond b ys xs))
      go true e = let l = ltb-true (length xs) (length ys) e in (omega arith, omega arith)
      go false e = let l = ltb-false (length xs) (length ys) e in (omega arith, omega arith)

  longer_either : (P : List Entry → Type 0) → P xs → P ys → P (longer xs ys)
  longer_either P p q = go (ltb (length xs) (length ys))
    where
      go : (b : Bool) → P (cond b ys xs)
      go true = q
      go false = p

-- ---- one record

module _ (es : List Entry) (c : Cluster) where
  upto_grows : (n : ℕ) → length es ≤ length (longest_upto es c n)
  unfolding longest_upto
  upto_grows zero = omega arith
  upto_grows (suc n) = omega (arith, upto_grows n, (longer_both (longest_upto es c n) (covered (server_at c n))).0)

  upto_each : (n i : ℕ) → i < n → length (covered (server_at c i)) ≤ length (longest_upto es c n)
  unfolding longest_upto
  upto_each zero i h = absurd (omega arith)
  upto_each (suc n) i h = go (eq-or-lt_of_le (le_of_suc-le-suc h)) (upto_each n i)
    where
      both : (length (longest_upto es c n) ≤ length (longer (longest_upto es c n) (covered (server_at c n))))
          × (length (covered (server_at c n)) ≤ length (longer (longest_upto es c n) (covered (server_at c n))))
      both = longer_both (longest_upto es c n) (covered (server_at c n))

      go : (i ≡ n) ⊎ (i < n) → (i < n → length (covered (server_at c i)) ≤ length (longest_upto es c n))
          → length (covered (server_at c i)) ≤ length (longer (longest_upto es c n) (covered (server_at c n)))
      go (inl e) ih = rw e both.1
      go (inr l) ih = omega (arith, ih l, both.0)

  upto_one : (P : List Entry → Type 0) → P es → (n : ℕ) → ((i : ℕ) → i < n → P (covered (server_at c i))) → P (longest_upto es c n)
  unfolding longest_upto
  upto_one P p zero each = p
  upto_one P p (suc n) each =
      longer_either (longest_upto es c n) (covered (server_at c n)) P (upto_one P p n (λ i l. each i (omega arith))) (each n (omega arith))

-- nothing changes where nothing longer is covered
upto_kept : (es : List Entry) (c : Cluster) (n : ℕ) → ((i : ℕ) → i < n → length (covered (server_at c i)) ≤ length es) → longest_upto es c n ≡ es
unfolding longest_upto
upto_kept es c zero h = refl
upto_kept es c (suc n) h =
    rw (upto_kept es c n (λ i l. h i (omega arith)), le-ltb (length es) (length (covered (server_at c n))) (h n (omega arith)))

-- so a record counts once
pub longer_again : (es : List Entry) (c : Cluster) → longer_of (longer_of es c) c ≡ longer_of es c
longer_again es c = upto_kept (longer_of es c) c (server_count c) (upto_each es c (server_count c))

-- ---- records in turn

grows : (es : List Entry) (cs : List Cluster) → length es ≤ length (longest_of es cs)
grows es [] = omega arith
grows es (c ∷ cs) = omega (arith, grows (longer_of es c) cs, upto_grows es c (server_count c))

-- what any server of any of them covers is not longer
pub none_longer : (es : List Entry) (cs : List Cluster) (c : Cluster) → Among c cs → (i : ℕ) → i < server_count c
    → length (covered (server_at c i)) ≤ length (longest_of es cs)
none_longer es [] c m i h = absurd (Memᴰ.not-nil m)
none_longer es (d ∷ cs) c m i h = go (Memᴰ.cases_cons m) (λ k. none_longer (longer_of es d) cs c k i h)
  where
    here : i < server_count d → length (covered (server_at d i)) ≤ length (longest_of (longer_of es d) cs)
    here l = omega (arith, upto_each es d (server_count d) i l, grows (longer_of es d) cs)

    go : (c ≡ d) ⊎ Among c cs → (Among c cs → length (covered (server_at c i)) ≤ length (longest_of (longer_of es d) cs))
        → length (covered (server_at c i)) ≤ length (longest_of (longer_of es d) cs)
    go (inl e) later = rw e (here (rw e at h))
    go (inr k) later = later k

-- what holds of the list so far, and of all that is covered, holds of the longest
pub is_one : (P : List Entry → Type 0) (es : List Entry) (cs : List Cluster) → P es
    → ((c : Cluster) → Among c cs → (i : ℕ) → i < server_count c → P (covered (server_at c i))) → P (longest_of es cs)
is_one P es [] p each = p
is_one P es (c ∷ cs) p each =
    is_one P (longer_of es c) cs (upto_one es c P p (server_count c) (each c (Among.head refl))) (λ d m. each d (Among.tail m))
