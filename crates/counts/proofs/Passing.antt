-- Kind 7: the position that is found passes and none above it does; and what a position comes to once its entry and backers are known. Assumes nothing.
use mathlib.Core.Path.{◌≡◌, refl, ◌∙◌}
use mathlib.Core.Bool.{true, false, ◌&&◌}
use Prim.Native.Nat.{ℕ, ◌*◌, ◌<◌, ◌≤◌}
use lib.Dec.{eqb, ltb}
use borrow.Author.Tests.{eq-eqb, ne_eqb, le-leb, lt-ltb, le-ltb}
use Rattle.base.proofs.Bools.{and_no}
use Rattle.base.proofs.Highest.{highest_passes, highest_above}
use Rattle.server_log.specs.declared.Entry.{Entry}
use Rattle.server_log.specs.Entries.{entry_at}
use Rattle.server_log.specs.Logs.{live, length_of}
use Rattle.cluster.specs.declared.Server.{Server}
use Rattle.cluster.specs.Sets.{voters}
use Rattle.counts.specs.Advances.{backers, passes, highest_passing}

-- ---- 01's sentence

module _ (size f : ℕ) (s : Server) (a : ℕ) where
  pub passing_passes : 1 ≤ highest_passing size f s a → passes size f s a (highest_passing size f s a) ≡ true
  unfolding highest_passing
  passing_passes h = highest_passes (passes size f s a) (length_of s.log) h

  pub passing_highest : (n : ℕ) → highest_passing size f s a < n → n ≤ length_of s.log → passes size f s a n ≡ false
  unfolding highest_passing
  passing_highest n h l = highest_above (passes size f s a) (length_of s.log) n h l

-- ---- the loop

pub passes_low : (size f : ℕ) (s : Server) (a n : ℕ) → n ≤ s.head.commit → passes size f s a n ≡ false
unfolding passes
passes_low size f s a n h = rw (le-ltb s.head.commit n h)

-- e is the entry at n, and k voters back it
module _ (size f : ℕ) (s : Server) (a n : ℕ) (e : Entry) (k : ℕ) (h : s.head.commit < n) (l : n ≤ length_of s.log) (p : e ≡ entry_at (live s.log) n) (q : k ≡ backers size f s a n) where
  passes_is : passes size f s a n ≡ (eqb e.term s.head.term && ltb (voters size f) (k * 2))
  unfolding passes
  passes_is = simp (lt-ltb s.head.commit n h, le-leb n (length_of s.log) l, ← p, ← q)

  pub passes_yes : e.term ≡ s.head.term → voters size f < k * 2 → passes size f s a n ≡ true
  passes_yes x b = passes_is ∙ simp (eq-eqb e.term s.head.term x, lt-ltb (voters size f) (k * 2) b)

  pub passes_old : (e.term ≡ s.head.term → ⊥) → passes size f s a n ≡ false
  passes_old x = passes_is ∙ simp (ne_eqb e.term s.head.term x)

  pub passes_few : k * 2 ≤ voters size f → passes size f s a n ≡ false
  passes_few b = passes_is ∙ rw (le-ltb (voters size f) (k * 2) b) (and_no (eqb e.term s.head.term) false refl)
