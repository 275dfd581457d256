-- The starts of a run: how many are counted, and which is the last. Assumes nothing.
use mathlib.Core.Path.{◌≡◌, refl, sym, ap, subst, ◌∙◌}
use mathlib.Core.Logic.{◌⊎◌, inl, inr, ⊎_elim}
use mathlib.Core.Bool.{Bool, true, false}
use mathlib.Core.List.{List, [], ◌∷◌, ◌++◌}
use Prim.Native.Nat.{ℕ, ◌<◌, ◌≤◌}
use native.Mathlib.Omega.{arith}
use borrow.Author.Tests.{lt-ltb, le-ltb}
use Rattle.base.proofs.Facts.{lt_or_le}
use Rattle.cluster.specs.declared.Cluster.{Cluster}
use Rattle.frames.specs.Steps.{read_step}
use Rattle.replay.specs.Texts.{answer_to, record_after}
use Rattle.lines.specs.Folds.{over_lines}
use Rattle.followed.specs.declared.Run.{Run}
use Rattle.lines.specs.Texts.{most_counted, one_more}
use Rattle.followed.specs.Follow.{begins, run_after_read, run_after_line, NoneStarts}
use Rattle.followed.proofs.Followed.{line_record}

-- ---- how many

start_counted : (n : ℕ) → 0 < one_more n
unfolding one_more
start_counted n = ⊎_elim below above (lt_or_le n most_counted)
  where
    below : n < most_counted → 0 < one_more n
    below h = rw (lt-ltb n most_counted h) (omega arith)

    above : most_counted ≤ n → 0 < one_more n
    above h = rw (le-ltb n most_counted h) (omega arith)

module _ (r : Run) (l : List ℕ) where
  one_starts : begins (read_step l) (answer_to r.cluster l).answer ≡ true → 0 < (run_after_line r l).starts
  unfolding run_after_read answer_to
  one_starts e = rw e (start_counted r.starts)

  other_starts : begins (read_step l) (answer_to r.cluster l).answer ≡ false → (run_after_line r l).starts ≡ r.starts
  unfolding run_after_read answer_to
  other_starts e = rw e refl

  still_starts : 0 < r.starts → 0 < (run_after_line r l).starts
  still_starts h = go (begins (read_step l) (answer_to r.cluster l).answer) refl
    where
      go : (b : Bool) → begins (read_step l) (answer_to r.cluster l).answer ≡ b → 0 < (run_after_line r l).starts
      go true e = one_starts e
      go false e = omega (arith, other_starts e)

-- once there was a start there is one
pub some_started : (r : Run) (ls : List (List ℕ)) → 0 < r.starts → 0 < (over_lines run_after_line r ls).starts
some_started r [] h = h
some_started r (l ∷ ls) h = some_started (run_after_line r l) ls (still_starts r l h)

pub started_at : (r : Run) (l : List ℕ) (ls : List (List ℕ)) → begins (read_step l) (answer_to r.cluster l).answer ≡ true
    → 0 < (over_lines run_after_line r (l ∷ ls)).starts
started_at r l ls e = some_started (run_after_line r l) ls (one_starts r l e)

-- as many as before where none of the lines is one
pub none_started : (r : Run) (ls : List (List ℕ)) → NoneStarts r.cluster ls → (over_lines run_after_line r ls).starts ≡ r.starts
none_started r [] h = refl
none_started r (l ∷ ls) h =
    none_started (run_after_line r l) ls (subst (λ (c : Cluster). NoneStarts c ls) (sym (line_record r l)) h.1) ∙ other_starts r l h.0

-- ---- which is the last

-- lines in turn from c on, of which start is the last start that succeeds
pub record LastStart (c : Cluster) (ls : List (List ℕ)) : Type 0 where
  pub before : List (List ℕ)
  pub start : List ℕ
  pub after : List (List ℕ)
  pub split : ls ≡ before ++ (start ∷ after)
  pub succeeds : begins (read_step start) (answer_to (record_after c before) start).answer ≡ true
  pub none_after : NoneStarts (answer_to (record_after c before) start).cluster after

-- there is a last one, or none
pub last_or_none : (c : Cluster) (ls : List (List ℕ)) → LastStart c ls ⊎ NoneStarts c ls
last_or_none c [] = inr tt
last_or_none c (l ∷ ls) = go (begins (read_step l) (answer_to c l).answer) refl (last_or_none (answer_to c l).cluster ls)
  where
    go : (b : Bool) → begins (read_step l) (answer_to c l).answer ≡ b → LastStart (answer_to c l).cluster ls ⊎ NoneStarts (answer_to c l).cluster ls
        → LastStart c (l ∷ ls) ⊎ NoneStarts c (l ∷ ls)
    go b e (inl s) =
        inl (record {
          before = l ∷ s.before;
          start = s.start;
          after = s.after;
          split = ap (λ (k : List (List ℕ)). l ∷ k) s.split;
          succeeds = s.succeeds;
          none_after = s.none_after;
        })
    go true e (inr n) = inl (record { before = []; start = l; after = ls; split = refl; succeeds = e; none_after = n })
    go false e (inr n) = inr (e, n)
