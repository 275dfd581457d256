-- A run that is traced: a byte, and the end of its input. Assumes nothing.
use mathlib.Core.Path.{◌≡◌, ap, ◌∙◌}
use mathlib.Core.List.{List, [], ◌∷◌}
use Prim.Native.Nat.{ℕ}
use borrow.Author.Tests.{eq-eqb, ne_eqb}
use Rattle.lines.specs.Texts.{line_feed, one_more}
use Rattle.traces.specs.declared.CutLine.{CutLine}
use Rattle.traces.specs.Writing.{kept_over}
use Rattle.trails.specs.declared.Wanted.{Wanted}
use Rattle.trails.specs.declared.Lined.{Lined}
use Rattle.trails.specs.declared.follow.Trail.{Trail}
use Rattle.trails.specs.Bytes.{lined_of, trail_after, ended_trail}

module _ (t : Trail) (b : ℕ) (bytes : List ℕ) (k : CutLine) (one : bytes ≡ b ∷ []) (e : k ≡ kept_over t.kept bytes) where
  kept : k ≡ kept_over t.kept (b ∷ [])
  kept = e ∙ ap (kept_over t.kept) one

  pub passed_character : (b ≡ line_feed → ⊥) → ◌≡◌ {A = Trail} (record { cluster = t.cluster; kept = k; number = t.number }) (trail_after t b)
  unfolding trail_after
  passed_character m = rw (ne_eqb b line_feed m, kept)

  pub passed_line : (w : Wanted) (room : ℕ) (l : Lined) (n : ℕ) → b ≡ line_feed → l ≡ lined_of w t.number t.cluster t.kept room → n ≡ one_more t.number
      → ◌≡◌ {A = Trail} (record { cluster = l.cluster; kept = k; number = n }) (trail_after t b)
  unfolding trail_after lined_of
  passed_line w room l n m p q = rw (eq-eqb b line_feed m, kept, p, q)

-- the end, with nothing of a line, or with some
module _ (t : Trail) where
  pub ends_none : t.kept.fill ≡ 0 → t.cluster ≡ ended_trail t
  unfolding ended_trail
  ends_none e = rw (eq-eqb t.kept.fill 0 e)

  pub ends_some : (w : Wanted) (room : ℕ) (l : Lined) → (t.kept.fill ≡ 0 → ⊥) → l ≡ lined_of w t.number t.cluster t.kept room → l.cluster ≡ ended_trail t
  unfolding ended_trail lined_of
  ends_some w room l e p = rw (ne_eqb t.kept.fill 0 e) (ap (λ (x : Lined). x.cluster) p)
