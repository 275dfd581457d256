-- What is due, and what is left after it, are the frames that are announced. Assumes nothing.
use mathlib.Core.Path.{◌≡◌, refl, sym, ap, ◌∙◌}
use mathlib.Core.Bool.{Bool, true, false, cond}
use mathlib.Core.List.{List, [], ◌∷◌, ◌++◌, append_assoc}
use Prim.Native.Nat.{ℕ, zero, suc, ◌-◌}
use native.Mathlib.Omega.{arith}
use borrow.Author.Tests.{lt-ltb}
use lib.ListN.{replicate}
use Rattle.saved.specs.declared.Sort.{Sort}
use Rattle.saved.specs.declared.Sort.TheVariants as S
use Rattle.saved.specs.Layout.{Widths, said_at}
use Rattle.saved.specs.Editions.{Edition, edition_numbered}
use Rattle.saved.specs.Shape.{announced, shaped_by, shaped_first}
use Rattle.shapes.specs.declared.Left.{Left}
use Rattle.std.proofs.Common.{Option, Some, None}
use Rattle.shapes.specs.Walk.{todo, due_of, edition_for, left_after, is_end}

-- the lines that may follow, by what is left
abbrev pub expects : List Edition → Left → List (List ℕ) → Bool
expects knows l ls = cond l.begun (shaped_by (edition_numbered knows l.edition).widths (todo l) ls) (shaped_first knows ls)

-- a frame of this sort comes after the first, and so is of the text's edition
pub record Later (k : Sort) : Type 0 where
  pub edition : (n : ℕ) (bs : List ℕ) → edition_for k n bs ≡ n
  pub begun : (w : Widths) (bs : List ℕ) (l : Left) → (left_after w k bs l).begun ≡ l.begun
  pub kept : (w : Widths) (bs : List ℕ) (l : Left) → (left_after w k bs l).edition ≡ l.edition

-- the first frame is due; or nothing is left; or a frame of the sort k and then ks, and after it what it announces and then ks
pub data Tells (l : Left) : Option Sort → Type 0 where
  first : l.begun ≡ false → Tells l (Some S.First)
  over : l.begun ≡ true → todo l ≡ [] → Tells l None
  next : (k : Sort) (ks : List Sort) → l.begun ≡ true → Later k → todo l ≡ k ∷ ks
      → ((w : Widths) (bs : List ℕ) → todo (left_after w k bs l) ≡ announced w k bs ++ ks) → Tells l (Some k)

abbrev left : Bool → ℕ → ℕ → ℕ → ℕ → ℕ → Left
left b v s e n r = record { begun = b; edition = v; servers = s; entries = e; notes = n; reports = r }

pub tells : (l : Left) → Tells l (due_of l)
unfolding due_of
tells l = go l.begun l.edition l.servers l.entries l.notes l.reports
  where
    less : (n : ℕ) → suc n - 1 ≡ n
    less n = omega arith

    go : (b : Bool) (v s e n r : ℕ) → Tells (left b v s e n r) (due_of (left b v s e n r))
    go false v s e n r = first refl
    go true v s (suc e) n r =
        rw (lt-ltb 0 (suc e) (omega arith))
        (next S.Entry _ refl (record { edition = λ n bs. refl; begun = λ w bs l. refl; kept = λ w bs l. refl }) refl (λ w bs. rw (less e)))
    go true v s zero (suc n) r =
        rw (lt-ltb 0 (suc n) (omega arith))
        (next S.Note _ refl (record { edition = λ n bs. refl; begun = λ w bs l. refl; kept = λ w bs l. refl }) refl (λ w bs. rw (less n)))
    go true v s zero zero (suc r) =
        rw (lt-ltb 0 (suc r) (omega arith))
        (next S.Report _ refl (record { edition = λ n bs. refl; begun = λ w bs l. refl; kept = λ w bs l. refl }) refl (λ w bs. rw (less r)))
    go true v (suc s) zero zero zero =
        rw (lt-ltb 0 (suc s) (omega arith))
        (next S.Server (replicate s S.Server) refl (record { edition = λ n bs. refl; begun = λ w bs l. refl; kept = λ w bs l. refl }) refl
        (λ w bs. let es = replicate (said_at w S.Server bs 0) S.Entry in
        let ns = replicate (said_at w S.Server bs 1) S.Note in
        let rs = replicate (said_at w S.Server bs 2) S.Report in
        rw (less s)
        (sym
        (append_assoc es (ns ++ rs) (replicate s S.Server) ∙ ap (λ (x : List Sort). es ++ x) (append_assoc ns rs (replicate s S.Server))))))
    go true v zero zero zero zero = over refl refl

-- nothing is due exactly where no line may follow
pub at_end_lem : (knows : List Edition) {l : Left} {d : Option Sort} → Tells l d → is_end d ≡ expects knows l []
at_end_lem knows {l} (first b) = sym (ap (λ (x : Bool). cond x (shaped_by (edition_numbered knows l.edition).widths (todo l) []) false) b)
at_end_lem knows {l} (over b e) = sym (rw (b, e))
at_end_lem knows {l} (next k ks b later e f) = sym (rw (b, e))
