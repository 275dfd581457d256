-- Two texts are the same where `same_text` says so. Assumes nothing.
use mathlib.Core.Path.{◌≡◌, refl}
use mathlib.Core.Bool.{true}
use mathlib.Core.List.{List}
use Prim.Native.Nat.{ℕ}
use lib.Dec.{eqb}
use lib.ListN.{length, get_or}
use lib.Seq.{ext_get_or}
use borrow.Author.Tests.{eq-eqb, eqb-true}
use Rattle.base.proofs.Bools.{and_both, and_left, and_right}
use Rattle.base.proofs.Every.{every_at, every_all}
use Rattle.loads.specs.Loads.{same_text}

pub same_text_lem : (xs ys : List ℕ) → same_text xs ys ≡ true → xs ≡ ys
unfolding same_text
same_text_lem xs ys h =
    ext_get_or 0 xs ys (eqb-true _ _ (and_left _ _ h))
    (λ i l. eqb-true _ _ (every_at (λ i. eqb (get_or xs i 0) (get_or ys i 0)) (length xs) i (and_right (eqb (length xs) (length ys)) _ h) l))

pub text_same : (xs : List ℕ) → same_text xs xs ≡ true
unfolding same_text
text_same xs = and_both _ _ (eq-eqb (length xs) (length xs) refl) (every_all _ (length xs) (λ i l. eq-eqb (get_or xs i 0) (get_or xs i 0) refl))
