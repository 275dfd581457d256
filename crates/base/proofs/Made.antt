-- Laws of an array that a closure made, a call for each place, and that a list made so from another is `each`. Assumes nothing.
use mathlib.Core.Path.{◌≡◌, sym, ◌∙◌}
use mathlib.Core.List.{List}
use Prim.Native.Nat.{ℕ, zero, suc, ◌+◌, ◌<◌}
use native.Mathlib.Nat.{not-suc-le-zero, le_of_suc-le-suc, add-zero}
use native.Mathlib.Omega.{arith}
use lib.ListN.{length, get_or}
use lib.Seq.{ext_get_or}
use denote.Param.Members.{Mut, Called}
use Rattle.std.specs.Array.{IsFromFnResult, IsFromFnResultFrom}
use Rattle.base.specs.Lists.{each}
use Rattle.base.proofs.Each.{each_at, length_each_from}

-- the closure f, which no call changes, answers h at each place
module _ {F B : Type 0} (g : Mut F (ℕ × Unit {0}) B) (h : ℕ → B) (f : F) where
  made_from : (ys : List B) (j n : ℕ) → IsFromFnResultFrom g f ys j n → ((i : ℕ) (y : B) (q : F) → i < j + n → Called g f (i, tt) y q → (q ≡ f) × (y ≡ h i))
      → (i : ℕ) (d : B) → i < n → get_or ys (j + i) d ≡ h (j + i)
  made_from ys j zero m k i d l = absurd (not-suc-le-zero l)
  made_from ys j (suc n) m k zero d l =
      let c = k j m.1 m.0 (omega arith) m.3 in
      rw (add-zero j) (m.2.1 d ∙ c.1)
  made_from ys j (suc n) m k (suc i) d l =
      let c = k j m.1 m.0 (omega arith) m.3 in
      let e : j + suc i ≡ j + 1 + i = omega arith in
      rw e (made_from ys (j + 1) n (rw c.0 at m.4) (λ i y q b. k i y q (omega arith)) i d (le_of_suc-le-suc l))

  made_at : (ys : List B) (n : ℕ) → IsFromFnResult g f ys n → ((i : ℕ) (y : B) (q : F) → i < n → Called g f (i, tt) y q → (q ≡ f) × (y ≡ h i))
      → (i : ℕ) (d : B) → i < n → get_or ys i d ≡ h i
  made_at ys n m k i d l =
      let e : 0 + i ≡ i = omega arith in
      rw e at (made_from ys 0 n m.each (λ i y q b. k i y q (omega arith)) i d l)

-- a list of which every element is f of that of another
each_is : {A : Type 0} (f : ℕ → A → A) (xs ys : List A) (d : A) → length ys ≡ length xs → ((i : ℕ) → i < length xs → get_or ys i d ≡ f i (get_or xs i d)) → ys ≡ each f xs
each_is f xs ys d e h =
    ext_get_or d ys (each f xs) (e ∙ sym (length_each_from f 0 xs)) (λ i l. h i (omega (arith, e)) ∙ sym (each_at f xs i d (omega (arith, e))))

-- an array so made, where the closure answers f of the element of another
pub made_each : {F A : Type 0} (g : Mut F (ℕ × Unit {0}) A) (f : ℕ → A → A) (c : F) (xs ys : List A) (d : A) (n : ℕ) → length xs ≡ n → IsFromFnResult g c ys n
    → ((i : ℕ) (y : A) (q : F) → i < n → Called g c (i, tt) y q → (q ≡ c) × (y ≡ f i (get_or xs i d))) → ys ≡ each f xs
made_each g f c xs ys d n e m k =
    each_is f xs ys d (m.long ∙ sym e) (λ i l. made_at g (λ i. f i (get_or xs i d)) c ys n m k i d (rw e at l))
