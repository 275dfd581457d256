-- Times are in a strict order that is total and transitive; the later of two is one of them and before neither; (0,0) is never the later. Assumes nothing.
use mathlib.Core.Path.{◌≡◌, refl}
use mathlib.Core.Logic.{◌⊎◌, inl, inr}
use mathlib.Core.Bool.{Bool, true, false, cond, ◌&&◌, ◌||◌}
use Prim.Native.Nat.{◌<◌, ◌≤◌}
use native.Mathlib.Omega.{arith}
use lib.Dec.{eqb, ltb}
use borrow.Author.Tests.{ltb-true, ltb-false, eqb-true, eqb-false, lt-ltb, eq-eqb}
use Rattle.base.proofs.Bools.{and_left, and_right, or_cases, not_both}
use Rattle.clock.specs.declared.Time.{Time}
use Rattle.clock.specs.Times.{zero_time, is_before, same_time, later_of}

-- s is before t, and s is not after t, as facts on their numbers
pub record Before (s t : Time) : Type 0 where
  pub le : s.p ≤ t.p
  pub eq : s.p ≡ t.p → s.l < t.l

pub record NotAfter (s t : Time) : Type 0 where
  pub le : s.p ≤ t.p
  pub eq : s.p ≡ t.p → s.l ≤ t.l

pub is_before_lem : (s t : Time) → is_before s t ≡ true → Before s t
unfolding is_before
is_before_lem s t e = go (or_cases (ltb s.p t.p) _ e)
  where
    go : (ltb s.p t.p ≡ true) ⊎ ((eqb s.p t.p && ltb s.l t.l) ≡ true) → Before s t
    go (inl h) = let k = ltb-true s.p t.p h in record { le = omega arith; eq = λ q. omega arith }
    go (inr h) =
        let q = eqb-true s.p t.p (and_left _ _ h) in
        let k = ltb-true s.l t.l (and_right (eqb s.p t.p) _ h) in
        record { le = omega arith; eq = λ r. k }

pub before_is : (s t : Time) → Before s t → is_before s t ≡ true
unfolding is_before
before_is s t b = go (ltb s.p t.p) refl
  where
    go : (x : Bool) → ltb s.p t.p ≡ x → (x || (eqb s.p t.p && ltb s.l t.l)) ≡ true
    go true h = refl
    go false h =
        let k = ltb-false s.p t.p h in
        let e : s.p ≡ t.p = omega (arith, b.le) in
        rw (eq-eqb _ _ e, lt-ltb _ _ (b.eq e))

pub not_before_lem : (s t : Time) → is_before t s ≡ false → NotAfter s t
unfolding is_before
not_before_lem s t e = go (ltb t.p s.p) refl e
  where
    again : (x : Bool) → eqb t.p s.p ≡ x → ltb t.p s.p ≡ false → (x && ltb t.l s.l) ≡ false → NotAfter s t
    again true q h e =
        let k = ltb-false t.p s.p h in
        let m = ltb-false t.l s.l e in
        record { le = omega arith; eq = λ r. omega arith }
    again false q h e =
        let k = ltb-false t.p s.p h in
        let n = eqb-false t.p s.p q in
        record { le = omega arith; eq = λ r. absurd (n (omega arith)) }

    go : (x : Bool) → ltb t.p s.p ≡ x → (x || (eqb t.p s.p && ltb t.l s.l)) ≡ false → NotAfter s t
    go true h e = not_both true refl e
    go false h e = again (eqb t.p s.p) refl h e

pub not_before_is : (s t : Time) → NotAfter s t → is_before t s ≡ false
not_before_is s t n = go (is_before t s) refl
  where
    go : (x : Bool) → is_before t s ≡ x → x ≡ false
    go true e =
        let b = is_before_lem t s e in
        let q : t.p ≡ s.p = omega (arith, b.le, n.le) in
        let x = b.eq q in
        let y = n.eq (omega arith) in
        absurd (omega arith)
    go false e = refl

-- no time is before itself
pub before_itself : (s : Time) → is_before s s ≡ false
before_itself s = not_before_is s s (record { le = omega arith; eq = λ e. omega arith })

-- a time that is before another is not after it
pub before_not_after : (s t : Time) → is_before s t ≡ true → is_before t s ≡ false
before_not_after s t e =
    let b = is_before_lem s t e in
    not_before_is s t (record { le = b.le; eq = λ q. let x = b.eq q in omega arith })

-- the order is transitive, also where only the first or only the second is strict
pub before_then : (s t u : Time) → is_before s t ≡ true → is_before u t ≡ false → is_before s u ≡ true
before_then s t u e f =
    let b = is_before_lem s t e in
    let d = not_before_lem t u f in
    let le : s.p ≤ u.p = omega (arith, b.le, d.le) in
    before_is s u (record { le = le; eq = λ q. let x = b.eq (omega (arith, b.le, d.le)) in let y = d.eq (omega (arith, b.le, d.le)) in omega arith })

pub before_trans : (s t u : Time) → is_before s t ≡ true → is_before t u ≡ true → is_before s u ≡ true
before_trans s t u e f = before_then s t u e (before_not_after t u f)

pub then_before : (s t u : Time) → is_before t s ≡ false → is_before t u ≡ true → is_before s u ≡ true
then_before s t u e f = go (is_before s u) refl
  where
    go : (x : Bool) → is_before s u ≡ x → x ≡ true
    go true q = refl
    go false q = not_both (is_before t s) (before_then t u s f q) e

pub not_after_trans : (s t u : Time) → is_before t s ≡ false → is_before u t ≡ false → is_before u s ≡ false
not_after_trans s t u e f = go (is_before u s) refl
  where
    go : (x : Bool) → is_before u s ≡ x → x ≡ false
    go true q = not_both (is_before u t) (before_then u s t q e) f
    go false q = refl

-- equal times, decided
pub same_time_eq : (s t : Time) → same_time s t ≡ true → s ≡ t
unfolding same_time
same_time_eq s t e =
    let hp : s.p ≡ t.p = eqb-true s.p t.p (and_left _ _ e) in
    let hl : s.l ≡ t.l = eqb-true s.l t.l (and_right (eqb s.p t.p) _ e) in
    λ i. record { p = hp i; l = hl i }

pub same_time_refl : (s : Time) → same_time s s ≡ true
unfolding same_time
same_time_refl s = simp (eq-eqb _ _ (refl {a = s.p}), eq-eqb _ _ (refl {a = s.l}))

-- the order is total: one is before the other, or they are equal
pub before_total : (s t : Time) → is_before s t ≡ false → is_before t s ≡ false → s ≡ t
before_total s t e f =
    let a = not_before_lem s t f in
    let b = not_before_lem t s e in
    let hp : s.p ≡ t.p = omega (arith, a.le, b.le) in
    let x = a.eq hp in
    let y = b.eq (omega arith) in
    let hl : s.l ≡ t.l = omega arith in
    λ i. record { p = hp i; l = hl i }

-- the later of two is one of them, and before neither
module _ (s t : Time) where
  pub later_either : (P : Time → Type 0) → P s → P t → P (later_of s t)
  unfolding later_of
  later_either P ps pt = go (is_before s t)
    where
      go : (b : Bool) → P (cond b t s)
      go true = pt
      go false = ps

  pub later_left : is_before (later_of s t) s ≡ false
  unfolding later_of
  later_left = go (is_before s t) refl
    where
      go : (b : Bool) → is_before s t ≡ b → is_before (cond b t s) s ≡ false
      go true e = before_not_after s t e
      go false e = before_itself s

  pub later_right : is_before (later_of s t) t ≡ false
  unfolding later_of
  later_right = go (is_before s t) refl
    where
      go : (b : Bool) → is_before s t ≡ b → is_before (cond b t s) t ≡ false
      go true e = before_itself t
      go false e = e

-- no time is before (0,0)
pub later_zero : (s : Time) → later_of s zero_time ≡ s
unfolding later_of
later_zero s = rw (not_before_is zero_time s (record { le = omega arith; eq = λ e. omega arith }))
