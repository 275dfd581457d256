-- The language's count of a mask's ones is the number of members; two majorities share a member that votes. Assumes nothing.
use mathlib.Core.Path.{◌≡◌, refl, ap, ap₂, sym, ◌∙◌}
use mathlib.Core.Bool.{Bool, true, false, cond, not, ◌&&◌, ◌||◌}
use mathlib.Core.Logic.{⊎_elim}
use Prim.Native.Nat.{ℕ, zero, suc, ◌/◌, ◌%◌, ◌^◌, ◌+◌, ◌-◌, ◌*◌, ◌<◌, ◌≤◌}
use native.Mathlib.Nat.{pow-suc, mul_comm, div-div-eq-div-mul, div-eq_of_lt, div-lt_iff_lt-mul, lt_of_lt_of_le}
use native.Mathlib.Omega.{arith}
use lib.Dec.{eqb, ltb}
use lib.Count.{ones, ones_in, ones_step}
use lib.Pow.{pow_mono, pow_pos}
use borrow.Author.Tests.{eqb-false, ltb-true, ne_eqb, lt-ltb, eq-eqb, not-true}
use Rattle.base.specs.Numbers.{count}
use Rattle.base.proofs.Bools.{and_both, and_right, or_right, not_both}
use Rattle.base.proofs.Counting.{Both, count_meet, count_le, count_mono}
use Rattle.base.proofs.Every.{every_at, every_all}
use Rattle.base.proofs.Facts.{lt_or_le}
use Rattle.cluster.specs.Sets.{member, bits, members_of, is_within, is_apart, votes, voters, voters_with, most_of}

-- ---- the number of members

-- a bit counts as what it is
bit_counts : (b : ℕ) → b < 2 → cond (eqb b 1) 1 0 ≡ b
bit_counts zero h = refl
bit_counts (suc zero) h = refl
bit_counts (suc (suc b)) h = absurd (omega arith)

half_more : (d n : ℕ) → n / 2 / 2 ^ d ≡ n / 2 ^ suc d
half_more d n = div-div-eq-div-mul n 2 (2 ^ d) ∙ ap (λ (k : ℕ). n / k) (mul_comm 2 (2 ^ d) ∙ sym (pow-suc 2 d))

-- one more digit, at the top
digit : (d n : ℕ) → ones_in (suc d) n ≡ n / 2 ^ d % 2 + ones_in d n
unfolding ones_in
digit zero n = omega arith
digit (suc d) n = let e = digit d (n / 2) in let h = half_more d n in rw (e, h) (omega arith)

counted : (d n : ℕ) → ones_in d n ≡ count d (member n)
unfolding ones_in count member
counted zero n = refl
counted (suc d) n = digit d n ∙ ap₂ (λ (x y : ℕ). x + y) (sym (bit_counts (n / 2 ^ d % 2) (omega arith))) (counted d n)

ones_in_lem : (d n : ℕ) → n < 2 ^ d → ones n ≡ ones_in d n
unfolding ones ones_in
ones_in_lem zero n h = ap ones (let z : n ≡ 0 = omega arith in z)
ones_in_lem (suc d) n h =
    let k : n < 2 ^ d * 2 = rw pow-suc at h in
    ones_step n ∙ ap (λ (x : ℕ). n % 2 + x) (ones_in_lem d (n / 2) (omega arith))

pub ones_members : (m : ℕ) → m < 2 ^ bits → ones m ≡ members_of m
ones_members m h = ones_in_lem bits m h ∙ counted bits m

pub members_few : (m : ℕ) → members_of m ≤ bits
members_few m = count_le (member m) bits

-- ---- members and their numbers

-- a mask below 2 ^ n has no member from n on
pub member_below : (m n i : ℕ) → m < 2 ^ n → n ≤ i → member m i ≡ false
unfolding member
member_below m n i h l =
    let z : m / 2 ^ i ≡ 0 = div-eq_of_lt (lt_of_lt_of_le h (pow_mono l)) in
    ne_eqb (m / 2 ^ i % 2) 1 (omega arith)

-- without its highest bit a mask is smaller
shrinks : (m i : ℕ) → m < 2 ^ suc i → member m i ≡ false → m < 2 ^ i
unfolding member
shrinks m i h e =
    let k : m < 2 * 2 ^ i = omega (arith, pow-suc 2 i) in
    let d : m / 2 ^ i < 2 = (div-lt_iff_lt-mul {k = 2 ^ i} {x = m} {y = 2} (pow_pos i)).1 k in
    let n : (m / 2 ^ i % 2 ≡ 1 → ⊥) = eqb-false (m / 2 ^ i % 2) 1 e in
    let z : m / 2 ^ i < 1 = omega arith in
    omega (arith, (div-lt_iff_lt-mul {k = 2 ^ i} {x = m} {y = 1} (pow_pos i)).0 z)

-- with no member from n on, a mask is below 2 ^ n
below_all : (d m n : ℕ) → m < 2 ^ (d + n) → ((i : ℕ) → n ≤ i → i < d + n → member m i ≡ false) → m < 2 ^ n
below_all zero m n h f = rw (let z : 0 + n ≡ n = omega arith in z) at h
below_all (suc d) m n h f =
    below_all d m n (shrinks m (d + n) (rw (let z : suc d + n ≡ suc (d + n) = omega arith in z) at h) (f (d + n) (omega arith) (omega arith)))
    (λ i l k. f i l (omega arith))

-- ---- every member is below n

pub within_past : (m n : ℕ) → bits ≤ n → true ≡ is_within m n
unfolding is_within
within_past m n h = sym (every_all _ bits (λ i l. or_right (not (member m i)) _ (lt-ltb i n (omega arith))))

-- no bit from n on is set
shifted_within : (m n : ℕ) → m < 2 ^ bits → m / 2 ^ n ≡ 0 → is_within m n ≡ true
unfolding is_within
shifted_within m n h z = every_all _ bits (λ i l. go i (member m i) refl)
  where
    small : m < 2 ^ n
    small = omega (arith, (div-lt_iff_lt-mul {k = 2 ^ n} {x = m} {y = 1} (pow_pos n)).0 (omega arith))

    go : (i : ℕ) (b : Bool) → member m i ≡ b → (not b || ltb i n) ≡ true
    go i true e = ⊎_elim (λ l. lt-ltb i n l) (λ l. not_both (member m i) e (member_below m n i small l)) (lt_or_le i n)
    go i false e = refl

pub within_member : (m n i : ℕ) → m < 2 ^ bits → is_within m n ≡ true → member m i ≡ true → i < n
unfolding is_within
within_member m n i h w e = ⊎_elim go (λ l. not_both (member m i) e (member_below m bits i h l)) (lt_or_le i bits)
  where
    said : (b : Bool) → member m i ≡ b → b ≡ true → (not b || ltb i n) ≡ true → i < n
    said true q p f = ltb-true i n f
    said false q p f = not_both false p refl

    go : i < bits → i < n
    go l = said (member m i) refl e (every_at _ bits i w l)

within_shifted : (m n : ℕ) → m < 2 ^ bits → n ≤ bits → is_within m n ≡ true → m / 2 ^ n ≡ 0
within_shifted m n h l w =
    div-eq_of_lt (below_all (bits - n) m n (rw (let z : bits - n + n ≡ bits = omega arith in z) h) (λ i k j. go i k (member m i) refl))
  where
    go : (i : ℕ) → n ≤ i → (b : Bool) → member m i ≡ b → b ≡ false
    go i k true e = absurd (omega (arith, within_member m n i h w e))
    go i k false e = refl

-- the shifted mask is zero exactly where every member is below n
pub within_is : (m n : ℕ) → m < 2 ^ bits → n < bits → eqb (m / 2 ^ n) 0 ≡ is_within m n
within_is m n h l = go (is_within m n) refl
  where
    go : (b : Bool) → is_within m n ≡ b → eqb (m / 2 ^ n) 0 ≡ b
    go true e = eq-eqb (m / 2 ^ n) 0 (within_shifted m n h (omega arith) e)
    go false e = ne_eqb (m / 2 ^ n) 0 (λ z. not_both (is_within m n) (shifted_within m n h z) e)

-- a set within n has all its members among the first n
pub within_count : (m n : ℕ) → m < 2 ^ bits → n ≤ bits → is_within m n ≡ true → members_of m ≡ count n (member m)
unfolding count
within_count m n h l w = ap (λ (k : ℕ). count k (member m)) (let z : bits ≡ bits - n + n = omega arith in z) ∙ go (bits - n)
  where
    none : (i : ℕ) → n ≤ i → (b : Bool) → member m i ≡ b → b ≡ false
    none i k true e = absurd (omega (arith, within_member m n i h w e))
    none i k false e = refl

    go : (d : ℕ) → count (d + n) (member m) ≡ count n (member m)
    go zero = ap (λ (k : ℕ). count k (member m)) (let z : 0 + n ≡ n = omega arith in z)
    go (suc d) =
        ap (λ (k : ℕ). count k (member m)) (let z : suc d + n ≡ suc (d + n) = omega arith in z)
        ∙ rw (none (d + n) (omega arith) (member m (d + n)) refl) (omega (arith, go d))

-- ---- majorities

-- a member is no follower
pub apart_member : (m f i : ℕ) → m < 2 ^ bits → is_apart m f ≡ true → member m i ≡ true → member f i ≡ false
unfolding is_apart
apart_member m f i h a e = ⊎_elim go (λ l. not_both (member m i) e (member_below m bits i h l)) (lt_or_le i bits)
  where
    go : i < bits → member f i ≡ false
    go l = not-true (member f i) (rw e at (every_at _ bits i a l))

-- so a set of voters within n is counted whole where voters are
pub voters_members : (m f n : ℕ) → m < 2 ^ bits → n ≤ bits → is_within m n ≡ true → is_apart m f ≡ true → members_of m ≡ voters_with n f (member m)
voters_members m f n h l w a =
    omega (
      arith,
      within_count m n h l w,
      count_mono (member m) (λ i. votes f i && member m i) n (λ i k e. and_both _ _ (ap not (apart_member m f i h a e)) e),
      count_mono (λ i. votes f i && member m i) (member m) n (λ i k e. and_right (votes f i) _ e),
    )

-- two majorities share a member that votes
pub majorities_meet : (n f : ℕ) (p q : ℕ → Bool) → most_of (voters n f) (voters_with n f p) ≡ true → most_of (voters n f) (voters_with n f q) ≡ true
    → Both n (λ i. votes f i && p i) (λ i. votes f i && q i)
majorities_meet n f p q hp hq =
    count_meet (votes f) p q n
    (omega (arith, ltb-true (voters n f) (voters_with n f p * 2) hp, ltb-true (voters n f) (voters_with n f q * 2) hq))
