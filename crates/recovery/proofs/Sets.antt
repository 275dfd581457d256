-- A set made of the numbers that pass: these are its members. Assumes nothing.
use mathlib.Core.Path.{◌≡◌, refl, ap, sym, ◌∙◌}
use mathlib.Core.Bool.{Bool, true, false, cond, not, ◌&&◌}
use mathlib.Core.Logic.{⊎_elim}
use Prim.Native.Nat.{ℕ, zero, suc, ◌+◌, ◌*◌, ◌/◌, ◌%◌, ◌^◌, ◌≤◌, ◌<◌}
use native.Mathlib.Nat.{mul_comm, pow-suc, div-div-eq-div-mul, lt_of_lt_of_le, le_of_suc-le-suc}
use native.Mathlib.Omega.{arith}
use lib.Dec.{eqb}
use lib.Pow.{pow_mono}
use borrow.Author.Tests.{lt-ltb}
use Rattle.base.specs.Numbers.{byte, count}
use Rattle.base.proofs.Bools.{and_both, and_left, or_left, or_right}
use Rattle.base.proofs.Counting.{count_mono, count_meet}
use Rattle.base.proofs.Every.{every_all}
use Rattle.base.proofs.Facts.{lt_or_le}
use Rattle.cluster.specs.Sets.{member, bits, members_of, is_within, is_apart, votes, voters, is_majority}
use Rattle.cluster.proofs.Masks.{member_below, voters_members}
use Rattle.plans.specs.Moves.{set_from}
use Rattle.plans.proofs.Sets.{bit, set_below}

-- a member past the first is one of the rest
member_rest : (b m i : ℕ) → b ≤ 1 → member (b + m * 2) (suc i) ≡ member m i
unfolding member
member_rest b m i l =
    let half : (b + m * 2) / 2 ≡ m = omega arith in
    let e : (b + m * 2) / 2 ^ suc i ≡ m / 2 ^ i =
    ap (λ (k : ℕ). (b + m * 2) / k) (pow-suc 2 i ∙ mul_comm (2 ^ i) 2) ∙ sym (div-div-eq-div-mul (b + m * 2) 2 (2 ^ i)) ∙ ap (λ (k : ℕ). k / 2 ^ i) half in
    ap (λ (k : ℕ). eqb (k % 2) 1) e

member_first : (b : Bool) (m : ℕ) → member (cond b 1 0 + m * 2) 0 ≡ b
unfolding member
member_first true m = let e : (1 + m * 2) / 2 ^ 0 % 2 ≡ 1 = omega arith in ap (λ (k : ℕ). eqb k 1) e
member_first false m = let e : (0 + m * 2) / 2 ^ 0 % 2 ≡ 0 = omega arith in ap (λ (k : ℕ). eqb k 1) e

-- below n, the members are those that pass; none is past that
pub set_member : (p : ℕ → Bool) (j n i : ℕ) → i < n → member (set_from p j n) i ≡ p (j + i)
unfolding set_from
set_member p j zero i l = absurd (omega arith)
set_member p j (suc n) zero l = member_first (p j) (set_from p (suc j) n) ∙ ap p (omega arith)
set_member p j (suc n) (suc i) l =
    member_rest (cond (p j) 1 0) (set_from p (suc j) n) i (bit (p j)) ∙ set_member p (suc j) n i (le_of_suc-le-suc l) ∙ ap p (omega arith)

pub set_past : (p : ℕ → Bool) (j n i : ℕ) → n ≤ i → member (set_from p j n) i ≡ false
set_past p j n i l = member_below (set_from p j n) n i (set_below p j n) l

-- where some are counted, one of them is found
pub some_passes : (p : ℕ → Bool) (n : ℕ) → 1 ≤ count n p → (i : ℕ) × (i < n) × (p i ≡ true)
some_passes p n h =
    let b = count_meet p (λ i. true) (λ i. true) n (omega (arith, count_mono p (λ i. p i && true) n (λ i l e. and_both _ _ e refl))) in
    (b.who, b.below, and_left (p b.who) _ b.left)

-- ---- all that vote

module _ (n f : ℕ) (few : n ≤ 7) where
  abbrev voting : ℕ
  voting = set_from (votes f) 0 n

  pub voting_small : voting < byte
  voting_small = lt_of_lt_of_le (set_below (votes f) 0 n) (pow_mono {j = 8} (omega arith))

  pub voting_member : (i : ℕ) → i < n → member voting i ≡ votes f i
  voting_member i l = let z : 0 + i ≡ i = omega arith in set_member (votes f) 0 n i l ∙ ap (votes f) z

  pub voting_within : is_within voting n ≡ true
  unfolding is_within
  voting_within =
      every_all _ bits (λ i l. ⊎_elim (λ k. or_right (not (member voting i)) _ (lt-ltb i n k)) (λ k. or_left _ _ (ap not (set_past (votes f) 0 n i k))) (lt_or_le i n))

  pub voting_apart : is_apart voting f ≡ true
  unfolding is_apart
  voting_apart =
      every_all _ bits
      (λ i l. ⊎_elim (λ k. rw (voting_member i k) (not_and (member f i))) (λ k. rw (set_past (votes f) 0 n i k)) (lt_or_le i n))
    where
      not_and : (b : Bool) → not (not b && b) ≡ true
      not_and true = refl
      not_and false = refl

  pub voting_most : 1 ≤ voters n f → is_majority voting (voters n f) ≡ true
  voting_most some =
      lt-ltb (voters n f) (members_of voting * 2)
      (omega (
        arith,
        voters_members voting f n voting_small (omega arith) voting_within voting_apart,
        count_mono (votes f) (λ i. votes f i && member voting i) n (λ i l e. and_both _ _ e (voting_member i l ∙ e)),
      ))
