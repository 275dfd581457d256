-- The longest common beginning: it agrees, and can't be longer; and its loop's invariant. Assumes nothing.
use mathlib.Core.Path.{◌≡◌, refl, ap, sym, ◌∙◌}
use mathlib.Core.List.{List, [], ◌∷◌}
use mathlib.Core.Bool.{Bool, true, false, cond}
use Prim.Native.Nat.{ℕ, zero, suc, ◌<◌, ◌≤◌, ◌+◌, min}
use mathlib.Core.Logic.{◌⊎◌, inl, inr}
use Rattle.base.proofs.Facts.{lt_or_le}
use native.Mathlib.Numerals.{add-one}
use native.Mathlib.Omega.{arith}
use native.Mathlib.Nat.{le_of_suc-le-suc}
use lib.ListN.{length, take, drop, get_or, drop_of_length-le, length-take}
use lib.Seq.{drop-cons, get_or-take, take-take, take-length, length-take-le}
use borrow.Author.Tests.{eqb-true, eq-eqb}
use Rattle.base.proofs.Bools.{not_both}
use Rattle.base.proofs.Joined.{joined_same}
use Rattle.server_log.specs.declared.Entry.{Entry}
use Rattle.server_log.specs.declared.Log.{Log}
use Rattle.server_log.specs.Entries.{zero_entry, same_entry, entry_at, common_beginning, is_beginning}
use Rattle.server_log.specs.Logs.{live, length_of, joined}
use Rattle.server_log.proofs.Equal.{same_entry_eq, same_entry_refl}
use Rattle.server_log.proofs.Live.{first_slots, entry_at_take}

-- ---- a loop that compares from the front

nil_right : (xs : List Entry) → common_beginning xs [] ≡ 0
unfolding common_beginning
nil_right [] = refl
nil_right (x ∷ xs) = refl

short_left : (xs ys : List Entry) (i : ℕ) → length xs ≤ i → common_beginning (drop i xs) (drop i ys) ≡ 0
unfolding common_beginning
short_left xs ys i h = rw (drop_of_length-le xs h)

short_right : (xs ys : List Entry) (i : ℕ) → length ys ≤ i → common_beginning (drop i xs) (drop i ys) ≡ 0
short_right xs ys i h = rw (drop_of_length-le ys h) (nil_right _)

module _ (xs ys : List Entry) (i : ℕ) (hx : i < length xs) (hy : i < length ys) where
  next_same : same_entry (get_or xs i zero_entry) (get_or ys i zero_entry) ≡ true
      → common_beginning (drop i xs) (drop i ys) ≡ suc (common_beginning (drop (i + 1) xs) (drop (i + 1) ys))
  unfolding common_beginning
  next_same e = rw (add-one, drop-cons xs i zero_entry hx, drop-cons ys i zero_entry hy) (simp e)

  next_other : same_entry (get_or xs i zero_entry) (get_or ys i zero_entry) ≡ false → common_beginning (drop i xs) (drop i ys) ≡ 0
  unfolding common_beginning
  next_other e = rw (drop-cons xs i zero_entry hx, drop-cons ys i zero_entry hy) (simp e)

-- the first i entries are common
abbrev pub Common : Log → Log → ℕ → Type 0
Common a b i = common_beginning (live a) (live b) ≡ i + common_beginning (drop i (live a)) (drop i (live b))

module _ (a b : Log) (i : ℕ) (u : Common a b i) where
  -- one of both is at its end
  pub common_end : (n : ℕ) → n ≡ min (length_of a) (length_of b) → n ≤ i → i ≤ n → n ≡ common_beginning (live a) (live b)
  common_end n e h l = go (lt_or_le (length_of a) (length_of b))
    where
      go : (length_of a < length_of b) ⊎ (length_of b ≤ length_of a) → n ≡ common_beginning (live a) (live b)
      go (inl m) = omega (arith, short_left (live a) (live b) i (omega arith))
      go (inr m) = omega (arith, short_right (live a) (live b) i (omega arith))

  module _ (ha : i < length_of a) (hb : i < length_of b) where
    slots : same_entry (get_or (live a) i zero_entry) (get_or (live b) i zero_entry) ≡ same_entry (get_or a.entries i zero_entry) (get_or b.entries i zero_entry)
    slots =
        let x = get_or-take a.len a.entries i zero_entry (omega (arith, length-take a.len a.entries)) in
        let y = get_or-take b.len b.entries i zero_entry (omega (arith, length-take b.len b.entries)) in
        λ k. same_entry (x k) (y k)

    pub common_more : same_entry (get_or a.entries i zero_entry) (get_or b.entries i zero_entry) ≡ true → Common a b (i + 1)
    common_more e = omega (arith, next_same (live a) (live b) i ha hb (slots ∙ e))

    pub common_stops : same_entry (get_or a.entries i zero_entry) (get_or b.entries i zero_entry) ≡ false → i ≡ common_beginning (live a) (live b)
    common_stops e = omega (arith, next_other (live a) (live b) i ha hb (slots ∙ e))

-- ---- 01's sentence

-- it is a beginning of both
pub common_le : (xs ys : List Entry) → (common_beginning xs ys ≤ length xs) × (common_beginning xs ys ≤ length ys)
unfolding common_beginning
common_le [] ys = (omega arith, omega arith)
common_le (x ∷ xs) [] = (omega arith, omega arith)
common_le (x ∷ xs) (y ∷ ys) = go (same_entry x y) (common_le xs ys)
  where
    go : (b : Bool) → (common_beginning xs ys ≤ length xs) × (common_beginning xs ys ≤ length ys)
        → (cond b (suc (common_beginning xs ys)) 0 ≤ suc (length xs)) × (cond b (suc (common_beginning xs ys)) 0 ≤ suc (length ys))
    go true h = (omega arith, omega arith)
    go false h = (omega arith, omega arith)

-- both agree on it
pub common_agrees : (xs ys : List Entry) → take (common_beginning xs ys) xs ≡ take (common_beginning xs ys) ys
unfolding common_beginning
common_agrees [] [] = refl
common_agrees [] (y ∷ ys) = refl
common_agrees (x ∷ xs) [] = refl
common_agrees (x ∷ xs) (y ∷ ys) = go (same_entry x y) refl (common_agrees xs ys)
  where
    go : (b : Bool) → same_entry x y ≡ b → take (common_beginning xs ys) xs ≡ take (common_beginning xs ys) ys
        → take (cond b (suc (common_beginning xs ys)) 0) (x ∷ xs) ≡ take (cond b (suc (common_beginning xs ys)) 0) (y ∷ ys)
    go true e h = λ i. same_entry_eq x y e i ∷ h i
    go false e h = refl

-- as far as wanted within it
pub common_first : (n : ℕ) (xs ys : List Entry) → n ≤ common_beginning xs ys → take n ys ≡ take n xs
common_first n xs ys h =
    sym (take-take n (common_beginning xs ys) ys h) ∙ ap (take n) (sym (common_agrees xs ys)) ∙ take-take n (common_beginning xs ys) xs h

-- and can't be longer: whatever both agree on is within it
pub common_longest : (n : ℕ) (xs ys : List Entry) → n ≤ length xs → n ≤ length ys → take n xs ≡ take n ys → n ≤ common_beginning xs ys
unfolding common_beginning
common_longest zero xs ys hx hy e = omega arith
common_longest (suc n) [] ys hx hy e = absurd (omega arith)
common_longest (suc n) (x ∷ xs) [] hx hy e = absurd (omega arith)
common_longest (suc n) (x ∷ xs) (y ∷ ys) hx hy e = go (common_longest n xs ys (le_of_suc-le-suc hx) (le_of_suc-le-suc hy)) (same_entry x y) refl
  where
    head : x ≡ y
    head = cc

    tail : take n xs ≡ take n ys
    tail = cc

    go : (take n xs ≡ take n ys → n ≤ common_beginning xs ys) → (b : Bool) → same_entry x y ≡ b → suc n ≤ cond b (suc (common_beginning xs ys)) 0
    go ih true q = omega (arith, ih tail)
    go ih false q = not_both (same_entry x y) (ap (λ (z : Entry). same_entry x z) (sym head) ∙ same_entry_refl x) q

-- ---- a beginning

-- xs is a beginning of ys, as facts
pub record Beginning (xs ys : List Entry) : Type 0 where
  pub long : length xs ≤ length ys
  pub same : take (length xs) ys ≡ xs

pub beginning : (xs ys : List Entry) → is_beginning xs ys ≡ true → Beginning xs ys
beginning xs ys e =
    let q = eqb-true (common_beginning xs ys) (length xs) e in
    record { long = omega (arith, (common_le xs ys).1); same = sym (rw q at (common_agrees xs ys)) ∙ take-length xs }

pub is_beginning_lem : {xs ys : List Entry} → Beginning xs ys → is_beginning xs ys ≡ true
is_beginning_lem {xs} {ys} b =
    eq-eqb (common_beginning xs ys) (length xs)
    (omega (arith, (common_le xs ys).0, common_longest (length xs) xs ys (omega arith) b.long (take-length xs ∙ sym b.same)))

-- the first k entries of a list are a beginning of any list that has them too
pub first_beginning : (k : ℕ) (xs ys : List Entry) → k ≤ length xs → k ≤ length ys → take k xs ≡ take k ys → is_beginning (take k xs) ys ≡ true
first_beginning k xs ys hx hy e =
    let n : length (take k xs) ≡ k = length-take-le k xs hx in is_beginning_lem (record { long = omega arith; same = rw n (sym e) })

pub beginning_trans : {xs ys zs : List Entry} → Beginning xs ys → Beginning ys zs → Beginning xs zs
beginning_trans {xs} {ys} {zs} a b =
    record {
      long = omega (arith, a.long, b.long);
      same = sym (take-take (length xs) (length ys) zs a.long) ∙ ap (take (length xs)) b.same ∙ a.same;
    }

-- entry by entry
pub beginning_at : {xs ys : List Entry} → Beginning xs ys → (n : ℕ) → n ≤ length xs → entry_at ys n ≡ entry_at xs n
beginning_at {xs} {ys} b n h = sym (entry_at_take (length xs) n ys h) ∙ ap (λ (zs : List Entry). entry_at zs n) b.same

-- ---- a rollback

-- the longest common beginning and then the rest of b is b, whatever both logs are
pub rolled_is : (a b : Log) → joined a b (common_beginning (live a) (live b)) ≡ b
rolled_is a b =
    let k : ℕ = common_beginning (live a) (live b) in
    let l = common_le (live a) (live b) in
    let e : take k a.entries ≡ take k b.entries = first_slots a k l.0 ∙ common_agrees (live a) (live b) ∙ sym (first_slots b k l.1) in
    λ i. record { entries = joined_same k a.entries b.entries e i; len = b.len }
