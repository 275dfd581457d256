-- Equal entries, decided: the test is equality of the records. Assumes nothing.
use mathlib.Core.Path.{◌≡◌, refl}
use mathlib.Core.Bool.{true}
use Prim.Native.Nat.{ℕ, ◌≤◌}
use lib.Dec.{eqb, leb}
use lib.ListN.{length}
use borrow.Author.Tests.{eqb-true, eq-eqb, leb-true}
use Rattle.base.proofs.Bools.{and_left, and_right}
use Rattle.clock.proofs.Order.{same_time_eq, same_time_refl}
use mathlib.Core.List.{List}
use Rattle.server_log.specs.declared.Entry.{Entry}
use Rattle.server_log.specs.Entries.{same_entry, entry_at, equal_at}

pub same_entry_eq : (d e : Entry) → same_entry d e ≡ true → d ≡ e
unfolding same_entry
same_entry_eq d e h =
    let h1 : d.term ≡ e.term = eqb-true d.term e.term (and_left _ _ h) in
    let r1 = and_right (eqb d.term e.term) _ h in
    let h2 : d.key ≡ e.key = eqb-true d.key e.key (and_left _ _ r1) in
    let r2 = and_right (eqb d.key e.key) _ r1 in
    let h3 : d.value ≡ e.value = eqb-true d.value e.value (and_left _ _ r2) in
    let h4 : d.time ≡ e.time = same_time_eq _ _ (and_right (eqb d.value e.value) _ r2) in
    λ i. record { term = h1 i; key = h2 i; value = h3 i; time = h4 i }

pub same_entry_refl : (d : Entry) → same_entry d d ≡ true
unfolding same_entry
same_entry_refl d =
    simp (eq-eqb _ _ (refl {a = d.term}), eq-eqb _ _ (refl {a = d.key}), eq-eqb _ _ (refl {a = d.value}), same_time_refl d.time)

-- both logs have an entry at position n, and it is the same
pub record EqualAt (xs ys : List Entry) (n : ℕ) : Type 0 where
  pub from_one : 1 ≤ n
  pub left : n ≤ length xs
  pub right : n ≤ length ys
  pub same : entry_at xs n ≡ entry_at ys n

pub equal_at_lem : (xs ys : List Entry) (n : ℕ) → equal_at xs ys n ≡ true → EqualAt xs ys n
unfolding equal_at
equal_at_lem xs ys n e =
    let f = and_right (leb 1 n) _ e in
    let g = and_right (leb n (length xs)) _ f in
    record {
      from_one = leb-true 1 n (and_left _ _ e);
      left = leb-true n (length xs) (and_left _ _ f);
      right = leb-true n (length ys) (and_left _ _ g);
      same = same_entry_eq _ _ (and_right (leb n (length ys)) _ g);
    }
