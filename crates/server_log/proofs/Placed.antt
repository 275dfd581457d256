-- Laws of `in_order` and `rest_zero`, for their loops. Assumes nothing.
use mathlib.Core.Path.{◌≡◌, refl, ap, sym}
use mathlib.Core.List.{List, [], ◌∷◌}
use mathlib.Core.Bool.{Bool, true, false, ◌&&◌}
use Prim.Native.Nat.{ℕ, suc, ◌+◌, ◌<◌, ◌≤◌, min}
use native.Mathlib.Numerals.{add-one}
use native.Mathlib.Omega.{arith}
use lib.ListN.{length, drop, drop_of_length-le}
use Rattle.std.specs.List.{list_all}
use Rattle.base.specs.Numbers.{every}
use Rattle.base.proofs.Facts.{lt_or_le}
use mathlib.Core.Logic.{⊎_elim}
use Rattle.base.proofs.Every.{every_none, every_more, every_fails}
use Rattle.server_log.specs.declared.Entry.{Entry}
use Rattle.server_log.specs.declared.Log.{Log}
use Rattle.server_log.specs.Entries.{zero_entry, same_entry, entry_at}
use Rattle.server_log.specs.Order.{place_ok, in_order, all_zero, rest_zero}

-- ---- a loop over the entries that carries the last one along

-- the first i entries stand in their places, and d is the last of them
pub record Placed (term : ℕ) (es : List Entry) (i : ℕ) (d : Entry) : Type 0 where
  pub within : i ≤ length es
  pub last : d ≡ entry_at es i
  pub right : every i (λ j. place_ok term j (entry_at es j) (entry_at es (suc j))) ≡ true

pub placed_none : {term : ℕ} {es : List Entry} → Placed term es 0 zero_entry
unfolding entry_at
placed_none = record { within = omega arith; last = refl; right = every_none _ }

module _ {term : ℕ} {es : List Entry} {i : ℕ} {d : Entry} (u : Placed term es i d) where
  pub placed_all : i ≡ length es → true ≡ in_order term es
  unfolding in_order
  placed_all h = sym (rw (← h) u.right)

  module _ (e : Entry) (q : entry_at es (suc i) ≡ e) (h : i < length es) where
    pub placed_more : place_ok term i d e ≡ true → Placed term es (i + 1) e
    placed_more ok =
        record {
          within = omega arith;
          last = sym (rw add-one q);
          right = every_more _ i u.right (rw (← u.last, q) ok);
        }

    pub placed_fails : place_ok term i d e ≡ false → false ≡ in_order term es
    unfolding in_order
    placed_fails bad = sym (every_fails _ (length es) i h (rw (← u.last, q) bad))

-- ---- the slots from k on

-- every entry is zero just where each is the zero entry
pub all_zero_listed : (es : List Entry) → all_zero es ≡ list_all (λ e. same_entry e zero_entry) es
all_zero_listed [] = refl
all_zero_listed (e ∷ es) = ap (λ (b : Bool). same_entry e zero_entry && b) (all_zero_listed es)

-- past the last slot there is none
pub rest_cut : (g : Log) (k n : ℕ) → length g.entries ≡ n → all_zero (drop (min k n) g.entries) ≡ rest_zero g k
unfolding rest_zero
rest_cut g k n h = ⊎_elim (λ (l : k < n). let e : min k n ≡ k = omega arith in rw e) (λ (l : n ≤ k). let e : min k n ≡ n = omega arith in rw (e, drop_of_length-le g.entries {i = n} (omega arith), drop_of_length-le g.entries {i = k} (omega arith))) (lt_or_le k n)
