-- The latest value: the entry that a read finds has the key and none later has; and a walk from the end that finds it. Assumes nothing.
use mathlib.Core.Path.{◌≡◌, refl, ap, sym, ◌∙◌}
use mathlib.Core.List.{List}
use mathlib.Core.Logic.{◌≢◌}
use Prim.Native.Nat.{ℕ, ◌-◌, ◌<◌, ◌≤◌}
use native.Mathlib.Omega.{arith}
use lib.Dec.{eqb}
use lib.ListN.{length, take}
use lib.Seq.{length-take-le}
use borrow.Author.Tests.{eqb-true, eqb-false, eq-eqb, ne_eqb}
use Rattle.base.specs.Numbers.{highest}
use Rattle.base.proofs.Highest.{highest_here, highest_down, highest_is, highest_le, highest_passes, highest_above}
use Rattle.server_log.specs.declared.Entry.{Entry}
use Rattle.server_log.specs.Entries.{entry_at, for_key, latest_value}
use Rattle.server_log.proofs.Live.{entry_at_take}

-- ---- 01's sentence

-- the position that a read looks at, 0 if there is none
abbrev pub found : ℕ → List Entry → ℕ
found key es = highest (for_key key es) (length es)

pub latest_found : (key : ℕ) (es : List Entry) → latest_value key es ≡ (entry_at es (found key es)).value
unfolding latest_value
latest_found key es = refl

-- it is a position of the log, and has the key
pub found_le : (key : ℕ) (es : List Entry) → found key es ≤ length es
found_le key es = highest_le (for_key key es) (length es)

pub found_key : (key : ℕ) (es : List Entry) → 1 ≤ found key es → (entry_at es (found key es)).key ≡ key
found_key key es h = eqb-true (entry_at es (found key es)).key key (highest_passes (for_key key es) (length es) h)

-- none later has
pub found_last : (key : ℕ) (es : List Entry) (n : ℕ) → found key es < n → n ≤ length es → (entry_at es n).key ≡ key → ⊥
found_last key es n h l = eqb-false (entry_at es n).key key (highest_above (for_key key es) (length es) n h l)

-- ---- what stands at a position decides what a read finds

pub key_of : {d e : Entry} → d ≡ e → d.key ≡ e.key
key_of q = ap (λ (e : Entry). e.key) q

pub value_of : {d e : Entry} → d ≡ e → d.value ≡ e.value
value_of q = ap (λ (e : Entry). e.value) q

-- a position that has the key, where none later has, is the one that a read finds; 0 where none has
pub found_at : (key : ℕ) (es : List Entry) (p : ℕ) → p ≤ length es → (1 ≤ p → (entry_at es p).key ≡ key)
    → ((j : ℕ) → p < j → j ≤ length es → (entry_at es j).key ≢ key) → found key es ≡ p
found_at key es p within has last =
    highest_is (for_key key es) (length es) p within (λ one. eq-eqb _ _ (has one)) (λ j l m. ne_eqb _ _ (last j l m))

-- where the position found is among the first k, these alone show the same value
pub latest_first : (key k : ℕ) (es : List Entry) → k ≤ length es → found key es ≤ k → latest_value key (take k es) ≡ latest_value key es
latest_first key k es within low =
    latest_found key (take k es) ∙ rw p (value_of (same (found key es) low)) ∙ sym (latest_found key es)
  where
    long : length (take k es) ≡ k
    long = length-take-le k es within

    same : (j : ℕ) → j ≤ k → entry_at (take k es) j ≡ entry_at es j
    same j l = entry_at_take k j es l

    p : found key (take k es) ≡ found key es
    p =
        found_at key (take k es) (found key es) (omega (arith, long)) (λ one. key_of (same (found key es) low) ∙ found_key key es one)
        (λ j l m e. found_last key es j l (omega (arith, long)) (key_of (sym (same j (omega (arith, long)))) ∙ e))

-- ---- a walk from the end

-- what a read finds is among the first i
pub record LatestWithin (key : ℕ) (es : List Entry) (i : ℕ) : Type 0 where
  pub none_above : highest (for_key key es) (length es) ≡ highest (for_key key es) i

pub latest_all : {key : ℕ} {es : List Entry} {i : ℕ} → i ≡ length es → LatestWithin key es i
latest_all {key} {es} h = record { none_above = ap (highest (for_key key es)) (sym h) }

module _ {key : ℕ} {es : List Entry} {i : ℕ} (u : LatestWithin key es i) (e : Entry) (q : entry_at es i ≡ e) where
  -- the walk ends at the first entry for the key
  pub latest_here : (i ≡ 0 → ⊥) → e.key ≡ key → e.value ≡ latest_value key es
  unfolding latest_value
  latest_here some h =
      let here : highest (for_key key es) (length es) ≡ i = u.none_above ∙ highest_here (for_key key es) i some (ap (λ (d : Entry). eqb d.key key) q ∙ eq-eqb _ _ h) in
      sym (ap (λ (m : ℕ). (entry_at es m).value) here ∙ ap (λ (d : Entry). d.value) q)

  pub latest_below : (e.key ≡ key → ⊥) → LatestWithin key es (i - 1)
  latest_below h = record { none_above = u.none_above ∙ highest_down (for_key key es) i (ap (λ (d : Entry). eqb d.key key) q ∙ ne_eqb _ _ h) }

pub latest_none : {key : ℕ} {es : List Entry} → LatestWithin key es 0 → 0 ≡ latest_value key es
unfolding highest entry_at latest_value
latest_none {es = es} u = sym (ap (λ (m : ℕ). (entry_at es m).value) u.none_above)
