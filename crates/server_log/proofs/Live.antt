-- A log by positions: how many entries, and which stands at a position. Assumes nothing.
use mathlib.Core.Path.{◌≡◌, refl, ap, sym, ◌∙◌}
use mathlib.Core.List.{List}
use Prim.Native.Nat.{ℕ, zero, suc, ◌-◌, ◌<◌, ◌≤◌, min}
use native.Mathlib.Nat.{le_of_suc-le-suc}
use native.Mathlib.Omega.{arith}
use lib.ListN.{length, get_or, take, length-take, get_or-eq_default}
use lib.Seq.{get_or-take, take-take}
use Rattle.server_log.specs.declared.Entry.{Entry}
use Rattle.server_log.specs.declared.Log.{Log}
use Rattle.server_log.specs.Entries.{zero_entry, entry_at}
use Rattle.server_log.specs.Logs.{live, length_of}

-- the length is the number of entries, cut at the slots
pub length_live : (g : Log) (n : ℕ) → length g.entries ≡ n → length_of g ≡ min g.len n
length_live g n h = omega (arith, length-take g.len g.entries)

-- and the first slots are the first entries, as far as there are any
pub first_slots : (g : Log) (n : ℕ) → n ≤ length_of g → take n g.entries ≡ take n (live g)
first_slots g n h = sym (take-take n g.len g.entries (omega (arith, length-take g.len g.entries)))

-- position 0 and positions past the end hold the zero entry
pub entry_at_zero : (es : List Entry) (n : ℕ) → n ≡ 0 → zero_entry ≡ entry_at es n
unfolding entry_at
entry_at_zero es n e = rw e

pub entry_at_past : (es : List Entry) (n : ℕ) → length es < n → zero_entry ≡ entry_at es n
unfolding entry_at
entry_at_past es zero h = refl
entry_at_past es (suc i) h = sym (get_or-eq_default es zero_entry (le_of_suc-le-suc h))

pub entry_at_suc : (es : List Entry) (i : ℕ) → entry_at es (suc i) ≡ get_or es i zero_entry
unfolding entry_at
entry_at_suc es i = refl

-- the entry at a position of the first n entries
pub entry_at_take : (n m : ℕ) (es : List Entry) → m ≤ n → entry_at (take n es) m ≡ entry_at es m
unfolding entry_at
entry_at_take n zero es h = refl
entry_at_take n (suc i) es h = get_or-take n es i zero_entry h

-- the entry in slot i stands at position i + 1
pub entry_at_slot : (g : Log) (i : ℕ) → i < g.len → entry_at (live g) (suc i) ≡ get_or g.entries i zero_entry
entry_at_slot g i h = entry_at_take g.len (suc i) g.entries h ∙ entry_at_suc g.entries i

pub entry_at_before : (g : Log) (n : ℕ) → (n ≡ 0 → ⊥) → n ≤ g.len → get_or g.entries (n - 1) zero_entry ≡ entry_at (live g) n
unfolding entry_at
entry_at_before g zero h l = absurd (h refl)
entry_at_before g (suc i) h l = ap (λ (k : ℕ). get_or g.entries k zero_entry) (omega arith) ∙ sym (entry_at_slot g i l)
