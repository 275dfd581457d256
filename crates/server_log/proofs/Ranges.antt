-- What makes a log of one that fits gives one that fits, and so does each of its entries, and its rows. Assumes nothing.
use mathlib.Core.Path.{◌≡◌, refl, ◌∙◌}
use mathlib.Core.List.{List, [], ◌∷◌}
use mathlib.Core.Bool.{Bool, true, false, cond}
use mathlib.Core.Logic.{⊎_elim}
use Prim.Native.Nat.{ℕ, zero, suc, ◌+◌, ◌<◌, ◌≤◌}
use native.Mathlib.Omega.{arith}
use lib.Dec.{ltb, leb}
use lib.ListN.{length, get_or, take, set, length-set, length-take, length-replicate, get_or-replicate, get_or-eq_default}
use lib.Seq.{get_or-take, get_or-drop}
use borrow.Author.Tests.{ltb-true}
use Rattle.base.proofs.Facts.{lt_or_le}
use Rattle.clock.specs.Times.{limit}
use Rattle.base.proofs.Joined.{length_joined, joined_low, joined_high}
use Rattle.base.proofs.Replaced.{all_set}
use Rattle.server_log.specs.declared.Entry.{Entry}
use Rattle.server_log.specs.declared.Log.{Log}
use Rattle.server_log.specs.declared.rows.Latest.{Latest}
use Rattle.server_log.specs.Entries.{zero_entry, entry_at}
use Rattle.server_log.specs.Logs.{log_limit, live, length_of, has_room, appended, joined}
use Rattle.server_log.specs.Order.{highest_key}
use Rattle.server_log.specs.Rows.{keys, zero_row, zero_rows, latest_after, latest_over, between, rows_of}
use Rattle.server_log.specs.Ranges.{FitsEntry, FitsLog, FitsLatest, FitsRows}
use Rattle.server_log.proofs.Live.{entry_at_zero, entry_at_past, entry_at_slot}

fits_zero_entry : FitsEntry zero_entry
fits_zero_entry = record { term = omega arith; key = omega arith; value = omega arith; time = record { p = omega arith; l = omega arith } }

-- the entry at any position fits, the zero entry where there is none
pub fits_entry : {g : Log} → FitsLog g → (n : ℕ) → FitsEntry (entry_at (live g) n)
fits_entry {g} f zero = rw (← entry_at_zero (live g) 0 refl) fits_zero_entry
fits_entry {g} f (suc i) = ⊎_elim here past (lt_or_le i (length (live g)))
  where
    past : length (live g) ≤ i → FitsEntry (entry_at (live g) (suc i))
    past h = rw (← entry_at_past (live g) (suc i) (omega arith)) fits_zero_entry

    here : i < length (live g) → FitsEntry (entry_at (live g) (suc i))
    here h =
        rw (entry_at_slot g i (omega (arith, length-take g.len g.entries)))
        (f.each i (omega (arith, length-take g.len g.entries, f.slots)))

pub fits_appended : {g : Log} {e : Entry} → FitsLog g → FitsEntry e → FitsLog (appended g e)
unfolding has_room appended
fits_appended {g} {e} f new = go (ltb g.len log_limit) refl
  where
    go : (b : Bool) → ltb g.len log_limit ≡ b → FitsLog (cond b (record { entries = set g.entries g.len e; len = g.len + 1 }) g)
    go true h =
        record {
          slots = length-set g.entries g.len e ∙ f.slots;
          len = omega (arith, ltb-true g.len log_limit h);
          each = all_set FitsEntry g.entries zero_entry log_limit (omega (arith, f.slots)) f.each g.len e new;
        }
    go false h = f

pub fits_joined : {a b : Log} (k : ℕ) → FitsLog a → FitsLog b → k ≤ length_of a → FitsLog (joined a b k)
fits_joined {a} {b} k fa fb h =
    record {
      slots = length_joined k a.entries b.entries within (omega (arith, within, fa.slots, fb.slots)) ∙ fb.slots;
      len = fb.len;
      each = λ i l. ⊎_elim (λ m. rw (joined_low zero_entry k a.entries b.entries within i m) (fa.each i l))
          (λ m. rw (joined_high zero_entry k a.entries b.entries within i m) (fb.each i l)) (lt_or_le i k);
    }
  where
    within : k ≤ length a.entries
    within = omega (arith, length-take a.len a.entries)

-- ---- rows

-- every entry of a list fits, and the zero entry past its end
abbrev pub FitEntries : List Entry → Type 0
FitEntries es = (i : ℕ) → FitsEntry (get_or es i zero_entry)

fit_taken : (es : List Entry) (n : ℕ) → FitEntries es → FitEntries (take n es)
fit_taken es n f i =
    ⊎_elim (λ l. rw (get_or-take n es i zero_entry l) (f i)) (λ l. rw (get_or-eq_default (take n es) zero_entry {n = i} (omega (arith, length-take n es))) fits_zero_entry)
    (lt_or_le i n)

pub fit_live : {g : Log} → FitsLog g → FitEntries (live g)
fit_live {g} f = fit_taken g.entries g.len (λ i. ⊎_elim (f.each i) (λ l. rw (get_or-eq_default g.entries zero_entry {n = i} (omega (arith, f.slots))) fits_zero_entry) (lt_or_le i log_limit))

pub fit_between : {g : Log} → FitsLog g → (k n : ℕ) → FitEntries (between g k n)
fit_between {g} f k n i = rw (get_or-drop k (take n (live g)) i zero_entry) (fit_taken (live g) n (fit_live f) (k + i))

pub fits_zero_row : FitsLatest zero_row
fits_zero_row = record { slots = length-replicate {A = ℕ} keys 0; each = λ key h. rw (get_or-replicate {A = ℕ} keys key 0 0 h) (omega arith) }

pub fits_zero_rows : FitsRows zero_rows
fits_zero_rows = record { whole = fits_zero_row; committed = fits_zero_row }

pub fits_after : {v : Latest} {e : Entry} → FitsLatest v → FitsEntry e → FitsLatest (latest_after v e)
unfolding latest_after
fits_after {v} {e} f new = go (leb e.key highest_key)
  where
    go : (b : Bool) → FitsLatest (cond b (record { values = set v.values e.key e.value }) v)
    go true =
        record {
          slots = length-set v.values e.key e.value ∙ f.slots;
          each = all_set (λ n. n ≤ limit) v.values 0 keys (omega (arith, f.slots)) f.each e.key e.value new.value;
        }
    go false = f

pub fits_over : {v : Latest} (es : List Entry) → FitsLatest v → FitEntries es → FitsLatest (latest_over v es)
fits_over [] f all = f
fits_over {v = v} (e ∷ es) f all = fits_over {v = latest_after v e} es (fits_after f (all 0)) (λ i. all (suc i))

pub fits_rows_of : {g : Log} → FitsLog g → (commit : ℕ) → FitsRows (rows_of g commit)
fits_rows_of {g} f commit = record { whole = fits_over (live g) fits_zero_row (fit_live f); committed = fits_over (take commit (live g)) fits_zero_row (fit_taken (live g) commit (fit_live f)) }
