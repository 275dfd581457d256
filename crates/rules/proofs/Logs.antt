-- Logs stay in order: under a greater term, with one entry more, and joined where both agree. Assumes nothing.
use mathlib.Core.Path.{◌≡◌, ◌∙◌}
use mathlib.Core.List.{List, [], ◌∷◌, ◌++◌}
use mathlib.Core.Bool.{true}
use mathlib.Core.Logic.{⊎_elim}
use Prim.Native.Nat.{ℕ, suc, ◌<◌, ◌≤◌, max}
use native.Mathlib.Nat.{eq-or-lt_of_le, le_trans}
use native.Mathlib.Omega.{arith}
use lib.ListN.{length}
use Rattle.base.specs.Lists.{joined_at}
use Rattle.base.proofs.Facts.{lt_or_le}
use Rattle.base.proofs.Joined.{length_joined}
use Rattle.clock.specs.Times.{is_before}
use Rattle.server_log.specs.declared.Entry.{Entry}
use Rattle.server_log.specs.declared.Log.{Log}
use Rattle.server_log.specs.Entries.{entry_at, last_term, applied_time}
use Rattle.server_log.specs.Logs.{live, length_of, has_room, appended, joined}
use Rattle.server_log.proofs.Live.{entry_at_zero}
use Rattle.server_log.proofs.Orderly.{EntryGood, Orderly, LogGood}
use Rattle.server_log.proofs.Positions.{length_more, entry_at_old, entry_at_new, entry_at_joined_low, entry_at_joined_high}
use Rattle.server_log.proofs.Tidy.{live_appended, tidy_appended, live_joined, tidy_joined}

-- ---- a greater term

entry_raised : {t u : ℕ} {e : Entry} → t ≤ u → EntryGood t e → EntryGood u e
entry_raised h g = record { from_one = g.from_one; not_above = omega arith; writes = g.writes }

orderly_raised : {t u : ℕ} {es : List Entry} → t ≤ u → Orderly t es → Orderly u es
orderly_raised h o = record { each = λ n p l. entry_raised h (o.each n p l); terms = o.terms; times = o.times }

pub log_raised : {t u : ℕ} {g : Log} → t ≤ u → LogGood t g → LogGood u g
log_raised h g = record { tidy = g.tidy; order = orderly_raised h g.order }

-- no term is above the server's, the last term neither
last_term_le : {term : ℕ} {es : List Entry} → Orderly term es → last_term es ≤ term
last_term_le {term} {es} o = ⊎_elim (λ h. (o.each (length es) h (omega arith)).not_above) none (lt_or_le 0 (length es))
  where
    none : length es ≤ 0 → last_term es ≤ term
    none h = rw (last_term, ← entry_at_zero es (length es) (omega arith)) (omega arith)

-- ---- what holds of every entry, and of every two that follow each other

abbrev Each : (Entry → Type 0) → List Entry → Type 0
Each P es = (n : ℕ) → 1 ≤ n → n ≤ length es → P (entry_at es n)

abbrev Along : (Entry → Entry → Type 0) → List Entry → Type 0
Along R es = (n : ℕ) → 1 ≤ n → n < length es → R (entry_at es n) (entry_at es (suc n))

module _ (es : List Entry) (e : Entry) where
  each_more : (P : Entry → Type 0) → Each P es → P e → Each P (es ++ (e ∷ []))
  each_more P old new n p l = ⊎_elim here there (lt_or_le (length es) n)
    where
      here : length es < n → P (entry_at (es ++ (e ∷ [])) n)
      here h = let q : n ≡ suc (length es) = omega (arith, length_more es e) in rw (q, entry_at_new es e) new

      there : n ≤ length es → P (entry_at (es ++ (e ∷ [])) n)
      there h = rw (entry_at_old es e n h) (old n p h)

  along_more : (R : Entry → Entry → Type 0) → Along R es → R (entry_at es (length es)) e → Along R (es ++ (e ∷ []))
  along_more R old new n p l = ⊎_elim here there (eq-or-lt_of_le within)
    where
      within : n ≤ length es
      within = omega (arith, length_more es e)

      here : n ≡ length es → R (entry_at (es ++ (e ∷ [])) n) (entry_at (es ++ (e ∷ [])) (suc n))
      here q = rw (entry_at_old es e n within) (rw (q, entry_at_new es e) new)

      there : n < length es → R (entry_at (es ++ (e ∷ [])) n) (entry_at (es ++ (e ∷ [])) (suc n))
      there h = rw (entry_at_old es e n within, entry_at_old es e (suc n) h) (old n p h)

-- a join at position k, where both have the same entry
module _ (k : ℕ) (xs ys : List Entry) (kx : k ≤ length xs) (ky : k ≤ length ys) (agree : 1 ≤ k → entry_at xs k ≡ entry_at ys k) where
  -- from k on the entries are those of ys
  from_seam : (n : ℕ) → 1 ≤ n → k ≤ n → entry_at (joined_at k xs ys) n ≡ entry_at ys n
  from_seam n p h = ⊎_elim here (λ l. entry_at_joined_high k xs ys kx n l) (eq-or-lt_of_le h)
    where
      here : k ≡ n → entry_at (joined_at k xs ys) n ≡ entry_at ys n
      here q = rw (← q) (entry_at_joined_low k xs ys kx k (omega arith) ∙ agree (omega arith))

  each_joined : (P : Entry → Type 0) → Each P xs → Each P ys → Each P (joined_at k xs ys)
  each_joined P ox oy n p l =
      ⊎_elim (λ h. rw (entry_at_joined_low k xs ys kx n (omega arith)) (ox n p (omega arith)))
      (λ h. rw (from_seam n p h) (oy n p (omega (arith, length_joined k xs ys kx ky)))) (lt_or_le n k)

  along_joined : (R : Entry → Entry → Type 0) → Along R xs → Along R ys → Along R (joined_at k xs ys)
  along_joined R ox oy n p l =
      ⊎_elim (λ h. rw (entry_at_joined_low k xs ys kx n (omega arith), entry_at_joined_low k xs ys kx (suc n) h) (ox n p (omega arith)))
      (λ h. rw (from_seam n p h, from_seam (suc n) (omega arith) (omega arith)) (oy n p (omega (arith, length_joined k xs ys kx ky))))
      (lt_or_le n k)

-- ---- one entry more, of the server's term and after the last time

pub appended_good : {term : ℕ} {g : Log} {e : Entry} → LogGood term g → EntryGood term e → term ≤ e.term
    → is_before (applied_time (live g)) e.time ≡ true → has_room g ≡ true → LogGood term (appended g e)
appended_good {term} {g} {e} o new top after room =
    record { tidy = tidy_appended o.tidy e room; order = rw (live_appended o.tidy e room) order }
  where
    order : Orderly term (live g ++ (e ∷ []))
    order =
        record {
          each = each_more (live g) e (EntryGood term) o.order.each new;
          terms = along_more (live g) e (λ x y. x.term ≤ y.term) o.order.terms (le_trans (last_term_le o.order) top);
          times = along_more (live g) e (λ x y. is_before x.time y.time ≡ true) o.order.times after;
        }

-- ---- a join where both agree

pub joined_good : {t u : ℕ} {a b : Log} → LogGood t a → LogGood u b → (k : ℕ) → k ≤ length_of a → k ≤ length_of b
    → (1 ≤ k → entry_at (live a) k ≡ entry_at (live b) k) → LogGood (max t u) (joined a b k)
joined_good {t} {u} {a} {b} x y k ka kb agree =
    record { tidy = tidy_joined x.tidy y.tidy k ka kb; order = rw (live_joined x.tidy y.tidy k ka kb) order }
  where
    order : Orderly (max t u) (joined_at k (live a) (live b))
    order =
        let ox : Orderly (max t u) (live a) = orderly_raised (omega arith) x.order in
        let oy : Orderly (max t u) (live b) = orderly_raised (omega arith) y.order in
        record {
          each = each_joined k (live a) (live b) ka kb agree (EntryGood (max t u)) ox.each oy.each;
          terms = along_joined k (live a) (live b) ka kb agree (λ d e. d.term ≤ e.term) ox.terms oy.terms;
          times = along_joined k (live a) (live b) ka kb agree (λ d e. is_before d.time e.time ≡ true) ox.times oy.times;
        }
