-- How one entry more, and a join, change the entry at a position and the last one. Assumes nothing.
use mathlib.Core.Path.{◌≡◌, refl, ap, sym, ◌∙◌}
use mathlib.Core.List.{List, [], ◌∷◌, ◌++◌}
use Prim.Native.Nat.{ℕ, zero, suc, ◌<◌, ◌≤◌}
use native.Mathlib.Nat.{le_of_suc-le-suc}
use native.Mathlib.Omega.{arith}
use lib.ListN.{length, take, length-append, get_or-append}
use lib.Seq.{get_or-append_seam, ext_get_or, get_or-take, length-take-le}
use Rattle.base.specs.Lists.{joined_at}
use Rattle.base.proofs.Joined.{length_joined, joined_low, joined_high}
use Rattle.server_log.specs.declared.Entry.{Entry}
use Rattle.server_log.specs.Entries.{zero_entry, entry_at}
use Rattle.server_log.proofs.Live.{entry_at_take}

-- ---- one entry more

module _ (es : List Entry) (e : Entry) where
  pub length_more : length (es ++ (e ∷ [])) ≡ suc (length es)
  length_more = length-append es (e ∷ []) ∙ omega arith

  pub entry_at_old : (n : ℕ) → n ≤ length es → entry_at (es ++ (e ∷ [])) n ≡ entry_at es n
  unfolding entry_at
  entry_at_old zero h = refl
  entry_at_old (suc i) h = get_or-append es (e ∷ []) zero_entry i h

  pub entry_at_new : entry_at (es ++ (e ∷ [])) (suc (length es)) ≡ e
  unfolding entry_at
  entry_at_new = get_or-append_seam es e [] zero_entry

  -- it is the last entry: its term is the last term, its time the applied time
  pub last_more : entry_at (es ++ (e ∷ [])) (length (es ++ (e ∷ []))) ≡ e
  last_more = ap (entry_at (es ++ (e ∷ []))) length_more ∙ entry_at_new

-- ---- a join

module _ (k : ℕ) (xs ys : List Entry) (kx : k ≤ length xs) where
  pub entry_at_joined_low : (n : ℕ) → n ≤ k → entry_at (joined_at k xs ys) n ≡ entry_at xs n
  unfolding entry_at
  entry_at_joined_low zero h = refl
  entry_at_joined_low (suc i) h = joined_low zero_entry k xs ys kx i h

  pub entry_at_joined_high : (n : ℕ) → k < n → entry_at (joined_at k xs ys) n ≡ entry_at ys n
  unfolding entry_at
  entry_at_joined_high zero h = refl
  entry_at_joined_high (suc i) h = joined_high zero_entry k xs ys kx i (le_of_suc-le-suc h)

  -- where ys is longer, its last entry is the last
  pub last_joined : k < length ys → entry_at (joined_at k xs ys) (length (joined_at k xs ys)) ≡ entry_at ys (length ys)
  last_joined h =
      ap (entry_at (joined_at k xs ys)) (length_joined k xs ys kx (omega arith)) ∙ entry_at_joined_high (length ys) h

-- ---- logs that have the same entries

-- the first n entries are the same where each position's are
pub same_first : (n : ℕ) (xs ys : List Entry) → n ≤ length xs → n ≤ length ys → ((m : ℕ) → m ≤ n → entry_at xs m ≡ entry_at ys m) → take n xs ≡ take n ys
unfolding entry_at
same_first n xs ys hx hy same =
    ext_get_or zero_entry (take n xs) (take n ys) (length-take-le n xs hx ∙ sym (length-take-le n ys hy))
    (λ i h.
    let l : i < n = omega (arith, length-take-le n xs hx) in
    get_or-take n xs i zero_entry l ∙ same (suc i) l ∙ sym (get_or-take n ys i zero_entry l))

-- and the other way round
pub first_same : (n : ℕ) (xs ys : List Entry) → take n xs ≡ take n ys → (m : ℕ) → m ≤ n → entry_at xs m ≡ entry_at ys m
first_same n xs ys e m h =
    sym (entry_at_take n m xs h) ∙ ap (λ (zs : List Entry). entry_at zs m) e ∙ entry_at_take n m ys h
