-- The entries of a committed log that is lent as five lists: how many, and which stands at a position. Assumes nothing.
use mathlib.Core.Path.{◌≡◌, refl, ap, sym, ◌∙◌}
use mathlib.Core.List.{List, [], ◌∷◌}
use Prim.Native.Nat.{ℕ, zero, suc, ◌-◌, ◌<◌, ◌≤◌, min}
use native.Mathlib.Nat.{not-suc-le-zero, le_of_suc-le-suc}
use native.Mathlib.Omega.{arith}
use lib.ListN.{length, get_or}
use Rattle.server_log.specs.declared.Entry.{Entry}
use Rattle.server_log.specs.Entries.{zero_entry, entry_at}
use Rattle.server_log.proofs.Live.{entry_at_suc}
use Rattle.histories.specs.Obeying.{Together}
use Rattle.histories.specs.Committed.{Committed, entries_on, entries_of}

min_suc : (a b : ℕ) → suc (min a b) ≡ min (suc a) (suc b)
min_suc a b = omega arith

pub length_joined : (ts ks vs ps ls : List ℕ) → length (entries_on ts ks vs ps ls) ≡ min (min (min (min (length ts) (length ks)) (length vs)) (length ps)) (length ls)
unfolding entries_on
length_joined [] ks vs ps ls = omega arith
length_joined (t ∷ ts) [] vs ps ls = omega arith
length_joined (t ∷ ts) (k ∷ ks) [] ps ls = omega arith
length_joined (t ∷ ts) (k ∷ ks) (v ∷ vs) [] ls = omega arith
length_joined (t ∷ ts) (k ∷ ks) (v ∷ vs) (p ∷ ps) [] = omega arith
length_joined (t ∷ ts) (k ∷ ks) (v ∷ vs) (p ∷ ps) (l ∷ ls) =
    ap suc (length_joined ts ks vs ps ls) ∙ min_suc _ _
    ∙ ap (λ (m : ℕ). min m (suc (length ls))) (min_suc _ _ ∙ ap (λ (m : ℕ). min m (suc (length ps))) (min_suc _ _ ∙ ap (λ (m : ℕ). min m (suc (length vs))) (min_suc _ _)))

-- n is not above the length of any list
pub record Within (g : Committed) (n : ℕ) : Type 0 where
  pub terms : n ≤ length g.terms
  pub keys : n ≤ length g.keys
  pub values : n ≤ length g.values
  pub ps : n ≤ length g.ps
  pub ls : n ≤ length g.ls

min_left : (n x y : ℕ) → n ≤ min x y → n ≤ x
min_left n x y q = omega arith

min_right : (n x y : ℕ) → n ≤ min x y → n ≤ y
min_right n x y q = omega arith

-- what the five lists have at place i
abbrev slot_at : List ℕ → List ℕ → List ℕ → List ℕ → List ℕ → ℕ → Entry
slot_at ts ks vs ps ls i =
    record { term = get_or ts i 0; key = get_or ks i 0; value = get_or vs i 0; time = record { p = get_or ps i 0; l = get_or ls i 0 } }

joined_at : (ts ks vs ps ls : List ℕ) (i : ℕ) → i < length (entries_on ts ks vs ps ls) → slot_at ts ks vs ps ls i ≡ get_or (entries_on ts ks vs ps ls) i zero_entry
unfolding entries_on
joined_at [] ks vs ps ls i h = absurd (not-suc-le-zero h)
joined_at (t ∷ ts) [] vs ps ls i h = absurd (not-suc-le-zero h)
joined_at (t ∷ ts) (k ∷ ks) [] ps ls i h = absurd (not-suc-le-zero h)
joined_at (t ∷ ts) (k ∷ ks) (v ∷ vs) [] ls i h = absurd (not-suc-le-zero h)
joined_at (t ∷ ts) (k ∷ ks) (v ∷ vs) (p ∷ ps) [] i h = absurd (not-suc-le-zero h)
joined_at (t ∷ ts) (k ∷ ks) (v ∷ vs) (p ∷ ps) (l ∷ ls) zero h = refl
joined_at (t ∷ ts) (k ∷ ks) (v ∷ vs) (p ∷ ps) (l ∷ ls) (suc i) h = joined_at ts ks vs ps ls i (le_of_suc-le-suc h)

module _ (g : Committed) (n : ℕ) (h : n ≤ length (entries_of g)) where
  -- a position of the log is one of each list
  pub within : Within g n
  within =
      let a = rw (length_joined g.terms g.keys g.values g.ps g.ls) at h in
      let b = min_left n _ (length g.ls) a in
      let c = min_left n _ (length g.ps) b in
      let d = min_left n _ (length g.values) c in
      record {
        terms = min_left n _ (length g.keys) d;
        keys = min_right n (length g.terms) _ d;
        values = min_right n _ (length g.values) c;
        ps = min_right n _ (length g.ps) b;
        ls = min_right n _ (length g.ls) a;
      }

  pub lent_at : 1 ≤ n → slot_at g.terms g.keys g.values g.ps g.ls (n - 1) ≡ entry_at (entries_of g) n
  lent_at one =
      let e : n ≡ suc (n - 1) = omega arith in
      joined_at g.terms g.keys g.values g.ps g.ls (n - 1) (omega arith) ∙ sym (ap (entry_at (entries_of g)) e ∙ entry_at_suc (entries_of g) (n - 1))

-- lists of one length have an entry for each place
pub length_together : (g : Committed) → Together g → length (entries_of g) ≡ length g.terms
length_together g t =
    length_joined g.terms g.keys g.values g.ps g.ls ∙ rw (t.keys, t.values, t.ps, t.ls) (omega arith)
