-- A log with an array a field: filled slot by slot, and lent as far as its entries go. Assumes nothing.
use mathlib.Core.Path.{◌≡◌, refl, sym, ap, ◌∙◌}
use mathlib.Core.List.{List, [], ◌∷◌, map}
use Prim.Native.Nat.{ℕ, zero, suc, ◌+◌, ◌<◌}
use native.Mathlib.Omega.{arith}
use lib.ListN.{length, get_or, set, take, replicate, length-map, length-replicate, get_or-map}
use lib.Seq.{take-length}
use Rattle.server_log.specs.declared.Entry.{Entry}
use Rattle.server_log.specs.declared.Log.{Log}
use Rattle.server_log.specs.Entries.{zero_entry}
use Rattle.server_log.specs.Logs.{log_limit, live, length_of}
use Rattle.server_log.proofs.Live.{first_slots}
use Rattle.hex_text.proofs.Places.{Put, put_none, put_more, put_all_lem}
use Rattle.hex_text.proofs.Trips.{over_all}
use Rattle.histories.specs.Committed.{committed_limit, entries_on, entries_of}
use Rattle.histories.specs.Longest.{columns_of}
use Rattle.verdicts.specs.declared.Spread.{Spread}
use Rattle.verdicts.specs.Verdicts.{all_columns, first_columns}

-- ---- slot by slot

abbrev zeros : List ℕ
zeros = replicate committed_limit 0

-- a field of each entry, the first i of which are put into the array
abbrev Filled : (Entry → ℕ) → List Entry → List ℕ → ℕ → Type 0
Filled f es column i = Put (map f es) zeros column i

module _ (es : List Entry) (long : length es ≡ log_limit) (f : Entry → ℕ) (z : f zero_entry ≡ 0) {column : List ℕ} {i : ℕ} (u : Filled f es column i) where
  filled_more : i < log_limit → Filled f es (set column i (f (get_or es i zero_entry))) (i + 1)
  filled_more h =
      put_more u (omega (arith, length-map es f)) (omega (arith, length-replicate {A = ℕ} committed_limit 0))
      (sym (ap (get_or (map f es) i) (sym z) ∙ get_or-map f es i zero_entry))

  filled_all : i ≡ log_limit → column ≡ map f es
  filled_all h =
      put_all_lem u (omega (arith, length-map es f, length-replicate {A = ℕ} committed_limit 0))
      ∙ over_all (map f es) zeros (omega (arith, length-map es f, length-replicate {A = ℕ} committed_limit 0))

-- all five
pub record AllFilled (es : List Entry) (c : Spread) (i : ℕ) : Type 0 where
  pub terms : Filled (λ e. e.term) es c.terms i
  pub keys : Filled (λ e. e.key) es c.keys i
  pub values : Filled (λ e. e.value) es c.values i
  pub ps : Filled (λ e. e.time.p) es c.ps i
  pub ls : Filled (λ e. e.time.l) es c.ls i

pub all_none : (es : List Entry) → AllFilled es (record { terms = zeros; keys = zeros; values = zeros; ps = zeros; ls = zeros }) 0
all_none es = record { terms = put_none _ _; keys = put_none _ _; values = put_none _ _; ps = put_none _ _; ls = put_none _ _ }

module _ {es : List Entry} {c : Spread} {i : ℕ} (u : AllFilled es c i) (long : length es ≡ log_limit) where
  pub all_more : (e : Entry) → i < log_limit → e ≡ get_or es i zero_entry
      → AllFilled es
      (record {
        terms = set c.terms i e.term;
        keys = set c.keys i e.key;
        values = set c.values i e.value;
        ps = set c.ps i e.time.p;
        ls = set c.ls i e.time.l;
      })
      (i + 1)
  all_more e h p =
      rw p
      record {
        terms = filled_more es long (λ d. d.term) refl u.terms h;
        keys = filled_more es long (λ d. d.key) refl u.keys h;
        values = filled_more es long (λ d. d.value) refl u.values h;
        ps = filled_more es long (λ d. d.time.p) refl u.ps h;
        ls = filled_more es long (λ d. d.time.l) refl u.ls h;
      }

  -- every slot
  pub all_done : (g : Log) → g.entries ≡ es → i ≡ log_limit → c ≡ all_columns g
  all_done g p h =
      rw p
      (λ j. record {
        terms = filled_all es long (λ d. d.term) refl u.terms h j;
        keys = filled_all es long (λ d. d.key) refl u.keys h j;
        values = filled_all es long (λ d. d.value) refl u.values h j;
        ps = filled_all es long (λ d. d.time.p) refl u.ps h j;
        ls = filled_all es long (λ d. d.time.l) refl u.ls h j;
      })

-- ---- as far as the entries go

map_take : (f : Entry → ℕ) (n : ℕ) (es : List Entry) → take n (map f es) ≡ map f (take n es)
map_take f zero es = refl
map_take f (suc n) [] = refl
map_take f (suc n) (e ∷ es) = ap (λ (l : List ℕ). f e ∷ l) (map_take f n es)

module _ (g : Log) (n : ℕ) (h : n ≡ length_of g) where
  take_live : take n g.entries ≡ live g
  take_live =
      ap (λ (k : ℕ). take k g.entries) h
      ∙ first_slots g (length_of g) (omega arith) ∙ take-length (live g)

  part : (f : Entry → ℕ) → take n (map f g.entries) ≡ map f (live g)
  part f = map_take f n g.entries ∙ ap (map f) take_live

  pub lent_columns : (c : Spread) → c ≡ all_columns g
      → first_columns n c ≡ columns_of (live g)
  lent_columns c e =
      rw e
      (cc (part (λ d. d.term), part (λ d. d.key), part (λ d. d.value), part (λ d. d.time.p), part (λ d. d.time.l)))

-- the entries of a log that is lent are the log's
pub columns_same : (es : List Entry) → entries_of (columns_of es) ≡ es
unfolding entries_on
columns_same [] = refl
columns_same (e ∷ es) = ap (λ (fs : List Entry). e ∷ fs) (columns_same es)
