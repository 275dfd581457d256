-- A row of latest values: after entries it has what a walking read finds among them; and laws for the loops over rows. Assumes nothing.
use mathlib.Core.Path.{◌≡◌, refl, ap, sym, ◌∙◌, subst}
use mathlib.Core.List.{List, [], ◌∷◌, ◌++◌, append-nil, reverse}
use mathlib.Core.Bool.{Bool, true, false, cond, ◌&&◌}
use mathlib.Core.Logic.{⊎_elim}
use Prim.Native.Nat.{ℕ, suc, ◌+◌, ◌<◌, ◌≤◌, min}
use native.Mathlib.Numerals.{add-one}
use native.Mathlib.Omega.{arith}
use lib.Dec.{eqb, leb}
use lib.ListN.{length, get_or, take, drop, set, length-set, take-append-drop, length-replicate, get_or-replicate}
use lib.Seq.{take-append_seam, append_snoc, take-take, take-length, drop-cons, get_or-set_same, get_or-set_other, ext_get_or}
use borrow.Author.Tests.{eqb-true, eqb-false, leb-false, eq-eqb}
use Rattle.std.specs.declared.option.Option.{Option}
use Rattle.std.specs.declared.option.Option.TheVariants.{Some, None}
use Rattle.std.specs.List.{find}
use Rattle.std.proofs.lemmas.List.{reverse-append, reverse-reverse, take_min}
use Rattle.server_log.proofs.Live.{first_slots}
use lib.Pointwise.{pointwise}
use Rattle.base.specs.Numbers.{every, highest}
use Rattle.base.proofs.Bools.{and_both, and_left, and_right}
use Rattle.base.proofs.Every.{every_at, every_all, every_same}
use Rattle.base.proofs.Pointwise.{pointwise_every}
use Rattle.base.proofs.Facts.{lt_or_le}
use Rattle.server_log.specs.declared.Entry.{Entry}
use Rattle.server_log.specs.declared.Log.{Log}
use Rattle.server_log.specs.declared.rows.Latest.{Latest}
use Rattle.server_log.specs.declared.rows.Rows.{Rows}
use Rattle.server_log.specs.Entries.{zero_entry, entry_at, latest_value}
use Rattle.server_log.specs.Logs.{live, length_of, latest_in}
use Rattle.server_log.specs.Order.{highest_key}
use Rattle.server_log.specs.Rows.{keys, zero_row, value_for, latest_after, latest_over, between, rows_of, row_ok, rows_ok}
use Rattle.server_log.specs.Ranges.{FitsLatest, FitsRows}
use Rattle.server_log.proofs.Latest.{found, latest_found, found_le, found_key, found_at, latest_first, key_of, value_of}
use Rattle.server_log.proofs.Positions.{length_more, entry_at_new}

-- ---- what a read finds where there is one entry more

module _ (key : ℕ) (es : List Entry) (e : Entry) where
  latest_new : e.key ≡ key → latest_value key (es ++ (e ∷ [])) ≡ e.value
  latest_new q =
      latest_found key (es ++ (e ∷ [])) ∙ ap (λ (n : ℕ). (entry_at (es ++ (e ∷ [])) n).value) here ∙ value_of (entry_at_new es e)
    where
      here : found key (es ++ (e ∷ [])) ≡ suc (length es)
      here =
          found_at key (es ++ (e ∷ [])) (suc (length es)) (omega (arith, length_more es e)) (λ one. key_of (entry_at_new es e) ∙ q)
          (λ j l m. absurd (omega (arith, length_more es e)))

  latest_old : (e.key ≡ key → ⊥) → latest_value key (es ++ (e ∷ [])) ≡ latest_value key es
  latest_old ne =
      sym (latest_first key (length es) (es ++ (e ∷ [])) (omega (arith, length_more es e)) (⊎_elim past (λ l. l) (lt_or_le (length es) (found key (es ++ (e ∷ []))))))
      ∙ ap (latest_value key) (take-append_seam es (e ∷ []))
    where
      past : length es < found key (es ++ (e ∷ [])) → found key (es ++ (e ∷ [])) ≤ length es
      past l =
          let p : found key (es ++ (e ∷ [])) ≡ suc (length es) = omega (arith, found_le key (es ++ (e ∷ [])), length_more es e) in
          absurd (ne (key_of (sym (entry_at_new es e)) ∙ (rw p at (found_key key (es ++ (e ∷ [])) (omega arith)))))

-- looked for from the newest end
abbrev pub value_of_found : Option Entry → ℕ
value_of_found None = 0
value_of_found (Some e) = e.value

from_end : (key : ℕ) (rs : List Entry) → value_of_found (find (λ e. eqb e.key key) rs) ≡ latest_value key (reverse rs)
unfolding highest entry_at latest_value
from_end key [] = refl
from_end key (e ∷ rs) = go (eqb e.key key) refl (from_end key rs) ∙ ap (latest_value key) (sym (reverse-append (e ∷ []) rs))
  where
    go : (b : Bool) → eqb e.key key ≡ b → value_of_found (find (λ e. eqb e.key key) rs) ≡ latest_value key (reverse rs)
        → value_of_found (cond b (Some e) (find (λ e. eqb e.key key) rs)) ≡ latest_value key (reverse rs ++ (e ∷ []))
    go true q h = sym (latest_new key (reverse rs) e (eqb-true e.key key q))
    go false q h = h ∙ sym (latest_old key (reverse rs) e (eqb-false e.key key q))

pub found_back : (g : Log) (key n m : ℕ) (o : Option Entry) → m ≡ min n (length_of g) → o ≡ find (λ e. eqb e.key key) (reverse (take m g.entries))
    → value_of_found o ≡ latest_in g key n
found_back g key n m o e q =
    ap value_of_found q ∙ from_end key (reverse (take m g.entries)) ∙ ap (latest_value key) (reverse-reverse (take m g.entries))
    ∙ ap (latest_value key) (first_slots g m (omega arith) ∙ ap (λ (k : ℕ). take k (live g)) e ∙ take_min n (live g))

-- ---- a row has the latest value of each key among entries

abbrev pub HasLatest : Latest → List Entry → Type 0
HasLatest v es = (key : ℕ) → key < keys → value_for v key ≡ latest_value key es

pub has_none : HasLatest zero_row []
unfolding highest latest_value entry_at
has_none key h = get_or-replicate {A = ℕ} keys key 0 0 h

after_long : (v : Latest) (e : Entry) → length (latest_after v e).values ≡ length v.values
unfolding latest_after
after_long v e = go (leb e.key highest_key)
  where
    go : (b : Bool) → length (cond b (record { values = set v.values e.key e.value }) v).values ≡ length v.values
    go true = length-set v.values e.key e.value
    go false = refl

has_more : (v : Latest) (es : List Entry) (e : Entry) → length v.values ≡ keys → HasLatest v es → HasLatest (latest_after v e) (es ++ (e ∷ []))
unfolding latest_after
has_more v es e long t key h = go (leb e.key highest_key) refl (eqb e.key key) refl
  where
    go : (b : Bool) → leb e.key highest_key ≡ b → (c : Bool) → eqb e.key key ≡ c
        → value_for (cond b (record { values = set v.values e.key e.value }) v) key ≡ latest_value key (es ++ (e ∷ []))
    go true x true y =
        let q = eqb-true e.key key y in
        rw q (get_or-set_same v.values key e.value 0 (omega arith)) ∙ sym (latest_new key es e q)
    go true x false y =
        let ne = eqb-false e.key key y in
        get_or-set_other v.values e.key key e.value 0 (λ z. ne (sym z)) ∙ t key h ∙ sym (latest_old key es e ne)
    go false x true y = absurd (omega (arith, leb-false e.key highest_key x, eqb-true e.key key y))
    go false x false y = t key h ∙ sym (latest_old key es e (eqb-false e.key key y))

pub has_after : {v : Latest} (es : List Entry) → FitsLatest v → HasLatest v es → (e : Entry) → HasLatest (latest_after v e) (es ++ (e ∷ []))
has_after {v} es f t e = has_more v es e f.slots t

has_all : (v : Latest) (es ds : List Entry) → length v.values ≡ keys → HasLatest v es → HasLatest (latest_over v ds) (es ++ ds)
has_all v es [] long t key h = t key h ∙ ap (latest_value key) (sym (append-nil es))
has_all v es (d ∷ ds) long t key h =
    has_all (latest_after v d) (es ++ (d ∷ [])) ds (after_long v d ∙ long) (has_more v es d long t) key h ∙ ap (latest_value key) (append_snoc es d ds)

-- from the first k entries on to the first n
pub has_between : {v : Latest} (g : Log) (k n : ℕ) → FitsLatest v → k ≤ n → HasLatest v (take k (live g)) → HasLatest (latest_over v (between g k n)) (take n (live g))
has_between {v} g k n f l t =
    subst (HasLatest (latest_over v (between g k n)))
    (ap (λ (es : List Entry). es ++ between g k n) (sym (take-take k n (live g) l)) ∙ take-append-drop k (take n (live g)))
    (has_all v (take k (live g)) (between g k n) f.slots t)

-- from the first k entries to the end
pub has_rest : {v : Latest} (g : Log) (k : ℕ) → FitsLatest v → k ≤ length_of g → HasLatest v (take k (live g)) → HasLatest (latest_over v (between g k (length_of g))) (live g)
has_rest {v} g k f l t = subst (HasLatest (latest_over v (between g k (length_of g)))) (take-length (live g)) (has_between g k (length_of g) f l t)

pub has_over : (es : List Entry) → HasLatest (latest_over zero_row es) es
has_over es = has_all zero_row [] es (length-replicate {A = ℕ} keys 0) has_none

-- there is one such row
has_same : {v w : Latest} (es : List Entry) → length v.values ≡ keys → length w.values ≡ keys → HasLatest v es → HasLatest w es → v ≡ w
has_same {v} {w} es lv lw tv tw =
    let e = ext_get_or 0 v.values w.values (lv ∙ sym lw) (λ i h. tv i (omega arith) ∙ sym (tw i (omega arith))) in
    λ i. record { values = e i }

-- ---- both rows of a log

pub record RowsGood (r : Rows) (g : Log) (commit : ℕ) : Type 0 where
  pub whole : HasLatest r.whole (live g)
  pub committed : HasLatest r.committed (take commit (live g))

row_has : (v : Latest) (g : Log) (n : ℕ) → row_ok v g n ≡ true → HasLatest v (take n (live g))
unfolding row_ok
row_has v g n h key l = eqb-true _ _ (every_at _ keys key h l)

has_row : (v : Latest) (g : Log) (n : ℕ) → HasLatest v (take n (live g)) → row_ok v g n ≡ true
unfolding row_ok
has_row v g n t = every_all _ keys (λ key l. eq-eqb _ _ (t key l))

pub rows_good : {r : Rows} {g : Log} {commit : ℕ} → rows_ok r g commit ≡ true → RowsGood r g commit
unfolding rows_ok
rows_good {r} {g} {commit} h =
    record {
      whole = subst (HasLatest r.whole) (take-length (live g)) (row_has r.whole g (length_of g) (and_left _ _ h));
      committed = row_has r.committed g commit (and_right (row_ok r.whole g (length_of g)) _ h);
    }

pub good_rows : {r : Rows} {g : Log} {commit : ℕ} → RowsGood r g commit → rows_ok r g commit ≡ true
unfolding rows_ok
good_rows {r} {g} {commit} t =
    and_both _ _ (has_row r.whole g (length_of g) (subst (HasLatest r.whole) (sym (take-length (live g))) t.whole)) (has_row r.committed g commit t.committed)

pub rows_of_good : (g : Log) (commit : ℕ) → RowsGood (rows_of g commit) g commit
rows_of_good g commit = record { whole = has_over (live g); committed = has_over (take commit (live g)) }

over_long : (v : Latest) (es : List Entry) → length (latest_over v es).values ≡ length v.values
over_long v [] = refl
over_long v (e ∷ es) = over_long (latest_after v e) es ∙ after_long v e

-- rows that fit and have what a walk finds are those that are worked out afresh
pub rows_are : {r : Rows} {g : Log} {commit : ℕ} → FitsRows r → RowsGood r g commit → r ≡ rows_of g commit
rows_are {r} {g} {commit} f t =
    let v = has_same (live g) f.whole.slots (over_long zero_row (live g) ∙ length-replicate {A = ℕ} keys 0) t.whole (has_over (live g)) in
    let w = has_same (take commit (live g)) f.committed.slots (over_long zero_row (take commit (live g)) ∙ length-replicate {A = ℕ} keys 0) t.committed (has_over (take commit (live g))) in
    λ i. record { whole = v i; committed = w i }

-- ---- for the functions

over_append : (v : Latest) (xs ys : List Entry) → latest_over v (xs ++ ys) ≡ latest_over (latest_over v xs) ys
over_append v [] ys = refl
over_append v (x ∷ xs) ys = over_append (latest_after v x) xs ys

-- a walk to the commit point that goes on to the end is a walk over all
pub over_both : (v : Latest) (g : Log) (n : ℕ) → latest_over (latest_over v (between g 0 n)) (between g n (length_of g)) ≡ latest_over v (live g)
over_both v g n =
    ap (λ (es : List Entry). latest_over (latest_over v (take n (live g))) (drop n es)) (take-length (live g)) ∙ sym (over_append v (take n (live g)) (drop n (live g)))
    ∙ ap (latest_over v) (take-append-drop n (live g))

-- what is left of a walk: from here on the same row comes out
pub record OverLeft (es : List Entry) (v : Latest) (w : Latest) (i : ℕ) : Type 0 where
  pub same : latest_over w (drop i es) ≡ v

module _ {es : List Entry} {v w : Latest} {i : ℕ} (u : OverLeft es v w i) where
  pub left_less : (e : Entry) → i < length es → get_or es i zero_entry ≡ e → OverLeft es v (latest_after w e) (i + 1)
  left_less e h q =
      record {
        same = rw add-one (ap (λ (d : Entry). latest_over (latest_after w d) (drop (suc i) es)) (sym q) ∙ ap (latest_over w) (sym (drop-cons es i zero_entry h)) ∙ u.same);
      }

-- rows are compared with those of a walk
row_same : (v : Latest) (g : Log) (n : ℕ) → length v.values ≡ keys → pointwise eqb v.values (latest_over zero_row (take n (live g))).values ≡ row_ok v g n
unfolding row_ok
row_same v g n h =
    let w = latest_over zero_row (take n (live g)) in
    let l : length w.values ≡ keys = over_long zero_row (take n (live g)) ∙ length-replicate {A = ℕ} keys 0 in
    pointwise_every eqb 0 v.values w.values (h ∙ sym l) ∙ ap (λ (k : ℕ). every k (λ key. eqb (value_for v key) (value_for w key))) h
    ∙ every_same _ _ keys (λ key l. ap (eqb (value_for v key)) (has_over (take n (live g)) key l))

pub rows_same : (r : Rows) (g : Log) (commit : ℕ) → length r.whole.values ≡ keys → length r.committed.values ≡ keys
    → (pointwise eqb r.whole.values (rows_of g commit).whole.values && pointwise eqb r.committed.values (rows_of g commit).committed.values) ≡ rows_ok r g commit
unfolding rows_ok
rows_same r g commit h k =
    let v = ap (λ (es : List Entry). pointwise eqb r.whole.values (latest_over zero_row es).values) (sym (take-length (live g))) ∙ row_same r.whole g (length_of g) h in
    let w = row_same r.committed g commit k in
    λ i. v i && w i
