-- A log whose slots past its length are zero is its list of entries: what makes a log is the list operation on it. Assumes nothing.
use mathlib.Core.Path.{◌≡◌, ap, sym, ◌∙◌}
use mathlib.Core.List.{List, [], ◌∷◌, ◌++◌, append-nil}
use mathlib.Core.Bool.{true}
use mathlib.Core.Logic.{⊎_elim}
use Prim.Native.Nat.{ℕ, ◌+◌, ◌-◌, ◌<◌, ◌≤◌}
use native.Mathlib.Numerals.{add-one}
use native.Mathlib.Omega.{arith}
use lib.ListN.{length, get_or, set, replicate, length-take, length-append, length-replicate, get_or-replicate, length-set, get_or-eq_default, get_or-append}
use lib.Seq.{append_snoc, get_or-append-add, get_or-set_other, take-suc-set, ext_get_or, get_or-take}
use borrow.Author.Tests.{ltb-true, lt-ltb}
use Rattle.base.specs.Lists.{joined_at}
use Rattle.base.proofs.Facts.{lt_or_le}
use Rattle.base.proofs.Joined.{length_joined, joined_low, joined_high}
use Rattle.server_log.specs.declared.Entry.{Entry}
use Rattle.server_log.specs.declared.Log.{Log}
use Rattle.server_log.specs.Entries.{zero_entry}
use Rattle.server_log.specs.Logs.{log_limit, highest_position, empty_log, live, length_of, has_room, appended, joined}

pub record Tidy (g : Log) : Type 0 where
  pub slots : length g.entries ≡ log_limit
  pub short : g.len ≤ log_limit
  pub rest : (i : ℕ) → g.len ≤ i → get_or g.entries i zero_entry ≡ zero_entry

-- its length is the number of its entries
pub tidy_length : {g : Log} → Tidy g → length_of g ≡ g.len
tidy_length {g} t = omega (arith, length-take g.len g.entries, t.slots, t.short)

-- and no position of it is past the highest
pub tidy_highest : {g : Log} → Tidy g → length_of g ≤ highest_position
tidy_highest t = omega (arith, tidy_length t, t.short)

-- the log of a list of entries
abbrev pub log_of : List Entry → Log
log_of es = record { entries = es ++ replicate (log_limit - length es) zero_entry; len = length es }

-- past the list, what is filled up is zero
filled : (es : List Entry) (m i : ℕ) → length es ≤ i → get_or (es ++ replicate m zero_entry) i zero_entry ≡ zero_entry
filled es m i h =
    let e : i ≡ length es + (i - length es) = omega arith in
    ap (λ (k : ℕ). get_or (es ++ replicate m zero_entry) k zero_entry) e ∙ get_or-append-add es (replicate m zero_entry) (i - length es) zero_entry
    ∙ zeros m (i - length es)
  where
    zeros : (m j : ℕ) → get_or (replicate m zero_entry) j zero_entry ≡ zero_entry
    zeros m j =
        ⊎_elim (λ l. get_or-replicate m j zero_entry zero_entry l)
        (λ l. get_or-eq_default (replicate m zero_entry) zero_entry (omega (arith, length-replicate m zero_entry)))
        (lt_or_le j m)

pub tidy_log_of : (es : List Entry) → length es ≤ log_limit → Tidy (log_of es)
tidy_log_of es h =
    record {
      slots = simp length-append (omega (arith, length-replicate (log_limit - length es) zero_entry));
      short = h;
      rest = filled es (log_limit - length es);
    }

-- a log whose slots past its length are zero is the log of its entries
pub tidy_is : {g : Log} → Tidy g → g ≡ log_of (live g)
tidy_is {g} t = λ i. record { entries = same i; len = sym (tidy_length t) i }
  where
    same : g.entries ≡ live g ++ replicate (log_limit - length_of g) zero_entry
    same =
        ext_get_or zero_entry g.entries (log_of (live g)).entries
        (let l : length_of g ≤ log_limit = omega (arith, tidy_length t, t.short) in omega (arith, t.slots, (tidy_log_of (live g) l).slots))
        (λ i h. ⊎_elim
        (λ l. sym (get_or-append (live g) (replicate (log_limit - length_of g) zero_entry) zero_entry i (omega (arith, tidy_length t)) ∙ get_or-take g.len g.entries i zero_entry l))
        (λ l. t.rest i l ∙ sym (filled (live g) (log_limit - length_of g) i (omega (arith, tidy_length t))))
        (lt_or_le i g.len))

pub tidy_empty : Tidy empty_log
tidy_empty = tidy_log_of [] (omega arith)

-- ---- append: one entry more

below_room : (g : Log) → g.len < log_limit → has_room g ≡ true
unfolding has_room
below_room g h = lt-ltb g.len log_limit h

pub room_below : (g : Log) → has_room g ≡ true → g.len < log_limit
unfolding has_room
room_below g h = ltb-true g.len log_limit h

module _ {g : Log} (t : Tidy g) (e : Entry) (room : has_room g ≡ true) where
  appended_is : appended g e ≡ record { entries = set g.entries g.len e; len = g.len + 1 }
  unfolding appended
  appended_is = rw room

  pub live_appended : live (appended g e) ≡ live g ++ (e ∷ [])
  live_appended = rw (appended_is, add-one) (take-suc-set g.entries g.len e (omega (arith, t.slots, room_below g room)))

  pub tidy_appended : Tidy (appended g e)
  tidy_appended =
      rw appended_is
      (record {
        slots = length-set g.entries g.len e ∙ t.slots;
        short = omega (arith, room_below g room);
        rest = λ i h. get_or-set_other g.entries g.len i e zero_entry (omega arith) ∙ t.rest i (omega arith);
      })

-- ---- entries one after the other

abbrev pub appended_all : Log → List Entry → Log
appended_all g [] = g
appended_all g (e ∷ es) = appended_all (appended g e) es

all_appended : {g : Log} → Tidy g → (es : List Entry) → g.len + length es ≤ log_limit → appended_all g es ≡ log_of (live g ++ es)
all_appended {g} t [] h = tidy_is t ∙ ap log_of (sym (append-nil (live g)))
all_appended {g} t (e ∷ es) h =
    let room = below_room g (omega arith) in
    let more = tidy_appended t e room in
    let held = live_appended t e room in
    all_appended {g = appended g e} more es (omega (arith, tidy_length more, tidy_length t, ap length held, length-append (live g) (e ∷ [])))
    ∙ ap (λ (xs : List Entry). log_of (xs ++ es)) held ∙ ap log_of (append_snoc (live g) e es)

-- a log is its entries, appended in order to the empty log
pub appended_again : {g : Log} → Tidy g → appended_all empty_log (live g) ≡ g
appended_again {g} t = all_appended tidy_empty (live g) (omega (arith, tidy_length t, t.short)) ∙ sym (tidy_is t)

-- ---- join: the first k entries of a, and then the rest of b

module _ {a b : Log} (t : Tidy a) (u : Tidy b) (k : ℕ) (ka : k ≤ length_of a) (kb : k ≤ length_of b) where
  in_a : k ≤ length a.entries
  in_a = omega (arith, length-take a.len a.entries)

  in_b : k ≤ length b.entries
  in_b = omega (arith, length-take b.len b.entries)

  pub tidy_joined : Tidy (joined a b k)
  tidy_joined =
      record {
        slots = length_joined k a.entries b.entries in_a in_b ∙ u.slots;
        short = u.short;
        rest = λ i h. joined_high zero_entry k a.entries b.entries in_a i (omega (arith, tidy_length u)) ∙ u.rest i h;
      }

  -- slot by slot
  same_slot : (i : ℕ) → i < b.len → get_or (joined_at k a.entries b.entries) i zero_entry ≡ get_or (joined_at k (live a) (live b)) i zero_entry
  same_slot i h =
      ⊎_elim
      (λ (l : i < k). joined_low zero_entry k a.entries b.entries in_a i l
      ∙ sym (joined_low zero_entry k (live a) (live b) ka i l ∙ get_or-take a.len a.entries i zero_entry (omega (arith, tidy_length t))))
      (λ (l : k ≤ i). joined_high zero_entry k a.entries b.entries in_a i l
      ∙ sym (joined_high zero_entry k (live a) (live b) ka i l ∙ get_or-take b.len b.entries i zero_entry h))
      (lt_or_le i k)

  pub live_joined : live (joined a b k) ≡ joined_at k (live a) (live b)
  live_joined =
      ext_get_or zero_entry (live (joined a b k)) (joined_at k (live a) (live b))
      (tidy_length tidy_joined ∙ sym (length_joined k (live a) (live b) ka kb ∙ tidy_length u))
      (λ i h.
      let l : i < b.len = omega (arith, tidy_length tidy_joined) in
      get_or-take b.len (joined_at k a.entries b.entries) i zero_entry l ∙ same_slot i l)

  -- it is as long as b
  pub long_joined : length_of (joined a b k) ≡ length_of b
  long_joined = tidy_length tidy_joined ∙ sym (tidy_length u)
