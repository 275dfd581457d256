-- What a list comes to: the first records of all that its lines are, or the number of the first line that is none. Assumes nothing.
use mathlib.Core.Path.{◌≡◌, refl, sym, ap, subst, ◌∙◌}
use mathlib.Core.Logic.{◌⊎◌, inl, inr, ⊎_elim}
use mathlib.Core.List.{List, [], ◌∷◌, ◌++◌, append_assoc, append-nil}
use Prim.Native.Nat.{ℕ, suc, ◌+◌, ◌≤◌, ◌<◌, min}
use native.Mathlib.Numerals.{add-one}
use native.Mathlib.Omega.{arith}
use borrow.Author.Tests.{lt-ltb, le-ltb}
use lib.ListN.{length, take, set, length-append, length-set, length-replicate}
use lib.Seq.{take_all, take-append-le, take-suc-set}
use Rattle.base.proofs.Facts.{lt_or_le}
use Rattle.lines.specs.Texts.{lines, most_counted, one_more}
use Rattle.lines.specs.Folds.{over_lines}
use Rattle.lines.proofs.Folded.{lines_append}
use Rattle.histories.specs.declared.PhoneRecord.{PhoneRecord}
use Rattle.histories.specs.Rules.{no_record}
use Rattle.histories.specs.Committed.{Committed}
use Rattle.histories.specs.Checking.{check_of}
use Rattle.histories.proofs.Enough.{kept_enough}
use Rattle.std.specs.Prelude.{Option, Some, None}
use Rattle.phones.specs.declared.Listed.{Listed}
use Rattle.phones.specs.Records.{read_record}
use Rattle.phones.specs.Listed.{most_kept, new_list, records_kept, line_number, with_record, spoilt, takes_in, list_after_read, list_after_line, list_of, Reads, FirstBad}

number_more : (n : ℕ) → one_more (line_number n) ≡ line_number (n + 1)
unfolding one_more
number_more n = ⊎_elim below above (lt_or_le (line_number n) most_counted)
  where
    below : line_number n < most_counted → one_more (line_number n) ≡ line_number (n + 1)
    below h = rw (lt-ltb (line_number n) most_counted h) (omega arith)

    above : most_counted ≤ line_number n → one_more (line_number n) ≡ line_number (n + 1)
    above h = rw (le-ltb (line_number n) most_counted h) (omega arith)

-- ---- one line more

after_good : (s : Listed) (read : Option PhoneRecord) → s.bad ≡ None → list_after_read s read ≡ takes_in s read
unfolding list_after_read
after_good s read e = rw e

pub after_bad : (s : Listed) (read : Option PhoneRecord) (n : ℕ) → s.bad ≡ Some n → list_after_read s read ≡ s
unfolding list_after_read
after_bad s read n e = rw e

-- after lines that are the records xs
pub record Holds (xs : List PhoneRecord) (s : Listed) : Type 0 where
  pub room : length s.records ≡ most_kept
  pub count : s.count ≡ min (length xs) most_kept
  pub first : records_kept s ≡ take most_kept xs
  pub number : s.number ≡ line_number (length xs)
  pub good : s.bad ≡ None

holds_none : Holds [] new_list
holds_none = record { room = length-replicate most_kept no_record; count = refl; first = refl; number = refl; good = refl }

snoc_long : (xs : List PhoneRecord) (r : PhoneRecord) → length (xs ++ (r ∷ [])) ≡ length xs + 1
snoc_long xs r = length-append xs (r ∷ [])

module _ {xs : List PhoneRecord} {s : Listed} (u : Holds xs s) (l : List ℕ) where
  -- one record more
  with_more : (r : PhoneRecord) → Holds (xs ++ (r ∷ [])) (with_record s r)
  unfolding with_record
  with_more r = ⊎_elim below above (lt_or_le (length xs) most_kept)
    where
      counted : one_more s.number ≡ line_number (length (xs ++ (r ∷ [])))
      counted = ap one_more u.number ∙ number_more (length xs) ∙ ap line_number (sym (snoc_long xs r))

      below : length xs < most_kept → Holds (xs ++ (r ∷ [])) (with_record s r)
      below h =
          let k : s.count ≡ length xs = omega (arith, u.count) in
          rw (lt-ltb s.count most_kept (omega arith))
          record {
            room = length-set s.records s.count r ∙ u.room;
            count = omega (arith, snoc_long xs r);
            first =
                ap (λ (n : ℕ). take n (set s.records s.count r)) (add-one s.count)
                ∙ take-suc-set s.records s.count r (omega (arith, u.room))
                ∙ ap (λ (ys : List PhoneRecord). ys ++ (r ∷ [])) (u.first ∙ take_all most_kept xs (omega arith))
                ∙ sym (take_all most_kept (xs ++ (r ∷ [])) (omega (arith, snoc_long xs r)));
            number = counted;
            good = u.good;
          }

      above : most_kept ≤ length xs → Holds (xs ++ (r ∷ [])) (with_record s r)
      above h =
          rw (le-ltb s.count most_kept (omega (arith, u.count)))
          record {
            room = u.room;
            count = omega (arith, u.count, snoc_long xs r);
            first = u.first ∙ sym (take-append-le most_kept xs (r ∷ []) h);
            number = counted;
            good = u.good;
          }

  holds_more : (r : PhoneRecord) → read_record l ≡ Some r → Holds (xs ++ (r ∷ [])) (list_after_line s l)
  holds_more r e = subst (Holds (xs ++ (r ∷ []))) (sym (after_good s (read_record l) u.good ∙ ap (takes_in s) e)) (with_more r)

  -- the first bad line
  holds_bad : read_record l ≡ None → list_after_line s l ≡ spoilt s
  holds_bad e = after_good s (read_record l) u.good ∙ ap (takes_in s) e

holds_all : (ls : List (List ℕ)) (rs xs : List PhoneRecord) (s : Listed) → Holds xs s → Reads ls rs → Holds (xs ++ rs) (over_lines list_after_line s ls)
holds_all [] [] xs s u h = rw (append-nil xs) u
holds_all [] (r ∷ rs) xs s u h = absurd h
holds_all (l ∷ ls) [] xs s u h = absurd h
holds_all (l ∷ ls) (r ∷ rs) xs s u h =
    rw (append_assoc xs (r ∷ []) rs) at (holds_all ls rs (xs ++ (r ∷ [])) (list_after_line s l) (holds_more u l r h.0) h.1)

-- once bad it stays as it is
bad_stays : (ls : List (List ℕ)) (s : Listed) (n : ℕ) → s.bad ≡ Some n → over_lines list_after_line s ls ≡ s
bad_stays [] s n e = refl
bad_stays (l ∷ ls) s n e = ap (λ (x : Listed). over_lines list_after_line x ls) (after_bad s (read_record l) n e) ∙ bad_stays ls s n e

reads_long : (ls : List (List ℕ)) (rs : List PhoneRecord) → Reads ls rs → length rs ≡ length ls
reads_long [] [] h = refl
reads_long [] (r ∷ rs) h = absurd h
reads_long (l ∷ ls) [] h = absurd h
reads_long (l ∷ ls) (r ∷ rs) h = ap suc (reads_long ls rs h.1)

-- ---- the two ways that a text can be

-- every line is a record's: as many are kept as decide the check
pub record AllRead (rs : List PhoneRecord) (s : Listed) : Type 0 where
  pub good : s.bad ≡ None
  pub count : s.count ≡ min (length rs) most_kept
  pub first : records_kept s ≡ take most_kept rs
  pub checked : (g : Committed) → check_of (records_kept s) g ≡ check_of rs g

pub all_read : (text : List ℕ) (rs : List PhoneRecord) → Reads (lines text) rs → AllRead rs (list_of text)
all_read text rs h =
    let u = holds_all (lines text) rs [] new_list holds_none h in
    record {
      good = u.good;
      count = u.count;
      first = u.first;
      checked = λ g. ap (λ (xs : List PhoneRecord). check_of xs g) u.first ∙ kept_enough rs g most_kept (omega arith);
    }

-- or some line is the first that is none: its number is kept
pub first_bad : (text : List ℕ) (before : List (List ℕ)) (l : List ℕ) (after : List (List ℕ)) (rs : List PhoneRecord)
    → lines text ≡ before ++ (l ∷ after) → Reads before rs → read_record l ≡ None
    → (list_of text).bad ≡ Some (line_number (length before))
first_bad text before l after rs e h b =
    let s = over_lines list_after_line new_list before in
    let u = holds_all before rs [] new_list holds_none h in
    let k : list_of text ≡ spoilt s =
    ap (over_lines list_after_line new_list) e ∙ lines_append list_after_line new_list before (l ∷ after)
    ∙ ap (λ (x : Listed). over_lines list_after_line x after) (holds_bad u l b) ∙ bad_stays after (spoilt s) s.number refl in
    ap (λ (x : Listed). x.bad) k ∙ ap Some (u.number ∙ ap line_number (reads_long before rs h))

-- there is no third way
pub reads_or_bad : (ls : List (List ℕ)) → ((rs : List PhoneRecord) × Reads ls rs) ⊎ FirstBad ls
reads_or_bad [] = inl ([], tt)
reads_or_bad (l ∷ ls) = go (read_record l) refl (reads_or_bad ls)
  where
    go : (x : Option PhoneRecord) → read_record l ≡ x → ((rs : List PhoneRecord) × Reads ls rs) ⊎ FirstBad ls → ((rs : List PhoneRecord) × Reads (l ∷ ls) rs) ⊎ FirstBad (l ∷ ls)
    go None e rest = inr (record { before = []; bad = l; after = ls; records = []; split = refl; reads = tt; none = e })
    go (Some r) e (inl (rs, h)) = inl (r ∷ rs, (e, h))
    go (Some r) e (inr f) =
        inr (record {
          before = l ∷ f.before;
          bad = f.bad;
          after = f.after;
          records = r ∷ f.records;
          split = ap (λ (k : List (List ℕ)). l ∷ k) f.split;
          reads = (e, f.reads);
          none = f.none;
        })
