-- A trace, read: the answers of its pairs are the answers to the text. Assumes nothing.
use mathlib.Core.Path.{◌≡◌, refl, sym, ap, ◌∙◌}
use mathlib.Core.Bool.{Bool, true, false, cond, ◌||◌}
use Rattle.std.proofs.Common.{None}
use mathlib.Core.List.{List, [], ◌∷◌, ◌++◌, append_assoc}
use Prim.Native.Nat.{ℕ, zero, suc, ◌+◌, ◌%◌, ◌/◌, ◌≤◌, min, ◌-◌}
use native.Mathlib.Omega.{arith}
use borrow.Author.Tests.{ne_eqb, le-leb, leb-true}
use lib.Dec.{eqb, ltb, leb}
use lib.ListN.{length, take}
use Rattle.io.specs.Digits.{hex_digit_ascii, last_digits}
use Rattle.base.proofs.Bools.{and_left}
use Rattle.hex_text.specs.Digits.{radix, ten, char0, char_a, char_of}
use Rattle.hex_text.specs.Lines.{hex_of}
use Rattle.cluster.specs.declared.Cluster.{Cluster}
use Rattle.cluster.specs.Servers.{server_count}
use Rattle.cluster.specs.WellFormed.{well_formed}
use Rattle.steps.specs.declared.Answer.{Answer}
use Rattle.steps.specs.Answers.{telling_of}
use Rattle.answers.specs.Answers.{bytes_of_telling, write_answer}
use Rattle.lines.specs.Texts.{line_feed, lines, one_more, most_counted}
use Rattle.lines.proofs.Lines.{Plain, none, more, line_first}
use Rattle.saved.specs.Layout.{first_frame}
use Rattle.saved.specs.Editions.{newest}
use Rattle.saved.specs.Saved.{frames_of, text_of, save_of}
use Rattle.loads.specs.Loads.{same_text}
use Rattle.replay.specs.Texts.{answer_to, line_of, answers_to, answers}
use Rattle.traces.specs.Shown.{backslash, char_x, plus, is_plain, shown_byte, shown_bytes, places_of, decimal_of, shown_more, shown_line, most_shown}
use Rattle.traces.specs.Pairs.{blank, pair_line}
use Rattle.trails.specs.declared.Wanted.{Wanted}
use Rattle.trails.specs.Traces.{first_frame_of, form_by, is_wanted, opening_of, change_of, trace_from, trace_of}
use Rattle.trails.specs.Reading.{has_blank, after_blank, answers_in}

-- ---- characters that are seen

pub data Seen : List ℕ → Type 0 where
  nothing : Seen []
  then : {b : ℕ} {bs : List ℕ} → blank + 1 ≤ b → Seen bs → Seen (b ∷ bs)

seen_append : {xs ys : List ℕ} → Seen xs → Seen ys → Seen (xs ++ ys)
seen_append nothing q = q
seen_append (then h p) q = then h (seen_append p q)

char_seen : (n : ℕ) → blank + 1 ≤ char_of n
unfolding char_of
char_seen n = go (ltb (n % radix) ten)
  where
    go : (x : Bool) → blank + 1 ≤ cond x (char0 + n % radix) (char_a + (n % radix - ten))
    go true = omega arith
    go false = omega arith

hex_seen : (bs : List ℕ) → Seen (hex_of bs)
hex_seen [] = nothing
hex_seen (b ∷ bs) = then (char_seen _) (then (char_seen _) (hex_seen bs))

byte_seen : (b : ℕ) → Seen (shown_byte b)
unfolding shown_byte is_plain
byte_seen b = go (is_plain b) refl
  where
    go : (x : Bool) → is_plain b ≡ x → Seen (cond x (b ∷ []) (backslash ∷ char_x ∷ hex_of (b ∷ [])))
    go true e = then (leb-true 33 b (and_left (leb 33 b) _ e)) nothing
    go false e = then {b = backslash} (omega arith) (then {b = char_x} (omega arith) (hex_seen (b ∷ [])))

bytes_seen : (bs : List ℕ) → Seen (shown_bytes bs)
bytes_seen [] = nothing
bytes_seen (b ∷ bs) = seen_append (byte_seen b) (bytes_seen bs)

glyph_seen : (d : ℕ) → blank + 1 ≤ hex_digit_ascii d
glyph_seen d = go (ltb d 10)
  where
    go : (x : Bool) → blank + 1 ≤ cond x (48 + d) (87 + d)
    go true = omega arith
    go false = omega arith

digits_seen : (k n : ℕ) → Seen (last_digits 10 k n)
digits_seen zero n = nothing
digits_seen (suc k) n = seen_append (digits_seen k (n / 10)) (then (glyph_seen (n % 10)) nothing)

more_seen : (n : ℕ) → Seen (shown_more n)
unfolding shown_more
more_seen n = go (eqb n 0)
  where
    go : (x : Bool) → Seen (cond x [] (backslash ∷ plus ∷ decimal_of n))
    go true = nothing
    go false = then {b = backslash} (omega arith) (then {b = plus} (omega arith) (digits_seen (places_of n) n))

line_seen : (l : List ℕ) → Seen (shown_line l)
line_seen l = seen_append (bytes_seen (take most_shown l)) (more_seen (min (length l - most_shown) most_counted))

-- ---- a line of them

seen_plain : {xs : List ℕ} → Seen xs → Plain xs
seen_plain nothing = none
seen_plain (then {b} h p) = more (ne_eqb b line_feed (λ e. omega (arith, e))) (seen_plain p)

no_blank : {xs : List ℕ} → Seen xs → has_blank xs ≡ false
no_blank nothing = refl
no_blank (then {b} {bs} h p) = ap (λ (x : Bool). x || has_blank bs) (ne_eqb b blank (λ e. omega (arith, e))) ∙ no_blank p

a_blank : {xs : List ℕ} (ys : List ℕ) → Seen xs → has_blank (xs ++ (blank ∷ ys)) ≡ true
a_blank ys nothing = refl
a_blank ys (then {b} {bs} h p) = ap (λ (x : Bool). x || has_blank (bs ++ (blank ∷ ys))) (ne_eqb b blank (λ e. omega (arith, e))) ∙ a_blank ys p

after_blank_lem : {xs : List ℕ} (ys : List ℕ) → Seen xs → after_blank (xs ++ (blank ∷ ys)) ≡ ys
after_blank_lem ys nothing = refl
after_blank_lem ys (then {b} {bs} h p) =
    ap (λ (x : Bool). cond x (bs ++ (blank ∷ ys)) (after_blank (bs ++ (blank ∷ ys)))) (ne_eqb b blank (λ e. omega (arith, e))) ∙ after_blank_lem ys p

plain_append : {xs ys : List ℕ} → Plain xs → Plain ys → Plain (xs ++ ys)
plain_append none q = q
plain_append (more h p) q = more h (plain_append p q)

-- ---- what is read of frames, of forms, and of a pair

frames_read : (fs : List (List ℕ)) (rest : List ℕ) → answers_in (lines (text_of fs ++ rest)) ≡ answers_in (lines rest)
frames_read [] rest = refl
frames_read (f ∷ fs) rest =
    ap (λ (t : List ℕ). answers_in (lines t)) (append_assoc (hex_of f) (line_feed ∷ text_of fs) rest) ∙ ap answers_in (line_first (text_of fs ++ rest) (seen_plain (hex_seen f)))
    ∙ ap (λ (x : Bool). cond x (after_blank (hex_of f) ++ (line_feed ∷ [])) [] ++ answers_in (lines (text_of fs ++ rest))) (no_blank (hex_seen f)) ∙ frames_read fs rest

module _ (rest : List ℕ) where
  abbrev Skips : List ℕ → Type 0
  Skips t = answers_in (lines (t ++ rest)) ≡ answers_in (lines rest)

  one_read : (x : Bool) (f : List ℕ) → Skips (cond x [] (text_of (f ∷ [])))
  one_read true f = refl
  one_read false f = frames_read (f ∷ []) rest

  first_read : (c : Cluster) → Skips (first_frame_of c)
  unfolding first_frame_of
  first_read c = one_read (eqb (server_count c) 0) (first_frame newest.widths newest.number (server_count c) c.followers)

  whole_read : (x : Bool) (c : Cluster) → Skips (cond x (save_of c) [])
  unfolding save_of
  whole_read true c = frames_read (frames_of newest c) rest
  whole_read false c = refl

  form_read : (brief : Bool) (c : Cluster) → Skips (form_by brief c)
  unfolding form_by
  form_read true c = first_read c
  form_read false c = whole_read (well_formed c) c

  opening_read : (w : Wanted) (n : ℕ) (c : Cluster) → Skips (opening_of w n c)
  unfolding opening_of
  opening_read w n c = go (eqb n w.before)
    where
      go : (x : Bool) → Skips (cond x (form_by w.brief c) [])
      go true = form_read w.brief c
      go false = refl

  change_read : (brief : Bool) (c d : Cluster) → Skips (change_of brief c d)
  unfolding change_of
  change_read brief c d = go (same_text (form_by brief c) (form_by brief d))
    where
      go : (x : Bool) → Skips (cond x [] (form_by brief d))
      go true = refl
      go false = form_read brief d

  pair_read : (l : List ℕ) (a : Answer) → answers_in (lines (pair_line l a ++ rest)) ≡ line_of a ++ answers_in (lines rest)
  unfolding line_of
  pair_read l a =
      let line = shown_line l ++ (blank ∷ write_answer a) in
      ap (λ (t : List ℕ). answers_in (lines t)) text
      ∙ ap answers_in (line_first rest (plain_append (seen_plain (line_seen l)) (more refl (seen_plain (hex_seen (bytes_of_telling (telling_of a)))))))
      ∙ ap (λ (x : Bool). cond x (after_blank line ++ (line_feed ∷ [])) [] ++ answers_in (lines rest)) (a_blank (write_answer a) (line_seen l))
      ∙ ap (λ (t : List ℕ). (t ++ (line_feed ∷ [])) ++ answers_in (lines rest)) (after_blank_lem (write_answer a) (line_seen l))
    where
      text : pair_line l a ++ rest ≡ (shown_line l ++ (blank ∷ write_answer a)) ++ (line_feed ∷ rest)
      text =
          append_assoc (shown_line l) ((blank ∷ write_answer a) ++ (line_feed ∷ [])) rest
          ∙ ap (λ (t : List ℕ). shown_line l ++ t) (append_assoc (blank ∷ write_answer a) (line_feed ∷ []) rest)
          ∙ sym (append_assoc (shown_line l) (blank ∷ write_answer a) (line_feed ∷ rest))

-- ---- a whole trace, of all lines

all_wanted : (w : Wanted) (n : ℕ) → w.before ≡ 0 → w.last ≡ None → is_wanted w n ≡ true
unfolding is_wanted
all_wanted w n b l = rw (b, l, le-leb 0 n (omega arith))

read_from : (w : Wanted) (n : ℕ) (c : Cluster) (ls : List (List ℕ)) → w.before ≡ 0 → w.last ≡ None → answers_in (lines (trace_from w n c ls)) ≡ answers_to c ls
read_from w n c [] b e = refl
read_from w n c (l ∷ ls) b e =
    let o = answer_to c l in
    let rest = trace_from w (one_more n) o.cluster ls in
    let change = change_of w.brief c o.cluster in
    ap (λ (x : Bool). answers_in (lines (cond x (opening_of w n c ++ (pair_line l o.answer ++ change)) [] ++ rest))) (all_wanted w n b e)
    ∙ ap (λ (t : List ℕ). answers_in (lines t)) (append_assoc (opening_of w n c) (pair_line l o.answer ++ change) rest)
    ∙ opening_read ((pair_line l o.answer ++ change) ++ rest) w n c
    ∙ ap (λ (t : List ℕ). answers_in (lines t)) (append_assoc (pair_line l o.answer) change rest)
    ∙ pair_read (change ++ rest) l o.answer
    ∙ ap (λ (t : List ℕ). line_of o.answer ++ t) (change_read rest w.brief c o.cluster ∙ read_from w (one_more n) o.cluster ls b e)

pub read_back : (w : Wanted) (c : Cluster) (text : List ℕ) → w.before ≡ 0 → w.last ≡ None → answers_in (lines (trace_of w c text)) ≡ answers c text
read_back w c text b e = read_from w 0 c (lines text) b e
