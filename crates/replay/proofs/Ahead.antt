-- What a text has next: a whole step line that is read where it stands comes to the same as its bytes, one by one. Assumes nothing.
use mathlib.Core.Path.{◌≡◌, refl, sym, ap, ◌∙◌, subst}
use mathlib.Core.Bool.{Bool, true, false, cond, ◌&&◌, true≢false}
use mathlib.Core.List.{List, [], ◌∷◌, ◌++◌}
use Prim.Native.Nat.{ℕ, zero, suc, ◌+◌, ◌-◌, ◌≤◌, ◌<◌}
use native.Mathlib.Omega.{arith}
use borrow.Author.Tests.{eq-eqb, eqb-true, ltb-true}
use lib.Dec.{ltb, eqb}
use lib.ListN.{length, get_or, take, drop, length-take, length-drop}
use lib.Seq.{take-suc, get_or-drop, get_or-take}
use Rattle.base.proofs.Bools.{and_right}
use Rattle.base.proofs.Every.{every_at}
use Rattle.hex_text.specs.Digits.{digit_of, is_digit}
use Rattle.hex_text.specs.Lines.{all_hex, bytes_of}
use Rattle.words.specs.Words.{framed}
use Rattle.lines.proofs.Held.{empty_stands}
use Rattle.cluster.specs.declared.Cluster.{Cluster}
use Rattle.steps.specs.declared.Outcome.{Outcome}
use Rattle.steps.specs.declared.Step.{Step}
use Rattle.std.proofs.Common.{Option, Some, None}
use Rattle.frames.specs.Steps.{step_in, read_step}
use Rattle.replay.specs.declared.Next.{Next}
use Rattle.replay.specs.declared.Session.{Session}
use Rattle.lines.specs.Texts.{line_feed, placed}
use Rattle.replay.specs.Texts.{respond, answer_to, line_of}
use Rattle.lines.specs.Readers.{Reader, width, fresh_reader, line_held, is_empty, reader_after}
use Rattle.replay.specs.Pieces.{step_chars, answer_line, begun, byte_is, whole_line, next_by, next_of}
use Rattle.lines.proofs.Readers.{StandsFor, after_feed, character_holds}
use Rattle.replay.proofs.Whole.{held_answer}
use Rattle.replay.proofs.Along.{Along, by_line, by_byte}

-- ---- the whole line

-- what it says of the text where it gives a step
record There (r : Reader) (text : List ℕ) (at : ℕ) (s : Step) : Type 0 where
  fresh : is_empty r ≡ true
  inside : at + step_chars < length text
  feed : get_or text (at + step_chars) 0 ≡ line_feed
  reads : read_step (take step_chars (drop at text)) ≡ Some s

whole_there : (r : Reader) (text : List ℕ) (at : ℕ) (s : Step) → whole_line r text at ≡ Some s → There r text at s
unfolding whole_line
whole_there r text at s = go (is_empty r) (ltb (at + step_chars) (length text)) (eqb (get_or text (at + step_chars) 0) line_feed) refl refl refl
  where
    no : None ≡ Some s → There r text at s
    no e = let z : ◌≡◌ {A = ℕ} 0 1 = cc in absurd (omega arith)

    go : (x y z : Bool) → is_empty r ≡ x → ltb (at + step_chars) (length text) ≡ y → eqb (get_or text (at + step_chars) 0) line_feed ≡ z
        → cond x (cond y (cond z (read_step (take step_chars (drop at text))) None) None) None ≡ Some s → There r text at s
    go true true true p q f e = record { fresh = p; inside = ltb-true _ _ q; feed = eqb-true _ _ f; reads = e }
    go true true false p q f e = no e
    go true false z p q f e = no e
    go false y z p q f e = no e

-- ---- what came

-- it takes at least a byte, and none past the end
pub record Moved (text : List ℕ) (at : ℕ) (n : Next) : Type 0 where
  pub some : 0 < n.took
  pub inside : at + n.took ≤ length text

pub moved : (r : Reader) (text : List ℕ) (at : ℕ) (n : Next) → at < length text → n ≡ next_of r text at → Moved text at n
unfolding next_by
moved r text at n h e = subst (Moved text at) (sym e) (go (whole_line r text at) refl)
  where
    go : (x : Option Step) → whole_line r text at ≡ x → Moved text at (next_by x r (get_or text at 0))
    go (Some s) y = let l = (whole_there r text at s y).inside in record { some = omega arith; inside = omega arith }
    go None y = record { some = omega arith; inside = omega arith }

-- what a byte is, by what came
is_line : (r : Reader) (b : ℕ) (read : Option Step) → byte_is r b ≡ Some read → (b ≡ line_feed) × (read ≡ read_step (line_held r))
unfolding byte_is
is_line r b read = go (eqb b line_feed) refl
  where
    go : (x : Bool) → eqb b line_feed ≡ x → cond x (Some (read_step (line_held r))) None ≡ Some read → (b ≡ line_feed) × (read ≡ read_step (line_held r))
    go true e p = (eqb-true b line_feed e, (cc))
    go false e p = let z : ◌≡◌ {A = ℕ} 0 1 = cc in absurd (omega arith)

is_character : (r : Reader) (b : ℕ) → byte_is r b ≡ None → b ≡ line_feed → ⊥
unfolding byte_is
is_character r b p e = let q = rw (eq-eqb b line_feed e) at p in let z : ◌≡◌ {A = ℕ} 0 1 = cc in omega arith

-- after a line the reader is fresh
pub line_fresh : (r q : Reader) (text : List ℕ) (at : ℕ) (n : Next) (read : Option Step) → n ≡ next_of r text at → n.line ≡ Some read → q ≡ reader_after r n.last → q ≡ fresh_reader
unfolding next_by
line_fresh r q text at n read e k f = f ∙ after_feed r n.last (go (whole_line r text at) e)
  where
    go : (x : Option Step) → n ≡ next_by x r (get_or text at 0) → n.last ≡ line_feed
    go (Some s) p = ap (λ (m : Next). m.last) p
    go None p = ap (λ (m : Next). m.last) p ∙ (is_line r (get_or text at 0) read (sym (ap (λ (m : Next). m.line) p) ∙ k)).0

-- ---- the bytes of a frame, one by one

-- a frame is of digits, so no line feed is among them
digits : (line : List ℕ) → all_hex line ≡ true → (j : ℕ) → j < length line → get_or line j 0 ≡ line_feed → ⊥
unfolding all_hex digit_of
digits line h j l f =
    let d : is_digit line_feed ≡ true = subst (λ (b : ℕ). is_digit b ≡ true) f (every_at _ (length line) j h l) in
    true≢false (sym d)

no_feed : (line : List ℕ) (s : Step) → read_step line ≡ Some s → (j : ℕ) → j < length line → get_or line j 0 ≡ line_feed → ⊥
unfolding framed
no_feed line s e = go (eqb (length line) step_chars && all_hex line) refl e
  where
    go : (b : Bool) → (eqb (length line) step_chars && all_hex line) ≡ b → cond b (step_in (bytes_of line)) None ≡ Some s
        → (j : ℕ) → j < length line → get_or line j 0 ≡ line_feed → ⊥
    go true q h = digits line (and_right (eqb (length line) step_chars) (all_hex line) q)
    go false q h = λ j l f. let z : ◌≡◌ {A = ℕ} 0 1 = cc in omega arith

-- where the bytes p of a line have been read, and the reader stands for them
record Reading (s : Session) (text out₀ out : List ℕ) (c : Cluster) (p : List ℕ) (w i : ℕ) : Type 0 where
  reader : Reader
  along : Along s text out₀ out (record { cluster = c; reader = reader }) w i
  stands : StandsFor reader p

-- k bytes that are no line feeds
by_bytes : {s : Session} {text out₀ out : List ℕ} {c : Cluster} {r : Reader} {w i : ℕ} (k : ℕ) → i + k ≤ length text → answer_line ≤ length out₀ - w
    → ((j : ℕ) → j < k → get_or text (i + j) 0 ≡ line_feed → ⊥) → Along s text out₀ out (record { cluster = c; reader = r }) w i → StandsFor r []
    → Reading s text out₀ out c (take k (drop i text)) w (i + k)
by_bytes {s} {text} {out₀} {out} {c} {r} {w} {i} zero h room none a f =
    let e : i + 0 ≡ i = omega arith in rw e (record { reader = r; along = a; stands = f })
by_bytes {s} {text} {out₀} {out} {c} {r} {w} {i} (suc k) h room none a f =
    let b = get_or text (i + k) 0 in
    let u = by_bytes k (omega arith) room (λ j l. none j (omega arith)) a f in
    let e : i + k + 1 ≡ i + suc k = omega arith in
    let more : take k (drop i text) ++ (b ∷ []) ≡ take (suc k) (drop i text) =
    ap (λ (x : ℕ). take k (drop i text) ++ (x ∷ [])) (sym (get_or-drop i text k 0)) ∙ sym (take-suc (drop i text) k 0 (omega (arith, length-drop i text))) in
    record {
      reader = reader_after u.reader b;
      along = subst (λ (n : ℕ). Along s text out₀ out (record { cluster = c; reader = reader_after u.reader b }) w n) e
          (by_byte (reader_after u.reader b) u.along (omega arith) room (none k (omega arith)) refl);
      stands = subst (StandsFor (reader_after u.reader b)) more (character_holds u.reader b (none k (omega arith)) u.stands);
    }

-- no line feed stands among the bytes of the whole line
plain : {r : Reader} {text : List ℕ} {i : ℕ} {s : Step} → There r text i s → (j : ℕ) → j < step_chars → get_or text (i + j) 0 ≡ line_feed → ⊥
plain {r} {text} {i} {s} there j l f =
    no_feed (take step_chars (drop i text)) s there.reads j (omega (arith, length-take step_chars (drop i text), length-drop i text, there.inside))
    (get_or-take step_chars (drop i text) j 0 l ∙ get_or-drop i text j 0 ∙ f)

-- the line feed after the bytes p
at_feed : {s : Session} {text out₀ out : List ℕ} {c : Cluster} {p : List ℕ} {w i : ℕ} (u : Reading s text out₀ out c p w i) (o : Outcome) (e : Session) (out' : List ℕ)
    → i < length text → answer_line ≤ length out₀ - w → get_or text i 0 ≡ line_feed → o ≡ respond c (read_step p) → e ≡ begun o.cluster
    → out' ≡ placed out w (line_of o.answer) → Along s text out₀ out' e (w + answer_line) (i + 1)
unfolding answer_to
at_feed {c = c} u o e out' h room f q b o' = by_line e o out' u.along h room f (q ∙ sym (held_answer c u.reader u.stands)) b o'

-- ---- the loop, a turn further

module _ {s : Session} {text out₀ out : List ℕ} {c : Cluster} {r : Reader} {w i : ℕ} (a : Along s text out₀ out (record { cluster = c; reader = r }) w i)
    (slots : length r.held ≡ width) (h : i < length text) (room : answer_line ≤ length out₀ - w) where
  -- a whole line
  whole_line_lem : (t : Step) (o : Outcome) (e : Session) (out' : List ℕ) → There r text i t → o ≡ respond c (Some t) → e ≡ begun o.cluster
      → out' ≡ placed out w (line_of o.answer) → Along s text out₀ out' e (w + answer_line) (i + (step_chars + 1))
  whole_line_lem t o e out' there p b o' =
      let n : i + step_chars + 1 ≡ i + (step_chars + 1) = omega arith in
      subst (λ (m : ℕ). Along s text out₀ out' e (w + answer_line) m) n
      (at_feed (by_bytes step_chars (omega (arith, there.inside)) room (plain there) a (empty_stands there.fresh slots)) o e out' there.inside room there.feed
      (p ∙ ap (respond c) (sym there.reads)) b o')

  -- a character
  pub by_character : (n : Next) (q : Reader) → n ≡ next_of r text i → n.line ≡ None → q ≡ reader_after r n.last
      → Along s text out₀ out (record { cluster = c; reader = q }) w (i + n.took)
  unfolding next_by
  by_character n q e k f = go (whole_line r text i) e
    where
      go : (x : Option Step) → n ≡ next_by x r (get_or text i 0) → Along s text out₀ out (record { cluster = c; reader = q }) w (i + n.took)
      go (Some t) p = let z : Some (Some t) ≡ None = sym (ap (λ (m : Next). m.line) p) ∙ k in let y : ◌≡◌ {A = ℕ} 0 1 = cc in absurd (omega arith)
      go None p =
          subst (λ (m : ℕ). Along s text out₀ out (record { cluster = c; reader = q }) w (i + m)) (sym (ap (λ (m : Next). m.took) p))
          (by_byte q a h room (is_character r (get_or text i 0) (sym (ap (λ (m : Next). m.line) p) ∙ k)) (f ∙ ap (λ (m : Next). reader_after r m.last) p))

  -- a line, whole or at its line feed
  pub by_came : (n : Next) (read : Option Step) (o : Outcome) (e : Session) (out' : List ℕ) → n ≡ next_of r text i → n.line ≡ Some read → o ≡ respond c read
      → e ≡ begun o.cluster → out' ≡ placed out w (line_of o.answer) → Along s text out₀ out' e (w + answer_line) (i + n.took)
  unfolding next_by answer_to whole_line
  by_came n read o e out' p k q b o' = go (whole_line r text i) refl p
    where
      go : (x : Option Step) → whole_line r text i ≡ x → n ≡ next_by x r (get_or text i 0) → Along s text out₀ out' e (w + answer_line) (i + n.took)
      go (Some t) y v =
          let same : Some (Some t) ≡ Some read = sym (ap (λ (m : Next). m.line) v) ∙ k in
          subst (λ (m : Next). Along s text out₀ out' e (w + answer_line) (i + m.took)) (sym v)
          (whole_line_lem t o e out' (whole_there r text i t y) (let j : read ≡ Some t = cc in q ∙ ap (respond c) j) b o')
      go None y v =
          let f = is_line r (get_or text i 0) read (sym (ap (λ (m : Next). m.line) v) ∙ k) in
          subst (λ (m : Next). Along s text out₀ out' e (w + answer_line) (i + m.took)) (sym v)
          (by_line e o out' a h room f.0 (q ∙ ap (respond c) f.1) b o')
