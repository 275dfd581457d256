-- Walked byte by byte, in whatever pieces, a text is told shaped exactly if it has the shape of a saved form. Assumes nothing.
use mathlib.Core.Path.{◌≡◌, refl, sym, ap, subst, ◌∙◌}
use mathlib.Core.Bool.{Bool, true, false, cond, ◌&&◌}
use mathlib.Core.List.{List, [], ◌∷◌, ◌++◌, append_assoc, append-nil}
use Prim.Native.Nat.{ℕ, suc, ◌-◌}
use native.Mathlib.Omega.{arith}
use borrow.Author.Tests.{eq-eqb, ne_eqb, eqb-true, eqb-false}
use lib.Dec.{eqb}
use lib.ListN.{length, get_or}
use Rattle.base.proofs.Bools.{and_no, not_both}
use Rattle.hex_text.specs.Lines.{bytes_of}
use Rattle.words.specs.Words.{byte_at}
use Rattle.lines.proofs.Held.{empty_stands, held_empty, held_some, push_holds}
use Rattle.lines.specs.Texts.{line_feed, lines}
use Rattle.lines.proofs.Lines.{Plain, none, more, plain_snoc, line_first}
use Rattle.saved.specs.declared.Sort.{Sort}
use Rattle.saved.specs.declared.Sort.TheVariants as S
use Rattle.saved.specs.Layout.{Widths}
use Rattle.saved.specs.Editions.{Edition, editions, is_known, edition_numbered}
use Rattle.saved.specs.Shape.{is_frame, announced, shaped_by, named_in, shaped_first, shaped_for, shaped}
use Rattle.shapes.specs.declared.Left.{Left}
use Rattle.shapes.specs.declared.Shape.{Shape}
use Rattle.std.proofs.Common.{Option}
use Rattle.shapes.specs.Walk.{kept_chars, fresh_shape, todo, edition_for, shape_held, with_reader, shape_push, broken_at, next_line, is_next, ended_as, line_ended_for, shape_after, walked_for, walked, is_shaped}
use Rattle.lines.specs.Readers.{reader_of, push_of}
use Rattle.shapes.proofs.Next.{Reads, StandsFor, held_next, held_bytes, next_known, reads_all}
use Rattle.shapes.proofs.Ahead.{expects, Later, Tells, first, over, next, tells, at_end_lem}

-- ---- the last line ends in a line feed

-- no line is begun at the end of a text
closed : List ℕ → Bool
closed [] = true
closed (b ∷ []) = eqb b line_feed
closed (b ∷ d ∷ ds) = closed (d ∷ ds)

closed_last : (b : ℕ) (bs : List ℕ) → eqb (get_or (b ∷ bs) (length (b ∷ bs) - 1) 0) line_feed ≡ closed (b ∷ bs)
unfolding closed
closed_last b [] = refl
closed_last b (d ∷ ds) =
    let e : length (b ∷ d ∷ ds) - 1 ≡ suc (length (d ∷ ds) - 1) = omega arith in
    ap (λ (k : ℕ). eqb (get_or (b ∷ d ∷ ds) k 0) line_feed) e ∙ closed_last d ds

closed_feed : (p t : List ℕ) → closed (p ++ (line_feed ∷ t)) ≡ closed t
unfolding closed
closed_feed [] [] = refl
closed_feed [] (d ∷ ds) = refl
closed_feed (b ∷ []) t = closed_feed [] t
closed_feed (b ∷ d ∷ ds) t = closed_feed (d ∷ ds) t

closed_plain : (b : ℕ) (p : List ℕ) → Plain (b ∷ p) → closed (b ∷ p) ≡ false
unfolding closed
closed_plain b [] (more e q) = e
closed_plain b (d ∷ ds) (more e q) = closed_plain d ds q

-- ---- the walk

module _ (knows : List Edition) where
  -- one byte, by what it is
  pub after_broken : (s : Shape) (b : ℕ) → s.broken ≡ true → shape_after knows s b ≡ s
  unfolding shape_after
  after_broken s b e = ap (λ (x : Bool). cond x s (cond (eqb b line_feed) (line_ended_for knows s) (shape_push s b))) e

  pub after_feed : (s : Shape) (b : ℕ) → s.broken ≡ false → b ≡ line_feed → shape_after knows s b ≡ line_ended_for knows s
  unfolding shape_after
  after_feed s b e f =
      ap (λ (x : Bool). cond x s (cond (eqb b line_feed) (line_ended_for knows s) (shape_push s b))) e
      ∙ ap (λ (x : Bool). cond x (line_ended_for knows s) (shape_push s b)) (eq-eqb b line_feed f)

  pub after_character : (s : Shape) (b : ℕ) → s.broken ≡ false → (b ≡ line_feed → ⊥) → shape_after knows s b ≡ shape_push s b
  unfolding shape_after
  after_character s b e f =
      ap (λ (x : Bool). cond x s (cond (eqb b line_feed) (line_ended_for knows s) (shape_push s b))) e
      ∙ ap (λ (x : Bool). cond x (line_ended_for knows s) (shape_push s b)) (ne_eqb b line_feed f)

  -- once broken it stays as it is
  pub broken_stays : (s : Shape) (text : List ℕ) → s.broken ≡ true → walked_for knows s text ≡ s
  broken_stays s [] e = refl
  broken_stays s (b ∷ text) e = ap (λ (q : Shape). walked_for knows q text) (after_broken s b e) ∙ broken_stays s text e

  pub broken_told : (s : Shape) (text : List ℕ) → s.broken ≡ true → is_shaped (walked_for knows s text) ≡ false
  unfolding is_shaped
  broken_told s text e = ap is_shaped (broken_stays s text e) ∙ simp e

  -- in whatever pieces
  pub walked_append : (s : Shape) (x y : List ℕ) → walked_for knows s (x ++ y) ≡ walked_for knows (walked_for knows s x) y
  walked_append s [] y = refl
  walked_append s (b ∷ x) y = walked_append (shape_after knows s b) x y

-- ---- the shape

module _ (knows : List Edition) (r : Reads knows) where
  abbrev widths_at : ℕ → Widths
  widths_at n = (edition_numbered knows n).widths

  -- once the first frame was read, its edition is known
  abbrev Known : Left → Type 0
  Known l = l.begun ≡ true → is_known knows l.edition ≡ true

  -- from any point of a line
  abbrev Right : List ℕ → Type 0
  Right text =
      (s : Shape) (p : List ℕ) → s.broken ≡ false → Known s.left → Plain p → StandsFor s p
      → is_shaped (walked_for knows s text) ≡ (closed (p ++ text) && expects knows s.left (lines (p ++ text)))

  -- a frame after the first is one in the text's edition
  later_next : {k : Sort} → Later k → (n : ℕ) (line : List ℕ) → is_known knows n ≡ true → is_next knows k n line ≡ is_frame (widths_at n) k line
  unfolding is_next
  later_next {k} later n line h =
      ap (λ (m : ℕ). is_known knows m && is_frame (widths_at m) k line) (later.edition n (bytes_of line)) ∙ ap (λ (x : Bool). x && is_frame (widths_at n) k line) h

  first_next : (n : ℕ) (p : List ℕ) (ls : List (List ℕ))
      → shaped_first knows (p ∷ ls) ≡ (is_next knows S.First n p && shaped_by (widths_at (named_in p)) (announced (widths_at (named_in p)) S.First (bytes_of p) ++ []) ls)
  unfolding is_next
  first_next n p ls = go (is_known knows (named_in p)) (is_frame (widths_at (named_in p)) S.First p) _
    where
      go : (x y z : Bool) → (x && (y && z)) ≡ ((x && y) && z)
      go true y z = refl
      go false y z = refl

  -- a line feed after the characters p
  at_feed : (text : List ℕ) → Right text → (s : Shape) (p : List ℕ) → s.broken ≡ false → Known s.left → StandsFor s p → {d : Option Sort} → Tells s.left d
      → is_shaped (walked_for knows (ended_as knows d s) text) ≡ (closed text && expects knows s.left (p ∷ lines text))
  unfolding ended_as
  at_feed text right s p b known h (over begun e) =
      broken_told knows (broken_at s) text refl ∙ sym (rw (begun, e) (and_no (closed text) false refl))
  at_feed text right s p b known h (first begun) = go (is_next knows S.First n p) refl
    where
      n : ℕ
      n = s.left.edition

      after : List ℕ → Shape
      after line = next_line (widths_at (byte_at (bytes_of line) 1)) S.First (bytes_of line) s

      Goes : Bool → Type 0
      Goes t = is_shaped (walked_for knows (cond t (after (shape_held s)) (broken_at s)) text) ≡ (closed text && expects knows s.left (p ∷ lines text))

      left_first : expects knows s.left (p ∷ lines text) ≡ (is_next knows S.First n p && shaped_by (widths_at (named_in p)) (announced (widths_at (named_in p)) S.First (bytes_of p) ++ []) (lines text))
      left_first = rw begun (first_next n p (lines text))

      go : (y : Bool) → is_next knows S.First n p ≡ y → Goes (is_next knows S.First n (shape_held s))
      go true y =
          rw (held_next knows r S.First n s h ∙ y)
          (ap (λ (x : List ℕ). is_shaped (walked_for knows (after x) text)) (held_bytes knows r S.First n s h y)
          ∙ right (after p) [] b (λ e. next_known knows S.First n p y) none (empty_stands refl refl)
          ∙ ap (λ (x : List Sort). closed text && shaped_by (widths_at (named_in p)) x (lines text)) (sym (append-nil (announced (widths_at (named_in p)) S.First (bytes_of p))))
          ∙ sym (ap (λ (x : Bool). closed text && x) (left_first ∙ ap (λ (x : Bool). x && shaped_by (widths_at (named_in p)) (announced (widths_at (named_in p)) S.First (bytes_of p) ++ []) (lines text)) y)))
      go false y =
          rw (held_next knows r S.First n s h ∙ y)
          (broken_told knows (broken_at s) text refl
          ∙ sym (ap (λ (x : Bool). closed text && x) (left_first ∙ ap (λ (x : Bool). x && shaped_by (widths_at (named_in p)) (announced (widths_at (named_in p)) S.First (bytes_of p) ++ []) (lines text)) y) ∙ and_no (closed text) false refl))
  at_feed text right s p b known h (next k ks begun later e f) = go (is_frame (widths_at n) k p) refl
    where
      n : ℕ
      n = s.left.edition

      after : List ℕ → Shape
      after line = next_line (widths_at n) k (bytes_of line) s

      same : is_next knows k n (shape_held s) ≡ is_frame (widths_at n) k p
      same = held_next knows r k n s h ∙ later_next later n p (known begun)

      Goes : Bool → Type 0
      Goes t =
          is_shaped (walked_for knows (cond t (next_line (widths_at (edition_for k n (bytes_of (shape_held s)))) k (bytes_of (shape_held s)) s) (broken_at s)) text)
          ≡ (closed text && expects knows s.left (p ∷ lines text))

      left_next : expects knows s.left (p ∷ lines text) ≡ (is_frame (widths_at n) k p && shaped_by (widths_at n) (announced (widths_at n) k (bytes_of p) ++ ks) (lines text))
      left_next = rw (begun, e)

      left_after : expects knows (after p).left (lines text) ≡ shaped_by (widths_at n) (announced (widths_at n) k (bytes_of p) ++ ks) (lines text)
      left_after =
          ap (λ (x : Bool). cond x (shaped_by (widths_at (after p).left.edition) (todo (after p).left) (lines text)) (shaped_first knows (lines text)))
          (later.begun (widths_at n) (bytes_of p) s.left ∙ begun)
          ∙ ap (λ (m : ℕ). shaped_by (widths_at m) (todo (after p).left) (lines text)) (later.kept (widths_at n) (bytes_of p) s.left)
          ∙ ap (λ (x : List Sort). shaped_by (widths_at n) x (lines text)) (f (widths_at n) (bytes_of p))

      still : Known (after p).left
      still z = subst (λ (m : ℕ). is_known knows m ≡ true) (sym (later.kept (widths_at n) (bytes_of p) s.left)) (known begun)

      go : (y : Bool) → is_frame (widths_at n) k p ≡ y → Goes (is_next knows k n (shape_held s))
      go true y =
          rw (same ∙ y)
          (ap (λ (m : ℕ). is_shaped (walked_for knows (next_line (widths_at m) k (bytes_of (shape_held s)) s) text)) (later.edition n (bytes_of (shape_held s)))
          ∙ ap (λ (x : List ℕ). is_shaped (walked_for knows (after x) text)) (held_bytes knows r k n s h (later_next later n p (known begun) ∙ y))
          ∙ right (after p) [] b still none (empty_stands refl refl)
          ∙ ap (λ (x : Bool). closed text && x) (left_after ∙ sym (left_next ∙ ap (λ (x : Bool). x && shaped_by (widths_at n) (announced (widths_at n) k (bytes_of p) ++ ks) (lines text)) y)))
      go false y =
          rw (same ∙ y)
          (broken_told knows (broken_at s) text refl
          ∙ sym (ap (λ (x : Bool). closed text && x) (left_next ∙ ap (λ (x : Bool). x && shaped_by (widths_at n) (announced (widths_at n) k (bytes_of p) ++ ks) (lines text)) y) ∙ and_no (closed text) false refl))

  from : (text : List ℕ) → Right text
  unfolding is_shaped closed push_of
  from [] s [] b known q h = simp (b, held_empty h) (at_end_lem knows (tells s.left))
  from [] s (c ∷ p) b known q h =
      simp (b, held_some h) (sym (ap (λ (x : Bool). x && expects knows s.left (lines (c ∷ p ++ []))) (ap closed (append-nil (c ∷ p)) ∙ closed_plain c p q)))
  from (c ∷ text) s p b known q h = go (from text) (eqb c line_feed) refl
    where
      Rest : Shape → Type 0
      Rest r = is_shaped (walked_for knows r text) ≡ (closed (p ++ (c ∷ text)) && expects knows s.left (lines (p ++ (c ∷ text))))

      go : Right text → (x : Bool) → eqb c line_feed ≡ x → Rest (shape_after knows s c)
      go right true e =
          let f = eqb-true c line_feed e in
          ap (λ (r : Shape). is_shaped (walked_for knows r text)) (after_feed knows s c b f) ∙ at_feed text right s p b known h (tells s.left)
          ∙ sym (ap (λ (k : ℕ). closed (p ++ (k ∷ text)) && expects knows s.left (lines (p ++ (k ∷ text)))) f
          ∙ ap (λ (x : Bool). x && expects knows s.left (lines (p ++ (line_feed ∷ text)))) (closed_feed p text)
          ∙ ap (λ (x : List (List ℕ)). closed text && expects knows s.left x) (line_first text q))
      go right false e =
          ap (λ (r : Shape). is_shaped (walked_for knows r text)) (after_character knows s c b (eqb-false c line_feed e))
          ∙ push_holds kept_chars reader_of (λ r. Rest (with_reader s r)) c
          (λ held fill over r. right (with_reader s (reader_of held fill over)) (p ++ (c ∷ [])) b known (plain_snoc c q e) r
          ∙ ap (λ (x : List ℕ). closed x && expects knows s.left (lines x)) (append_assoc p (c ∷ []) text)) h

  -- THE THEOREM
  pub told_for : (text : List ℕ) → is_shaped (walked_for knows fresh_shape text) ≡ shaped_for knows text
  unfolding shaped_for closed
  told_for text = from text fresh_shape [] refl (λ e. not_both false e refl) none (empty_stands refl refl) ∙ go text
    where
      go : (t : List ℕ) → (closed t && shaped_first knows (lines t)) ≡ (eqb (get_or t (length t - 1) 0) line_feed && shaped_first knows (lines t))
      go [] = refl
      go (b ∷ bs) = sym (ap (λ (x : Bool). x && shaped_first knows (lines (b ∷ bs))) (closed_last b bs))

pub told : (text : List ℕ) → is_shaped (walked fresh_shape text) ≡ shaped text
told text = told_for editions reads_all text
