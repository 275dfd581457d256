-- The edition that is told with the shape is the one that the first line names; and one that isn't known breaks the shape there, whatever follows.
-- Assumes nothing.
use mathlib.Core.Path.{◌≡◌, refl, sym, ap, subst, ◌∙◌}
use mathlib.Core.Bool.{Bool, true, false, cond, not, ◌&&◌}
use mathlib.Core.List.{List, [], ◌∷◌, ◌++◌, append_assoc, append-nil}
use mathlib.Core.Logic.{◌≢◌}
use Prim.Native.Nat.{ℕ, suc, ◌<◌}
use native.Mathlib.Omega.{arith}
use borrow.Author.Tests.{eqb-true, eqb-false, ne_eqb}
use lib.Dec.{eqb}
use lib.ListN.{length, get_or}
use Rattle.base.proofs.Bools.{and_right, not_both}
use Rattle.hex_text.specs.Lines.{bytes_of}
use Rattle.words.specs.Words.{byte_at}
use Rattle.lines.specs.Held.{nothing_held}
use Rattle.lines.specs.Texts.{line_feed, lines}
use Rattle.lines.proofs.Held.{empty_stands, push_holds}
use Rattle.lines.proofs.Lines.{Plain, none, more, plain_snoc, line_first}
use Rattle.saved.specs.declared.Sort.TheVariants as S
use Rattle.saved.specs.Layout.{Widths}
use Rattle.saved.specs.Editions.{Edition, is_known, edition_numbered}
use Rattle.saved.specs.Shape.{is_frame, named_in, named_by}
use Rattle.shapes.specs.declared.Left.{Left}
use Rattle.shapes.specs.declared.Shape.{Shape}
use Rattle.saved.specs.declared.Sort.{Sort}
use Rattle.std.proofs.Common.{Option, Some}
use Rattle.shapes.specs.Walk.{kept_chars, fresh_shape, due_of, edition_for, shape_held, with_reader, shape_push, broken_at, next_line, is_next, ended_as, line_ended_for, shape_after, walked_for, is_end, is_shaped, AtOnce}
use Rattle.lines.specs.Readers.{reader_of, push_of}
use Rattle.shapes.proofs.Next.{Reads, StandsFor, held_next, held_bytes}
use Rattle.shapes.proofs.Ahead.{Tells, first, over, next, tells}
use Rattle.shapes.proofs.Told.{after_feed, after_character, broken_stays, broken_told}

-- ---- it stays

-- the first frame was read, and its edition is kept
pub record Keeps (s t : Shape) : Type 0 where
  pub begun : t.left.begun ≡ true
  pub edition : t.left.edition ≡ s.left.edition

module _ (knows : List Edition) where
  ended_keeps : (s : Shape) → s.left.begun ≡ true → {d : Option Sort} → Tells s.left d → Keeps s (ended_as knows d s)
  unfolding ended_as
  ended_keeps s b (first f) = not_both s.left.begun b f
  ended_keeps s b (over c e) = record { begun = b; edition = refl }
  ended_keeps s b (next k ks c later e f) = go (is_next knows k s.left.edition (shape_held s))
    where
      w : Widths
      w = (edition_numbered knows (edition_for k s.left.edition (bytes_of (shape_held s)))).widths

      go : (t : Bool) → Keeps s (cond t (next_line w k (bytes_of (shape_held s)) s) (broken_at s))
      go true = record { begun = later.begun w (bytes_of (shape_held s)) s.left ∙ b; edition = later.kept w (bytes_of (shape_held s)) s.left }
      go false = record { begun = b; edition = refl }

  after_keeps : (s : Shape) → s.left.begun ≡ true → (b : ℕ) → Keeps s (shape_after knows s b)
  unfolding shape_after
  after_keeps s h b = go s.broken (eqb b line_feed)
    where
      go : (x y : Bool) → Keeps s (cond x s (cond y (line_ended_for knows s) (shape_push s b)))
      go true y = record { begun = h; edition = refl }
      go false true = ended_keeps s h (tells s.left)
      go false false = record { begun = h; edition = refl }

  stays : (s : Shape) (text : List ℕ) → s.left.begun ≡ true → (walked_for knows s text).left.edition ≡ s.left.edition
  stays s [] h = refl
  stays s (b ∷ text) h = let k = after_keeps s h b in stays (shape_after knows s b) text k.begun ∙ k.edition

-- ---- it is the first line's

first_due : (l : Left) → l.begun ≡ false → due_of l ≡ Some S.First
unfolding due_of
first_due l e = rw e

module _ (knows : List Edition) (r : Reads knows) where
  abbrev Names : List ℕ → List ℕ → Shape → Type 0
  Names p text s = is_shaped (walked_for knows s text) ≡ true → (walked_for knows s text).left.edition ≡ named_in (get_or (lines p) 0 [])

  -- at a line feed after the characters p
  feed_names : (s : Shape) (p text whole : List ℕ) → s.left.begun ≡ false → StandsFor s p → get_or (lines whole) 0 [] ≡ p → Names whole text (ended_as knows (Some S.First) s)
  unfolding ended_as
  feed_names s p text whole b h f = go (is_next knows S.First s.left.edition p) refl
    where
      n : ℕ
      n = s.left.edition

      after : Shape
      after = next_line (edition_numbered knows (byte_at (bytes_of (shape_held s)) 1)).widths S.First (bytes_of (shape_held s)) s

      go : (y : Bool) → is_next knows S.First n p ≡ y → Names whole text (cond (is_next knows S.First n (shape_held s)) after (broken_at s))
      go true y =
          rw (held_next knows r S.First n s h ∙ y)
          (λ t. stays knows after text refl ∙ ap (λ (x : List ℕ). byte_at (bytes_of x) 1) (held_bytes knows r S.First n s h y ∙ sym f))
      go false y = rw (held_next knows r S.First n s h ∙ y) (λ t. not_both _ t (broken_told knows (broken_at s) text refl))

  names : (text : List ℕ) (s : Shape) (p : List ℕ) → s.broken ≡ false → s.left.begun ≡ false → Plain p → StandsFor s p → Names (p ++ text) text s
  unfolding is_shaped push_of
  names [] s p b f q h =
      λ t. not_both (is_end (due_of s.left)) (and_right (nothing_held s.reader.fill s.reader.over) _ (and_right (not s.broken) _ t)) (ap is_end (first_due s.left f))
  names (c ∷ text) s p b f q h = go (names text) (eqb c line_feed) refl
    where
      go : ((s : Shape) (p : List ℕ) → s.broken ≡ false → s.left.begun ≡ false → Plain p → StandsFor s p → Names (p ++ text) text s)
          → (x : Bool) → eqb c line_feed ≡ x → Names (p ++ (c ∷ text)) text (shape_after knows s c)
      go onward true e =
          let z = eqb-true c line_feed e in
          subst (Names (p ++ (c ∷ text)) text) (sym (after_feed knows s c b z ∙ ap (λ (d : Option Sort). ended_as knows d s) (first_due s.left f)))
          (feed_names s p text (p ++ (c ∷ text)) f h (ap (λ (x : ℕ). get_or (lines (p ++ (x ∷ text))) 0 []) z ∙ ap (λ (ls : List (List ℕ)). get_or ls 0 []) (line_first text q)))
      go onward false e =
          subst (Names (p ++ (c ∷ text)) text) (sym (after_character knows s c b (eqb-false c line_feed e)))
          (push_holds kept_chars reader_of (λ x. Names (p ++ (c ∷ text)) text (with_reader s x)) c
          (λ held fill over x. subst (λ (w : List ℕ). Names w text (with_reader s (reader_of held fill over))) (append_assoc p (c ∷ []) text)
          (onward (with_reader s (reader_of held fill over)) (p ++ (c ∷ [])) b f (plain_snoc c q e) x)) h)

  -- THE LAW
  pub named : (text : List ℕ) → is_shaped (walked_for knows fresh_shape text) ≡ true → (walked_for knows fresh_shape text).left.edition ≡ named_by text
  named text t = names text fresh_shape [] refl refl none (empty_stands refl refl) t

-- ---- one that isn't known

plain_line : (line : List ℕ) → ((i : ℕ) → i < length line → get_or line i 0 ≢ line_feed) → Plain line
plain_line [] h = none
plain_line (b ∷ line) h = more (ne_eqb b line_feed (h 0 (omega arith))) (plain_line line (λ i l. h (suc i) (omega arith)))

module _ (knows : List Edition) (r : Reads knows) where
  -- a shape in its first line
  record InFirst (s : Shape) : Type 0 where
    pub whole : s.broken ≡ false
    pub begun : s.left.begun ≡ false
    pub line : s.number ≡ 1

  unknown_from : (q rest : List ℕ) (s : Shape) (p : List ℕ) → InFirst s → StandsFor s p → Plain q → is_known knows (named_in (p ++ q)) ≡ false
      → AtOnce (walked_for knows s (q ++ (line_feed ∷ rest)))
  unfolding push_of ended_as is_next
  unknown_from [] rest s p i h pl u = subst AtOnce (sym (ap (λ (x : Shape). walked_for knows x rest) step ∙ broken_stays knows (broken_at s) rest refl)) (record { broken = refl; line = i.line })
    where
      no : is_next knows S.First s.left.edition (shape_held s) ≡ false
      no = held_next knows r S.First s.left.edition s h ∙ ap (λ (x : Bool). x && is_frame (edition_numbered knows (named_in p)).widths S.First p) (ap (λ (x : List ℕ). is_known knows (named_in x)) (sym (append-nil p)) ∙ u)

      step : shape_after knows s line_feed ≡ broken_at s
      step = after_feed knows s line_feed i.whole refl ∙ ap (λ (d : Option Sort). ended_as knows d s) (first_due s.left i.begun) ∙ rw no
  unknown_from (c ∷ q) rest s p i h (more e pl) u =
      subst (λ (x : Shape). AtOnce (walked_for knows x (q ++ (line_feed ∷ rest)))) (sym (after_character knows s c i.whole (eqb-false c line_feed e)))
      (push_holds kept_chars reader_of (λ x. AtOnce (walked_for knows (with_reader s x) (q ++ (line_feed ∷ rest)))) c
      (λ held fill over x. unknown_from q rest (with_reader s (reader_of held fill over)) (p ++ (c ∷ [])) (record { whole = i.whole; begun = i.begun; line = i.line }) x pl
      (ap (λ (w : List ℕ). is_known knows (named_in w)) (append_assoc p (c ∷ []) q) ∙ u)) h)

  -- THE LAW
  pub unknown_at_once : (line rest : List ℕ) → ((i : ℕ) → i < length line → get_or line i 0 ≢ line_feed) → is_known knows (named_in line) ≡ false
      → AtOnce (walked_for knows fresh_shape (line ++ (line_feed ∷ rest)))
  unknown_at_once line rest h u = unknown_from line rest fresh_shape [] (record { whole = refl; begun = refl; line = refl }) (empty_stands refl refl) (plain_line line h) u
