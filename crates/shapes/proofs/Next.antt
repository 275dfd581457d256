-- The line that is held is the frame that is due exactly where the characters are that it stands for. Assumes nothing.
use mathlib.Core.Path.{◌≡◌, sym, ap, ◌∙◌}
use mathlib.Core.Bool.{true, false, false≢true}
use mathlib.Core.List.{List, [], ◌∷◌}
use mathlib.Core.Logic.{⊎_elim}
use Prim.Native.Nat.{ℕ, ◌<◌}
use native.Mathlib.Omega.{arith}
use lib.ListN.{length}
use Rattle.base.proofs.Bools.{and_no, and_left, and_right}
use Rattle.base.proofs.Cases.{◌▸◌}
use Rattle.base.proofs.Facts.{lt_or_le}
use Rattle.hex_text.specs.Lines.{bytes_of}
use Rattle.hex_text.proofs.Places.{hex_length}
use Rattle.words.proofs.Framed.{is_frame_lem, framed_other}
use Rattle.lines.proofs.Held as Held
use Rattle.lines.proofs.Held.{held_is, held_framed}
use Rattle.saved.specs.declared.Sort.{Sort}
use Rattle.saved.specs.Layout.{Widths, size_of}
use Rattle.saved.specs.Editions.{Edition, edition1, edition2, editions, is_known, edition_numbered}
use Rattle.saved.specs.Shape.{is_frame}
use Rattle.saved.proofs.Lawful.{Lawful, lawful1, lawful3, numbered}
use Rattle.shapes.specs.declared.Shape.{Shape}
use Rattle.shapes.specs.Walk.{kept_chars, edition_for, is_next, shape_held}
use Rattle.shapes.proofs.Frames.{small, says_so}

-- a reader that knows editions with lawful fields
abbrev pub Reads : List Edition → Type 0
Reads knows = (n : ℕ) → Lawful (edition_numbered knows n).widths

-- the line that is held stands for the characters p
abbrev pub StandsFor : Shape → List ℕ → Type 0
StandsFor s p = Held.StandsFor kept_chars s.reader.held s.reader.fill s.reader.over p

module _ (knows : List Edition) where
  -- a line that is a frame in no edition
  pub next_none : Reads knows → (k : Sort) (n : ℕ) (line : List ℕ) → ((w : Widths) → Lawful w → is_frame w k line ≡ false) → is_next knows k n line ≡ false
  unfolding is_next
  next_none r k n line h = and_no (is_known knows (edition_for k n (bytes_of line))) _ (h _ (r (edition_for k n (bytes_of line))))

  next_frame : (k : Sort) (n : ℕ) (line : List ℕ) → is_next knows k n line ≡ true → is_frame (edition_numbered knows (edition_for k n (bytes_of line))).widths k line ≡ true
  unfolding is_next
  next_frame k n line h = and_right (is_known knows (edition_for k n (bytes_of line))) _ h

  pub next_known : (k : Sort) (n : ℕ) (line : List ℕ) → is_next knows k n line ≡ true → is_known knows (edition_for k n (bytes_of line)) ≡ true
  unfolding is_next
  next_known k n line h = and_left _ _ h

  module _ (r : Reads knows) (k : Sort) (n : ℕ) (s : Shape) {p : List ℕ} (h : StandsFor s p) where
    -- no frame is as long as a line that is too long
    too_long : kept_chars < length p → (w : Widths) → Lawful w → is_frame w k p ≡ false
    unfolding is_frame
    too_long l w f = sym (framed_other (size_of w k) (says_so k) false p (λ e. omega (arith, small f k)))

    held_frame : (w : Widths) → Lawful w → is_frame w k (shape_held s) ≡ is_frame w k p
    unfolding is_frame
    held_frame w f = held_framed (size_of w k) (says_so k) false kept_chars (small f k) s.reader.held s.reader.fill s.reader.over h

    pub held_next : is_next knows k n (shape_held s) ≡ is_next knows k n p
    held_next =
        ⊎_elim (λ l. next_none r k n (shape_held s) (λ w f. held_frame w f ∙ too_long l w f) ∙ sym (next_none r k n p (too_long l)))
        (λ l. ap (is_next knows k n) (held_is h l)) (lt_or_le kept_chars (length p))

    pub held_bytes : is_next knows k n p ≡ true → shape_held s ≡ p
    unfolding is_frame
    held_bytes e =
        let w = (edition_numbered knows (edition_for k n (bytes_of p))).widths in
        let f = is_frame_lem (size_of w k) (says_so k) false p true (next_frame k n p e) false≢true in
        held_is h (omega (arith, small (r (edition_for k n (bytes_of p))) k, hex_length (bytes_of p), f.long, ap length f.written))

-- ---- a reader of all editions, one of edition 1 alone, and one of those before the newest

pub reads_all : Reads editions
reads_all = numbered (λ e. Lawful e.widths) editions (lawful1 ▸ lawful1 ▸ lawful3 ▸ lawful3)

pub reads_old : Reads (edition1 ∷ [])
reads_old = numbered (λ e. Lawful e.widths) (edition1 ∷ []) (lawful1 ▸ lawful3)

pub reads_earlier : Reads (edition1 ∷ edition2 ∷ [])
reads_earlier = numbered (λ e. Lawful e.widths) (edition1 ∷ edition2 ∷ []) (lawful1 ▸ lawful1 ▸ lawful3)
