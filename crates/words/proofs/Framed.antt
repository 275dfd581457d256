-- Laws of a line of so many bytes: when it is one, and that it is then the line of its bytes. Assumes nothing.
use mathlib.Core.Path.{◌≡◌, refl, sym, ap, ◌∙◌}
use mathlib.Core.Bool.{Bool, true, false, cond, ◌&&◌}
use mathlib.Core.List.{List}
use Prim.Native.Nat.{ℕ, ◌*◌}
use native.Mathlib.Omega.{arith}
use borrow.Author.Tests.{eq-eqb, ne_eqb, eqb-true}
use lib.Dec.{eqb}
use lib.ListN.{length}
use Rattle.base.proofs.Bools.{and_left, and_right}
use Rattle.hex_text.specs.Lines.{chars, all_hex, bytes_of, hex_of}
use Rattle.hex_text.proofs.Places.{bytes_length, hex_length}
use Rattle.hex_text.proofs.Trips.{Bytes, bytes_hex, hex_all, hex_bytes}
use Rattle.std.proofs.Common.{Some, None}
use Rattle.std.proofs.lemmas.Option.{none-some, same_Some}
use Rattle.words.specs.Words.{framed}

module _ {A : Type 0} (n : ℕ) (f : List ℕ → A) (none : A) where
  pub framed_other : (line : List ℕ) → (length line ≡ chars * n → ⊥) → none ≡ framed n f none line
  unfolding framed
  framed_other line h = simp (ne_eqb _ _ h)

  pub framed_spoilt : (line : List ℕ) → length line ≡ chars * n → all_hex line ≡ false → none ≡ framed n f none line
  unfolding framed
  framed_spoilt line h e = simp (eq-eqb _ _ h, e)

  -- n bytes in lower case
  pub framed_good : (line : List ℕ) → length line ≡ chars * n → all_hex line ≡ true → f (bytes_of line) ≡ framed n f none line
  unfolding framed
  framed_good line h e = simp (eq-eqb _ _ h, e)

  -- what is made of the bytes that are read, where there are some
  pub framed_none : (line : List ℕ) → framed n Some None line ≡ None → none ≡ framed n f none line
  unfolding framed
  framed_none line e = go (eqb (length line) (chars * n) && all_hex line) e
    where
      go : (t : Bool) → cond t (Some (bytes_of line)) None ≡ None → none ≡ cond t (f (bytes_of line)) none
      go true e = absurd (none-some (bytes_of line) (sym e))
      go false e = refl

  pub framed_some : (line bs : List ℕ) → framed n Some None line ≡ Some bs → f bs ≡ framed n f none line
  unfolding framed
  framed_some line bs e = go (eqb (length line) (chars * n) && all_hex line) e
    where
      go : (t : Bool) → cond t (Some (bytes_of line)) None ≡ Some bs → f bs ≡ cond t (f (bytes_of line)) none
      go true e = ap f (sym (same_Some _ _ e))
      go false e = absurd (none-some bs e)

  -- bytes that are written are read
  pub framed_hex : (bs : List ℕ) → Bytes bs → length bs ≡ n → framed n f none (hex_of bs) ≡ f bs
  framed_hex bs b l = sym (framed_good (hex_of bs) (omega (arith, hex_length bs)) (hex_all bs b)) ∙ ap f (bytes_hex bs b)

  -- a line that is read as something is the line of n bytes, of which that is made
  pub record IsFrame (line : List ℕ) (x : A) : Type 0 where
    pub long : length (bytes_of line) ≡ n
    pub written : hex_of (bytes_of line) ≡ line
    pub made : f (bytes_of line) ≡ x

  pub is_frame_lem : (line : List ℕ) (x : A) → framed n f none line ≡ x → (none ≡ x → ⊥) → IsFrame line x
  unfolding framed
  is_frame_lem line x e other = go (eqb (length line) (chars * n) && all_hex line) refl e
    where
      go : (t : Bool) → (eqb (length line) (chars * n) && all_hex line) ≡ t → cond t (f (bytes_of line)) none ≡ x → IsFrame line x
      go true p e =
          let l : length line ≡ chars * n = eqb-true _ _ (and_left _ _ p) in
          record {
            long = omega (arith, bytes_length line);
            written = hex_bytes n line l (and_right (eqb (length line) (chars * n)) _ p);
            made = e;
          }
      go false p e = absurd (other e)
