-- No frame is longer than what is kept, and what is read of its bytes is the same where zeros follow them. Assumes nothing.
use mathlib.Core.Path.{◌≡◌, refl, sym, ap, ◌∙◌}
use mathlib.Core.Bool.{Bool}
use mathlib.Core.List.{List}
use mathlib.Core.Logic.{⊎_elim}
use Prim.Native.Nat.{ℕ, zero, suc, ◌*◌, ◌≤◌, min}
use native.Mathlib.Omega.{arith}
use lib.Dec.{eqb}
use lib.ListN.{length, get_or, replicate, length-replicate, get_or-eq_default}
use Rattle.base.proofs.Cases.{◌▸◌}
use Rattle.base.proofs.Facts.{lt_or_le}
use Rattle.base.proofs.Joined.{joined_low, joined_high}
use Rattle.hex_text.specs.Lines.{chars, bytes_of, over}
use Rattle.hex_text.proofs.Places.{bytes_length}
use Rattle.words.specs.Words.{byte_at}
use Rattle.saved.specs.declared.Sort.{Sort}
use Rattle.saved.specs.declared.Sort.TheVariants as S
use Rattle.saved.specs.Layout.{Widths, sort_number, size_of}
use Rattle.saved.specs.Editions.{widths1, widths3, editions, edition_numbered}
use Rattle.saved.specs.Written.{most_bytes}
use Rattle.saved.proofs.Fields.{said_same}
use Rattle.saved.proofs.Lawful.{Lawful, numbered}
use Rattle.shapes.specs.declared.Left.{Left}
use Rattle.shapes.specs.Walk.{kept_chars, edition_for, left_after}

pub small : {w : Widths} → Lawful w → (k : Sort) → chars * size_of w k ≤ kept_chars
small l k = omega (arith, l.small k)

zeros : ℕ → List ℕ
zeros n = replicate n 0

zero_at : (n i : ℕ) → get_or (zeros n) i 0 ≡ 0
unfolding zeros
zero_at zero i = refl
zero_at (suc n) zero = refl
zero_at (suc n) (suc i) = zero_at n i

-- below n, or at every place where the bytes are no more
pub over_zeros : (n : ℕ) (bs : List ℕ) (i : ℕ) → (n ≤ i → length bs ≤ n) → byte_at (over bs (replicate n 0)) i ≡ byte_at bs i
unfolding zeros
over_zeros n bs i h =
    ⊎_elim (λ l. joined_low 0 k bs (zeros n) (omega arith) i l)
    (λ l. joined_high 0 k bs (zeros n) (omega arith) i l ∙ zero_at n i ∙ sym (get_or-eq_default bs 0 {n = i} (past l))) (lt_or_le i k)
  where
    k : ℕ
    k = min (length bs) (length (zeros n))

    past : k ≤ i → length bs ≤ i
    past l = let m = length-replicate {A = ℕ} n 0 in ⊎_elim (λ b. omega arith) (λ g. let s = h g in omega arith) (lt_or_le i n)

-- the bytes that `first_bytes` gives
pub bytes_same : (line bs : List ℕ) → bs ≡ over (bytes_of line) (replicate most_bytes 0) → (i : ℕ) → (most_bytes ≤ i → length line ≤ kept_chars) → byte_at bs i ≡ byte_at (bytes_of line) i
bytes_same line bs e i h =
    ap (λ (x : List ℕ). byte_at x i) e ∙ over_zeros most_bytes (bytes_of line) i (λ g. let s = h g in omega (arith, bytes_length line))

-- what a frame says of itself
abbrev pub says_so : Sort → List ℕ → Bool
says_so k bs = eqb (byte_at bs 0) (sort_number k)

pub edition_same : (bs cs : List ℕ) → byte_at bs 1 ≡ byte_at cs 1 → (k : Sort) (n : ℕ) → edition_for k n bs ≡ edition_for k n cs
edition_same bs cs same S.First n = same
edition_same bs cs same S.Server n = refl
edition_same bs cs same S.Entry n = refl
edition_same bs cs same S.Note n = refl
edition_same bs cs same S.Report n = refl

module _ (bs cs : List ℕ) (same : (i : ℕ) → byte_at bs i ≡ byte_at cs i) where
  pub left_same : (w : Widths) (k : Sort) (l : Left) → left_after w k bs l ≡ left_after w k cs l
  left_same w S.First l = cc (same 1, said_same bs cs same (w S.First) 1)
  left_same w S.Server l = cc (said_same bs cs same (w S.Server) 1)
  left_same w S.Entry l = refl
  left_same w S.Note l = refl
  left_same w S.Report l = refl

-- what is left goes by fields that all editions have
pub left_any : (n : ℕ) (k : Sort) (bs : List ℕ) (l : Left) → left_after (edition_numbered editions n).widths k bs l ≡ left_after widths1 k bs l
left_any n k bs l = numbered (λ e. left_after e.widths k bs l ≡ left_after widths1 k bs l) editions (refl ▸ refl ▸ three k ▸ three k) n
  where
    three : (k : Sort) → left_after widths3 k bs l ≡ left_after widths1 k bs l
    three S.First = refl
    three S.Server = refl
    three S.Entry = refl
    three S.Note = refl
    three S.Report = refl
