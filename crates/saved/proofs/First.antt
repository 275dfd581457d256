-- What a first frame tells is read back; and the frames of the known editions beside those of the newest: but for the first they are the same, and
-- of that they have the beginning. Assumes nothing.
use mathlib.Core.Path.{◌≡◌, refl, ap, sym, ◌∙◌}
use mathlib.Core.Bool.{Bool, true, cond}
use mathlib.Core.List.{List, [], ◌∷◌}
use mathlib.Core.Logic.{⊎_elim}
use Prim.Native.Nat.{ℕ, ◌≤◌}
use native.Mathlib.Omega.{arith}
use borrow.Author.Tests.{le-ltb, eqb-true}
use lib.ListN.{length, take, length-take, get_or-eq_default}
use lib.Seq.{get_or-take}
use Rattle.base.proofs.Cases.{◌▸◌}
use Rattle.base.proofs.Facts.{lt_or_le}
use Rattle.words.specs.Words.{byte_at}
use Rattle.cluster.specs.declared.Server.{Server}
use Rattle.saved.specs.declared.Sort.TheVariants as S
use Rattle.saved.specs.declared.Limits.{Limits}
use Rattle.saved.specs.Layout.{Widths, frame, size_of, first_frame}
use Rattle.saved.specs.Editions.{widths1, widths3, editions, edition_numbered, tells_followers, limits_of, allows_followers}
use Rattle.saved.specs.Saved.{all_frames}
use Rattle.saved.proofs.Fields.{fields_taken}
use Rattle.saved.proofs.Lawful.{FirstLawful, numbered}

-- ---- what it tells

module _ (w : Widths) (edition size followers : ℕ) where
  -- the numbers that have a field
  abbrev pub first_numbers : List ℕ
  first_numbers = take (length (w S.First)) (edition ∷ size ∷ followers ∷ [])

  pub first_taken : first_frame w edition size followers ≡ frame w S.First first_numbers
  first_taken = ap (λ (bs : List ℕ). 0 ∷ bs) (fields_taken (w S.First) (edition ∷ size ∷ followers ∷ []))

  module _ (l : FirstLawful w) where
    pub first_long : length first_numbers ≡ length (w S.First)
    first_long = omega (arith, length-take (length (w S.First)) (edition ∷ size ∷ followers ∷ []), l.long)

    pub first_size : byte_at first_numbers 1 ≡ size
    first_size = get_or-take (length (w S.First)) (edition ∷ size ∷ followers ∷ []) 1 0 l.counts

    pub first_followers : allows_followers w followers ≡ true → byte_at first_numbers 2 ≡ followers
    first_followers h =
        ⊎_elim (λ k. get_or-take (length (w S.First)) (edition ∷ size ∷ followers ∷ []) 2 0 k)
        (λ k. get_or-eq_default first_numbers 0 {n = 2} (omega (arith, first_long)) ∙ sym (eqb-true followers 0 (rw (le-ltb 2 (length (w S.First)) k) at h))) (lt_or_le 2 (length (w S.First)))

-- ---- editions side by side

-- whether there is a field for the followers, by what `limits_of` gives
pub tells_is : (n : ℕ) {m : Limits} {b : Bool} → m ≡ limits_of (edition_numbered editions n) → m.followers ≡ b → tells_followers (edition_numbered editions n).widths ≡ b
tells_is n p q = sym (ap (λ (x : Limits). x.followers) p) ∙ q

pub record Like (w : Widths) : Type 0 where
  pub size : cond (tells_followers w) 4 3 ≡ size_of w S.First
  pub short : size_of w S.First ≤ size_of widths3 S.First
  pub front : (edition size followers : ℕ) → take (size_of w S.First) (first_frame widths3 edition size followers) ≡ first_frame w edition size followers
  pub servers : (ss : List Server) → all_frames w ss ≡ all_frames widths1 ss

pub like : (n : ℕ) → Like (edition_numbered editions n).widths
like = numbered (λ e. Like e.widths) editions (one_or_two ▸ one_or_two ▸ three ▸ three)
  where
    one_or_two : Like widths1
    one_or_two = record { size = refl; short = omega arith; front = λ e s f. refl; servers = λ ss. refl }

    three : Like widths3
    three = record { size = refl; short = omega arith; front = λ e s f. refl; servers = λ ss. refl }
