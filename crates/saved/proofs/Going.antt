-- Frames written one after the other: what a loop over them keeps. Assumes nothing.
use mathlib.Core.Path.{◌≡◌, refl, sym, ap, ◌∙◌}
use mathlib.Core.List.{List, [], ◌∷◌, ◌++◌, map, append-nil, append_assoc}
use Prim.Native.Nat.{ℕ, suc, ◌+◌, ◌<◌, ◌≤◌}
use native.Mathlib.Numerals.{add-one}
use native.Mathlib.Omega.{arith}
use lib.ListN.{length, get_or, take, drop, length-append, length-take, drop_of_length-le}
use lib.Seq.{drop-cons, get_or-take}
use Rattle.lines.specs.Texts.{placed}
use Rattle.lines.proofs.Placed.{placed_none, placed_length, placed_more}
use Rattle.saved.specs.Saved.{text_of}
use Rattle.saved.specs.Written.{Written}
use Rattle.saved.proofs.Texts.{text_append}

-- ---- what was written

pub written_none : (out : List ℕ) (at : ℕ) → at ≤ length out → Written out at out at []
written_none out at h = record { buffer = sym (placed_none out at); next = omega arith; within = h }

module _ {out₀ out : List ℕ} {at₀ at : ℕ} {xs : List (List ℕ)} (w : Written out₀ at₀ out at xs) where
  pub written_length : length out ≡ length out₀
  written_length = ap length w.buffer ∙ placed_length out₀ at₀ (text_of xs) (omega (arith, w.next, w.within))

  -- and then others
  pub written_more : {out' : List ℕ} {at' : ℕ} {ys : List (List ℕ)} → Written out at out' at' ys → Written out₀ at₀ out' at' (xs ++ ys)
  written_more {ys = ys} v =
      record {
        buffer = v.buffer ∙ ap (λ (l : List ℕ). placed l at (text_of ys)) w.buffer
            ∙ ap (λ (k : ℕ). placed (placed out₀ at₀ (text_of xs)) k (text_of ys)) w.next
            ∙ placed_more out₀ at₀ (text_of xs) (omega (arith, w.next, w.within)) (text_of ys) ∙ ap (placed out₀ at₀) (sym (text_append xs ys));
        next = omega (arith, w.next, v.next, ap length (text_append xs ys), length-append (text_of xs) (text_of ys));
        within = omega (arith, v.within, written_length);
      }

-- ---- of all frames some are left

-- what is left begins with some, and then these are left
pub record Next (rest xs rest' : List (List ℕ)) : Type 0 where
  pub parts : rest ≡ xs ++ rest'

pub next_first : (xs ys : List (List ℕ)) → Next (xs ++ ys) xs ys
next_first xs ys = record { parts = refl }

pub next_all : (xs : List (List ℕ)) → Next xs xs []
next_all xs = record { parts = sym (append-nil xs) }

pub record Going (out₀ : List ℕ) (at₀ : ℕ) (out : List ℕ) (at : ℕ) (all rest : List (List ℕ)) : Type 0 where
  pub done : List (List ℕ)
  pub split : done ++ rest ≡ all
  pub written : Written out₀ at₀ out at done

pub going_start : {out : List ℕ} {at : ℕ} {all : List (List ℕ)} → at ≤ length out → Going out at out at all all
going_start {out} {at} h = record { done = []; split = refl; written = written_none out at h }

module _ {out₀ out : List ℕ} {at₀ at : ℕ} {all rest : List (List ℕ)} (g : Going out₀ at₀ out at all rest) where
  pub going_length : length out ≡ length out₀
  going_length = written_length g.written

  pub going_end : rest ≡ [] → Written out₀ at₀ out at all
  going_end e =
      let all_done : g.done ≡ all = sym (append-nil g.done) ∙ ap (λ (fs : List (List ℕ)). g.done ++ fs) (sym e) ∙ g.split in
      rw all_done at g.written

  module _ {xs rest' : List (List ℕ)} (n : Next rest xs rest') where
    pub going_more : {out' : List ℕ} {at' : ℕ} → Written out at out' at' xs → Going out₀ at₀ out' at' all rest'
    going_more w =
        record {
          done = g.done ++ xs;
          split = append_assoc g.done xs rest' ∙ ap (λ (fs : List (List ℕ)). g.done ++ fs) (sym n.parts) ∙ g.split;
          written = written_more g.written w;
        }

    -- where all have room, the next have
    pub going_room : at₀ + length (text_of all) ≤ length out₀ → at + length (text_of xs) ≤ length out
    going_room room =
        omega (
          arith,
          room,
          going_length,
          g.written.next,
          ap (λ (fs : List (List ℕ)). length (text_of fs)) g.split,
          ap length (text_append g.done rest),
          length-append (text_of g.done) (text_of rest),
          ap (λ (fs : List (List ℕ)). length (text_of fs)) n.parts,
          ap length (text_append xs rest'),
          length-append (text_of xs) (text_of rest'),
        )

-- ---- a list's first elements, from a place on

module _ {A : Type 0} (n : ℕ) (xs : List A) (i : ℕ) where
  pub next_of : (d : A) → i < n → n ≤ length xs → drop i (take n xs) ≡ get_or xs i d ∷ drop (i + 1) (take n xs)
  next_of d h l =
      drop-cons (take n xs) i d (omega (arith, length-take n xs)) ∙ ap (λ (x : A). x ∷ drop (suc i) (take n xs)) (get_or-take n xs i d h)
      ∙ ap (λ (k : ℕ). get_or xs i d ∷ drop k (take n xs)) (sym (add-one i))

  pub none_left : n ≤ i → drop i (take n xs) ≡ []
  none_left h = drop_of_length-le (take n xs) {i = i} (omega (arith, length-take n xs))

-- ---- a frame for each of a list's first elements, i of which are written

pub record Each {A : Type 0} (f : A → List ℕ) (n : ℕ) (xs : List A) (out₀ : List ℕ) (at₀ : ℕ) (out : List ℕ) (at i : ℕ) : Type 0 where
  pub up : i ≤ n
  pub going : Going out₀ at₀ out at (map f (take n xs)) (map f (drop i (take n xs)))

module _ {A : Type 0} {f : A → List ℕ} {n : ℕ} {xs : List A} where
  pub each_start : {out : List ℕ} {at : ℕ} → at ≤ length out → Each f n xs out at out at 0
  each_start h = record { up = omega arith; going = going_start h }

  module _ {out₀ out : List ℕ} {at₀ at i : ℕ} (e : Each f n xs out₀ at₀ out at i) where
    pub each_end : n ≤ i → Written out₀ at₀ out at (map f (take n xs))
    each_end h = going_end e.going (ap (map f) (none_left n xs i h))

    module _ (d : A) {g : List ℕ} (h : i < n) (l : n ≤ length xs) (is : g ≡ f (get_or xs i d)) where
      next_frame : Next (map f (drop i (take n xs))) (g ∷ []) (map f (drop (i + 1) (take n xs)))
      next_frame = record { parts = ap (map f) (next_of n xs i d h l) ∙ ap (λ (x : List ℕ). x ∷ map f (drop (i + 1) (take n xs))) (sym is) }

      pub each_room : at₀ + length (text_of (map f (take n xs))) ≤ length out₀ → at + length (text_of (g ∷ [])) ≤ length out
      each_room = going_room e.going next_frame

      pub each_more : {out' : List ℕ} {at' : ℕ} → Written out at out' at' (g ∷ []) → Each f n xs out₀ at₀ out' at' (i + 1)
      each_more w = record { up = omega arith; going = going_more e.going next_frame w }
