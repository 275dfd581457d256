-- Laws of a line that is being read, whatever the number of characters that are kept. Assumes nothing.
use mathlib.Core.Path.{◌≡◌, refl, sym, ap, ◌∙◌, subst}
use mathlib.Core.Bool.{Bool, true, false, cond, true≢false}
use mathlib.Core.List.{List, [], ◌∷◌, ◌++◌}
use Prim.Native.Nat.{ℕ, suc, ◌+◌, ◌-◌, ◌*◌, ◌≤◌, ◌<◌}
use native.Mathlib.Numerals.{add-one}
use native.Mathlib.Omega.{arith}
use borrow.Author.Tests.{le-leb, lt-leb, lt-ltb, le-ltb, ne_eqb, eqb-true, leb-true, leb-false, ltb-true, ltb-false}
use lib.Dec.{leb, ltb, eqb}
use lib.ListN.{length, take, set, replicate, length-append, length-replicate, length-set, length-take}
use lib.Seq.{take-suc-set, set_at, append_snoc, length-take-le}
use Rattle.hex_text.specs.Lines.{chars}
use Rattle.words.specs.Words.{framed}
use Rattle.lines.specs.Held.{too_long, held_line, nothing_held, only_long, pushed, form_of}
use Rattle.words.proofs.Framed.{framed_other}

-- what is held stands for the characters p of the line
pub data StandsFor (n : ℕ) (held : List ℕ) (fill : ℕ) (over : Bool) (p : List ℕ) : Type 0 where
  fits : over ≡ false → fill ≡ length p → length p ≤ n → take (length p) held ≡ p → length held ≡ n → StandsFor n held fill over p
  long : (over ≡ false → n < fill) → n < length p → StandsFor n held fill over p

snoc_long : (p : List ℕ) (b : ℕ) → length (p ++ (b ∷ [])) ≡ length p + 1
snoc_long p b = length-append p (b ∷ [])

module _ {n : ℕ} {held : List ℕ} {fill : ℕ} {over : Bool} where
  pub empty_stands : nothing_held fill over ≡ true → length held ≡ n → StandsFor n held fill over []
  empty_stands e l = go over refl e
    where
      go : (o : Bool) → over ≡ o → cond o false (eqb fill 0) ≡ true → StandsFor n held fill over []
      go true p z = absurd (true≢false (sym z))
      go false p z = fits p (eqb-true fill 0 z) (omega arith) refl l

  pub held_empty : StandsFor n held fill over [] → nothing_held fill over ≡ true
  held_empty (fits o f l t m) = simp (o, f)
  held_empty (long o l) = let z : ⊥ = omega arith in absurd z

  pub held_some : {b : ℕ} {p : List ℕ} → StandsFor n held fill over (b ∷ p) → nothing_held fill over ≡ false
  held_some (fits o f l t m) = simp (o, ne_eqb fill 0 (λ e. omega arith))
  held_some (long o l) = go over refl
    where
      go : (x : Bool) → over ≡ x → cond x false (eqb fill 0) ≡ false
      go true e = refl
      go false e = let h = o e in ne_eqb fill 0 (λ z. omega arith)

  -- a line that is not too long is held whole
  pub held_is : {p : List ℕ} → StandsFor n held fill over p → length p ≤ n → held_line n held fill over ≡ p
  held_is (fits o f l t m) h = simp (o, f, le-leb _ n l) t
  held_is (long o l) h = let z : ⊥ = omega arith in absurd z

module _ {A : Type 0} (n : ℕ) (make : List ℕ → ℕ → Bool → A) where
  -- one character more, by whether there is room for it
  module _ (held : List ℕ) (fill : ℕ) (over : Bool) (b : ℕ) where
    pub push_over : over ≡ true → pushed n make held fill over b ≡ only_long n make
    push_over o = ap (λ (x : Bool). cond x (only_long n make) (cond (ltb fill n) (make (set held fill b) (fill + 1) false) (only_long n make))) o

    pub push_full : n ≤ fill → pushed n make held fill over b ≡ only_long n make
    push_full h = go over
      where
        go : (o : Bool) → pushed n make held fill o b ≡ only_long n make
        go true = refl
        go false = rw (le-ltb fill n h)

    pub push_room : over ≡ false → fill < n → pushed n make held fill over b ≡ make (set held fill b) (fill + 1) false
    push_room o h = rw (o, lt-ltb fill n h)

  -- what holds of every reader that stands for the line with the character holds of the one with the character
  pub push_holds : {held : List ℕ} {fill : ℕ} {over : Bool} (Q : A → Type 0) (b : ℕ) {p : List ℕ}
      → ((h : List ℕ) (f : ℕ) (o : Bool) → StandsFor n h f o (p ++ (b ∷ [])) → Q (make h f o)) → StandsFor n held fill over p → Q (pushed n make held fill over b)
  push_holds {held} {fill} {over} Q b {p} q (long o l) = go over refl
    where
      still : Q (only_long n make)
      still = q (replicate n 0) 0 true (long (λ e. absurd (true≢false e)) (omega (arith, snoc_long p b)))

      go : (x : Bool) → over ≡ x → Q (pushed n make held fill over b)
      go true e = subst Q (sym (push_over held fill over b e)) still
      go false e = let h = o e in subst Q (sym (push_full held fill over b (omega arith))) still
  push_holds {held} {fill} {over} Q b {p} q (fits o f l t m) = go (ltb fill n) refl
    where
      go : (x : Bool) → ltb fill n ≡ x → Q (pushed n make held fill over b)
      go true e =
          let h : fill < n = ltb-true fill n e in
          subst Q (sym (push_room held fill over b o h))
          (q (set held fill b) (fill + 1) false
          (fits refl (omega (arith, snoc_long p b)) (omega (arith, snoc_long p b))
          (ap (λ (k : ℕ). take k (set held fill b)) (snoc_long p b ∙ add-one (length p) ∙ ap suc (sym f))
          ∙ take-suc-set held fill b (omega arith) ∙ ap (λ (l : List ℕ). l ++ (b ∷ [])) (ap (λ (k : ℕ). take k held) f ∙ t))
          (length-set held fill b ∙ m)))
      go false e =
          let h : n ≤ fill = ltb-false fill n e in
          subst Q (sym (push_full held fill over b h)) (q (replicate n 0) 0 true (long (λ e. absurd (true≢false e)) (omega (arith, snoc_long p b))))

  -- as many characters are kept as before
  pub push_slots : (held : List ℕ) (fill : ℕ) (over : Bool) (b : ℕ) (Q : A → Type 0) → ((h : List ℕ) (f : ℕ) (o : Bool) → length h ≡ n → Q (make h f o))
      → length held ≡ n → Q (pushed n make held fill over b)
  push_slots held fill over b Q q m = go over (ltb fill n)
    where
      go : (x y : Bool) → Q (cond x (only_long n make) (cond y (make (set held fill b) (fill + 1) false) (only_long n make)))
      go true y = q (replicate n 0) 0 true (length-replicate n 0)
      go false true = q (set held fill b) (fill + 1) false (length-set held fill b ∙ m)
      go false false = q (replicate n 0) 0 true (length-replicate n 0)

  -- ---- the one form

  form_kept : (p : List ℕ) → length p ≤ n → form_of n make p ≡ make (p ++ replicate (n - length p) 0) (length p) false
  form_kept p h = rw (le-leb (length p) n h)

  pub form_long : (p : List ℕ) → n < length p → form_of n make p ≡ only_long n make
  form_long p h = rw (lt-leb (length p) n h)

  -- one character more of a line in its one form gives the one form of the line with it
  pub push_kept : (p : List ℕ) (b : ℕ) → length p ≤ n → pushed n make (p ++ replicate (n - length p) 0) (length p) false b ≡ form_of n make (p ++ (b ∷ []))
  push_kept p b h = go (ltb (length p) n) refl
    where
      zeros : List ℕ
      zeros = replicate (n - (length p + 1)) 0

      go : (x : Bool) → ltb (length p) n ≡ x → pushed n make (p ++ replicate (n - length p) 0) (length p) false b ≡ form_of n make (p ++ (b ∷ []))
      go true e =
          let l : length p < n = ltb-true (length p) n e in
          let k : n - length p ≡ suc (n - (length p + 1)) = omega arith in
          push_room (p ++ replicate (n - length p) 0) (length p) false b refl l
          ∙ ap (λ (m : ℕ). make (set (p ++ replicate m 0) (length p) b) (length p + 1) false) k
          ∙ ap (λ (x : List ℕ). make x (length p + 1) false) (set_at p 0 zeros b (length p) refl ∙ sym (append_snoc p b zeros))
          ∙ ap (λ (m : ℕ). make ((p ++ (b ∷ [])) ++ replicate (n - m) 0) m false) (sym (snoc_long p b))
          ∙ sym (form_kept (p ++ (b ∷ [])) (omega (arith, snoc_long p b)))
      go false e =
          let l : n ≤ length p = ltb-false (length p) n e in
          push_full (p ++ replicate (n - length p) 0) (length p) false b l ∙ sym (form_long (p ++ (b ∷ [])) (omega (arith, snoc_long p b)))

  pub push_long : (p : List ℕ) (b : ℕ) → n < length p → pushed n make (replicate n 0) 0 true b ≡ form_of n make (p ++ (b ∷ []))
  push_long p b h = sym (form_long (p ++ (b ∷ [])) (omega (arith, snoc_long p b)))

-- the line that is held, read as m bytes, where no more are asked for than are kept
module _ {A : Type 0} (m : ℕ) (f : List ℕ → A) (none : A) (n : ℕ) (room : chars * m ≤ n) (held : List ℕ) (fill : ℕ) (over : Bool) where
  too_long_lem : none ≡ framed m f none (too_long n)
  too_long_lem = framed_other m f none (too_long n) (λ e. omega (arith, length-replicate {A = ℕ} (suc n) 0))

  pub held_over_lem : over ≡ true → none ≡ framed m f none (held_line n held fill over)
  held_over_lem e = rw e too_long_lem

  pub held_past : n < fill → none ≡ framed m f none (held_line n held fill over)
  held_past h = go over
    where
      go : (o : Bool) → none ≡ framed m f none (held_line n held fill o)
      go true = too_long_lem
      go false = rw (lt-leb fill n h) too_long_lem

  pub held_short : length held ≡ n → over ≡ false → (fill ≡ chars * m → ⊥) → none ≡ framed m f none (held_line n held fill over)
  held_short k e h = rw e (go (leb fill n) refl)
    where
      go : (b : Bool) → leb fill n ≡ b → none ≡ framed m f none (cond b (take fill held) (too_long n))
      go true q = let l = leb-true fill n q in framed_other m f none (take fill held) (λ z. h (omega (arith, length-take fill held)))
      go false q = too_long_lem

  -- it reads as the line that it stands for
  pub held_framed : {p : List ℕ} → StandsFor n held fill over p → framed m f none (held_line n held fill over) ≡ framed m f none p
  held_framed {p} (fits o g l t k) = ap (framed m f none) (held_is (fits o g l t k) l)
  held_framed {p} (long o l) = sym (go over refl) ∙ framed_other m f none p (λ e. omega arith)
    where
      go : (x : Bool) → over ≡ x → none ≡ framed m f none (held_line n held fill over)
      go true e = held_over_lem e
      go false e = held_past (o e)

pub held_within : (n : ℕ) (held : List ℕ) (fill : ℕ) (over : Bool) → over ≡ false → fill ≤ n → take fill held ≡ held_line n held fill over
held_within n held fill over e h = rw (e, le-leb fill n h)

-- whatever is held stands for the line that it is taken for
pub stands_held : (n : ℕ) (held : List ℕ) (fill : ℕ) (over : Bool) → length held ≡ n → StandsFor n held fill over (held_line n held fill over)
stands_held n held fill over slots = go over (leb fill n) refl refl
  where
    long_is : n < length (too_long n)
    long_is = omega (arith, length-replicate {A = ℕ} (suc n) 0)

    go : (x y : Bool) → over ≡ x → leb fill n ≡ y → StandsFor n held fill over (cond x (too_long n) (cond y (take fill held) (too_long n)))
    go true y e f = long (λ z. absurd (true≢false (sym e ∙ z))) long_is
    go false true e f =
        let h = leb-true fill n f in
        let l : length (take fill held) ≡ fill = length-take-le fill held (omega arith) in
        fits e (sym l) (omega arith) (ap (λ (k : ℕ). take k held) l) slots
    go false false e f = long (λ z. leb-false fill n f) long_is
