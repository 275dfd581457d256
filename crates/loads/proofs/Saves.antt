-- What a saving into a buffer with room for the longest saved form says of a record and its text. Assumes nothing.
use Rattle.std.proofs.Common.{Result, Ok, Err}
use mathlib.Core.Path.{◌≡◌, refl, sym, ap, ◌∙◌}
use mathlib.Core.Bool.{Bool, true, false, cond, ◌&&◌}
use mathlib.Core.List.{List, ◌++◌}
use Prim.Native.Nat.{ℕ, ◌+◌, ◌≤◌}
use native.Mathlib.Omega.{arith}
use lib.ListN.{length, take, drop, length-append}
use lib.Seq.{take_at}
use borrow.Author.Tests.{le-ltb}
use Rattle.base.proofs.Bools.{and_left, and_right}
use Rattle.cluster.specs.declared.Cluster.{Cluster}
use Rattle.steps.specs.declared.Refusal.TheVariants.{IllFormed, OutOfRange}
use Rattle.saved.specs.declared.NotSaved.{NotSaved}
use Rattle.saved.specs.declared.NotSaved.TheVariants.{Refused}
use Rattle.saved.specs.Editions.{editions, is_known, edition_numbered, has_form}
use Rattle.saved.specs.Saved.{saved_as}
use Rattle.saved.specs.Written.{longest, saved_as_of, saved_as_out}
use Rattle.loads.specs.Loads.{same_text}

-- the edition of a number is known and has a form for the record
abbrev pub has_text : ℕ → Cluster → Bool
has_text n d = is_known editions n && has_form (edition_numbered editions n) d

abbrev pub is_text : Result ℕ NotSaved → Bool
is_text (Ok n) = true
is_text (Err e) = false

module _ (n : ℕ) (d : Cluster) where
  abbrev form : List ℕ
  form = saved_as (edition_numbered editions n) d

  -- a text of so many bytes was written into a buffer: the record has a form, and that is what stands first
  pub record Wrote (m : ℕ) (after : List ℕ) : Type 0 where
    pub has : has_text n d ≡ true
    pub within : m ≤ length after
    pub text : take m after ≡ form

  -- there is a text just where the edition has a form for the record
  saves : (room : ℕ) → longest ≤ room → is_text (saved_as_of n d room) ≡ has_text n d
  unfolding saved_as_of
  saves room h = rw (le-ltb room longest h) (go (is_known editions n) (has_form (edition_numbered editions n) d))
    where
      go : (x y : Bool) → is_text (cond x (cond y (Ok (length form)) (Err (Refused IllFormed))) (Err (Refused OutOfRange))) ≡ (x && y)
      go true true = refl
      go true false = refl
      go false y = refl

  pub no_text : (room : ℕ) → longest ≤ room → (s : Result ℕ NotSaved) → is_text s ≡ false → s ≡ saved_as_of n d room → has_text n d ≡ false
  no_text room h s t e = sym (saves room h) ∙ ap is_text (sym e) ∙ t

  pub wrote_text : (out : List ℕ) → longest ≤ length out → (m : ℕ) (after : List ℕ) → Ok m ≡ saved_as_of n d (length out) → after ≡ saved_as_out n d out → Wrote m after
  unfolding saved_as_of saved_as_out
  wrote_text out h m after e p =
      record {
        has = has;
        within = omega (arith, ap length whole, length-append form (drop (length form) out), long);
        text = ap (take m) whole ∙ take_at form (drop (length form) out) m (sym long);
      }
    where
      has : has_text n d ≡ true
      has = sym (saves (length out) h) ∙ ap is_text (sym e)

      known : is_known editions n ≡ true
      known = and_left _ _ has

      formed : has_form (edition_numbered editions n) d ≡ true
      formed = and_right (is_known editions n) _ has

      long : m ≡ length form
      long = let q : Ok m ≡ Ok (length form) = e ∙ rw (known, formed, le-ltb (length out) longest h) in cc

      whole : after ≡ form ++ drop (length form) out
      whole =
          let z : 0 + length form ≡ length form = omega arith in
          p ∙ rw (known, formed, le-ltb (length out) longest h) (ap (λ (k : ℕ). form ++ drop k out) z)

  -- what a comparison then says
  abbrev saves_to : List ℕ → Bool
  saves_to text = is_known editions n && (has_form (edition_numbered editions n) d && same_text form text)

  both : (x y z : Bool) → ((x && y) && z) ≡ (x && (y && z))
  both true y z = refl
  both false y z = refl

  pub wrote_same : {m : ℕ} {after : List ℕ} → Wrote m after → (text : List ℕ) → same_text (take m after) text ≡ saves_to text
  wrote_same w text =
      ap (λ (t : List ℕ). same_text t text) w.text ∙ sym (ap (λ (b : Bool). b && same_text form text) w.has)
      ∙ both (is_known editions n) (has_form (edition_numbered editions n) d) (same_text form text)

  pub wrote_none : has_text n d ≡ false → (text : List ℕ) → false ≡ saves_to text
  wrote_none e text = sym (ap (λ (b : Bool). b && same_text form text) e) ∙ both (is_known editions n) (has_form (edition_numbered editions n) d) (same_text form text)
