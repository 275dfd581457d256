-- `loads::load` meets its contract. Assumes nothing.
use mathlib.Core.Path.{◌≡◌, refl, sym, ap, ◌∙◌}
use mathlib.Core.Bool.{Bool, true, false, cond, ◌&&◌}
use mathlib.Core.List.{List}
use Prim.Native.Nat.{ℕ}
use Rattle.base.proofs.Bools.{said_no, said_yes}
use Rattle.cluster.specs.declared.Cluster.{Cluster}
use Rattle.steps.specs.declared.Outcome.{Outcome}
use Rattle.steps.specs.declared.Refusal.TheVariants.{NotAFrame, IllFormed}
use Rattle.steps.specs.Answers.{refusing_all}
use Rattle.saved.specs.Editions.{editions, is_known, edition_numbered, has_form}
use Rattle.saved.specs.Saved.{saved_as}
use Rattle.saved.specs.Shape.{named_by, shaped}
use Rattle.shapes.specs.declared.Shape.{Shape}
use Rattle.shapes.specs.Walk.{fresh_shape, walked, is_shaped}
use Rattle.shapes.proofs.Next.{reads_all}
use Rattle.shapes.proofs.Told.{told}
use Rattle.shapes.proofs.Named.{named}
use Rattle.loads.specs.Decoded.{decoded_in}
use Rattle.loads.specs.Loads.{same_text, loaded, load_for, load_of}
use Rattle.loads.proofs.Loads.{shaped_known}
use Rattle.loads.proofs.load.Goals as goal

-- what the walk tells is the shape, and where that is right the edition
module _ {s t : Shape} (text : List ℕ) (q : t ≡ walked s text) (r : s ≡ fresh_shape) where
  whole : t ≡ walked fresh_shape text
  whole = q ∙ ap (λ (x : Shape). walked x text) r

  tells : {b : Bool} → b ≡ is_shaped t → b ≡ shaped text
  tells p = p ∙ ap is_shaped whole ∙ told text

  names : shaped text ≡ true → t.left.edition ≡ named_by text
  names h = ap (λ (x : Shape). x.left.edition) whole ∙ named editions reads_all text (told text ∙ h)

module _ (c : Cluster) (text : List ℕ) where
  no-shape : shaped text ≡ false → refusing_all c NotAFrame ≡ load_of c text
  unfolding load_for
  no-shape e = rw e

  by-text : {n : ℕ} {d : Cluster} {b : Bool} → shaped text ≡ true → n ≡ named_by text → d ≡ decoded_in (edition_numbered editions n).widths text
      → b ≡ (is_known editions n && (has_form (edition_numbered editions n) d && same_text (saved_as (edition_numbered editions n) d) text)) → cond b (loaded d) (refusing_all c IllFormed) ≡ load_of c text
  unfolding load_for
  by-text {n} {d} {b} e m p f =
      ap (λ (x : Bool). cond x (loaded d) (refusing_all c IllFormed)) f
      ∙ ap (λ (k : ℕ). gives (is_known editions k) k d) m
      ∙ ap (λ (x : Bool). gives x (named_by text) d) (shaped_known editions text e)
      ∙ ap (gives true (named_by text)) (p ∙ ap (λ (k : ℕ). decoded_in (edition_numbered editions k).widths text) m)
      ∙ rw e (both (has_form (edition_numbered editions (named_by text)) _) (same_text (saved_as (edition_numbered editions (named_by text)) _) text) (loaded _) (refusing_all c IllFormed))
    where
      gives : Bool → ℕ → Cluster → Outcome
      gives x k y = cond (x && (has_form (edition_numbered editions k) y && same_text (saved_as (edition_numbered editions k) y) text)) (loaded y) (refusing_all c IllFormed)

      both : (x y : Bool) (o q : Outcome) → cond (x && y) o q ≡ cond x (cond y o q) q
      both true y o q = refl
      both false y o q = refl

pub returns-then-not-is_shaped : goal.returns-then-not-is_shaped
returns-then-not-is_shaped c =
    c.refuse_all.ensures ∙ no-shape _ _ (said_no _ _ (tells _ c.walk-shape.ensures c.begin.ensures c.is_shaped.ensures) c.if-not-is_shaped.true)

pub returns-then-not-saves_to : goal.returns-then-not-saves_to
returns-then-not-saves_to c =
    let s = said_yes _ _ (tells _ c.walk-shape.ensures c.begin.ensures c.is_shaped.ensures) c.if-not-is_shaped.false in
    c.refuse_all-then-not-saves_to.ensures ∙ by-text _ _ {b = false} s (names _ c.walk-shape.ensures c.begin.ensures s) c.decode-d.ensures (sym (said_no _ _ c.saves_to.ensures c.if-not-saves_to.true))

pub returns : goal.returns
returns c =
    let s = said_yes _ _ (tells _ c.walk-shape.ensures c.begin.ensures c.is_shaped.ensures) c.if-not-is_shaped.false in
    by-text _ _ {b = true} s (names _ c.walk-shape.ensures c.begin.ensures s) c.decode-d.ensures (sym (said_yes _ _ c.saves_to.ensures c.if-not-saves_to.false))
