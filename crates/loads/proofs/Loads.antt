-- What is promised of loading, shown: soundness by construction, completeness by decoding a saved form. Assumes nothing.
use mathlib.Core.Path.{◌≡◌, refl, sym, ap, ◌∙◌, subst}
use mathlib.Core.Bool.{Bool, true, false, ◌&&◌}
use mathlib.Core.List.{List, [], ◌∷◌}
use mathlib.Core.Logic.{◌⊎◌, inl, inr}
use Prim.Native.Nat.{ℕ, ◌-◌, ◌<◌}
use native.Mathlib.Omega.{arith}
use lib.Dec.{eqb}
use lib.ListN.{length, get_or}
use borrow.Author.Tests.{eq-eqb, eqb-true}
use Rattle.base.specs.Numbers.{byte}
use Rattle.base.proofs.Bools.{and_left, and_right, not_both}
use Rattle.hex_text.specs.Lines.{bytes_of}
use Rattle.hex_text.proofs.Trips.{byte_below, bytes_below}
use Rattle.cluster.specs.Ranges.{Fits}
use Rattle.lines.specs.Texts.{line_feed, lines}
use Rattle.cluster.specs.declared.Cluster.{Cluster}
use Rattle.cluster.specs.WellFormed.{well_formed}
use Rattle.steps.specs.declared.Outcome.{Outcome}
use Rattle.steps.specs.declared.Answer.{Answer}
use Rattle.steps.specs.declared.Answer.TheVariants.{Done, Refused}
use Rattle.steps.specs.declared.Refusal.{Refusal}
use Rattle.steps.specs.declared.Refusal.TheVariants.{NotAFrame, IllFormed}
use Rattle.steps.specs.Refusals.{decided}
use Rattle.steps.specs.Answers.{refusing_all}
use Rattle.steps.specs.Reasons.{Clear, Broken, here, later}
use Rattle.steps.proofs.Decided.{decided_clear, decided_broken}
use Rattle.saved.specs.Editions.{Edition, edition1, edition2, edition3, editions, newest, is_known, edition_numbered, tells_followers, allows, has_form}
use Rattle.saved.specs.Saved.{saved_as, save_of}
use Rattle.saved.specs.declared.Sort.TheVariants as S
use Rattle.saved.specs.Shape.{shaped_by, named_in, named_by, shaped_first, shaped_for}
use Rattle.saved.proofs.Lawful.{Lawful, numbered_is}
use Rattle.saved.proofs.Allowed.{form_formed, form_followers, newest_form}
use Rattle.shapes.proofs.Next.{Reads, reads_all}
use Rattle.loads.specs.Decoded.{decoded_in}
use Rattle.loads.specs.Loads.{same_text, loaded, edition_of, decoded, load_rules, load_for}
use Rattle.loads.specs.Statements.{IsSaved, Finds, LoadsExactly, NoFrameExactly, IllFormedExactly, LoadsOrRefuses, UnknownIsRefused, GivesBackIn, GivesBack, OneEach, MeansTheSame, NoFollowers, OverIsRefused, OldRefusesNew}
use Rattle.loads.proofs.Texts.{same_text_lem, text_same}
use Rattle.loads.proofs.Decoding.{saved_decoded}
use Rattle.loads.proofs.Shaped.{saved_named, saved_shaped}
use Rattle.loads.proofs.Fit.{fits_decoded}

-- they never meet
done_apart : (c d : Cluster) (r : Refusal) → refusing_all c r ≡ loaded d → ⊥
done_apart c d r e =
    let a : ◌≡◌ {A = Answer} (Refused r) Done = ap (λ (o : Outcome). o.answer) e in
    let z : ◌≡◌ {A = ℕ} 0 1 = cc in
    omega arith

refusals_apart : (c : Cluster) → refusing_all c NotAFrame ≡ refusing_all c IllFormed → ⊥
refusals_apart c e =
    let a : ◌≡◌ {A = Answer} (Refused NotAFrame) (Refused IllFormed) = ap (λ (o : Outcome). o.answer) e in
    let z : ◌≡◌ {A = ℕ} 0 1 = cc in
    omega arith

-- ---- a text that passes is a saved form, and a saved form of that shape passes

pub shaped_known : (knows : List Edition) (text : List ℕ) → shaped_for knows text ≡ true → is_known knows (named_by text) ≡ true
unfolding shaped_for
shaped_known knows text h = go (lines text) (and_right (eqb (get_or text (length text - 1) 0) line_feed) _ h)
  where
    go : (ls : List (List ℕ)) → shaped_first knows ls ≡ true → is_known knows (named_in (get_or ls 0 [])) ≡ true
    go [] e = not_both false e refl
    go (l ∷ ls) e = and_left _ _ e

allowed : (d : Cluster) → has_form edition1 d ≡ true → allows edition1 d ≡ true
unfolding has_form
allowed d h = and_right (well_formed d) _ h

module _ (knows : List Edition) (r : Reads knows) where
  module _ (text : List ℕ) where
    is_saved : Clear (load_rules knows text) → IsSaved (edition_of knows text) (decoded knows text) text
    is_saved k =
        record {
          fits = fits_decoded (r (named_by text)) text;
          form = k.1.0;
          saves = same_text_lem (saved_as (edition_of knows text) (decoded knows text)) text k.1.1.0;
        }

    module _ {d : Cluster} (shape : shaped_for knows text ≡ true) (s : IsSaved (edition_of knows text) d text) where
      saved_back : decoded knows text ≡ d
      saved_back =
          let e = edition_of knows text in
          let named : e.number ≡ named_by text = numbered_is knows (named_by text) (shaped_known knows text shape) in
          ap (decoded_in e.widths) (sym s.saves)
          ∙ saved_decoded e (r (named_by text)) (omega (arith, byte_below (bytes_of (get_or (lines text) 0 [])) (bytes_below (get_or (lines text) 0 [])) 1)) d s.fits (form_formed e d s.form) (form_followers e d s.form)

      saved_clear : Clear (load_rules knows text)
      saved_clear = (
        shape,
        (
          ap (has_form (edition_of knows text)) saved_back ∙ s.form,
          (ap (λ (t : List ℕ). same_text t text) (ap (saved_as (edition_of knows text)) saved_back ∙ s.saves) ∙ text_same text, tt),
        ),
      )

  -- ---- the three ways that a loading can go

  data Way (c : Cluster) (text : List ℕ) : Type 0 where
    taken : Clear (load_rules knows text) → load_for knows c text ≡ loaded (decoded knows text) → Way c text
    no_shape : shaped_for knows text ≡ false → load_for knows c text ≡ refusing_all c NotAFrame → Way c text
    no_record : shaped_for knows text ≡ true → (Clear (load_rules knows text) → ⊥) → load_for knows c text ≡ refusing_all c IllFormed → Way c text

  way : (c : Cluster) (text : List ℕ) → Way c text
  unfolding load_for
  way c text = go (shaped_for knows text) (has_form e d) (same_text (saved_as e d) text) refl refl refl
    where
      e : Edition
      e = edition_of knows text

      d : Cluster
      d = decoded knows text

      broken : {r : Refusal} → Broken (load_rules knows text) r → load_for knows c text ≡ refusing_all c r
      broken b = decided_broken (refusing_all c) (loaded d) b

      go : (x y z : Bool) → shaped_for knows text ≡ x → has_form e d ≡ y → same_text (saved_as e d) text ≡ z → Way c text
      go false y z p q r = no_shape p (broken (here p))
      go true false z p q r = no_record p (λ k. not_both _ k.1.0 q) (broken (later p (here q)))
      go true true false p q r = no_record p (λ k. not_both _ k.1.1.0 r) (broken (later p (later q (here r))))
      go true true true p q r = taken (p, (q, (r, tt))) (decided_clear (refusing_all c) (loaded d) (load_rules knows text) (p, (q, (r, tt))))

  -- ---- what is promised of a reader

  -- a saved form of that shape gives its record
  given : (c : Cluster) (text : List ℕ) {d : Cluster} → shaped_for knows text ≡ true → IsSaved (edition_of knows text) d text → load_for knows c text ≡ loaded d
  given c text {d} shape s = go (way c text)
    where
      go : Way c text → load_for knows c text ≡ loaded d
      go (taken k w) = w ∙ ap loaded (saved_back text shape s)
      go (no_shape p w) = not_both _ shape p
      go (no_record p n w) = absurd (n (saved_clear text shape s))

  pub loads_exactly : LoadsExactly knows
  loads_exactly c d text f = (to (way c text), λ s. given c text s.0 (record { fits = f; form = s.1; saves = s.2 }))
    where
      to : Way c text → load_for knows c text ≡ loaded d → (shaped_for knows text ≡ true) × (has_form (edition_of knows text) d ≡ true) × (saved_as (edition_of knows text) d ≡ text)
      to (taken k w) e =
          let same : decoded knows text ≡ d = ap (λ (o : Outcome). o.cluster) (sym w ∙ e) in
          (k.0, ap (has_form (edition_of knows text)) (sym same) ∙ k.1.0, ap (saved_as (edition_of knows text)) (sym same) ∙ (is_saved text k).saves)
      to (no_shape p w) e = absurd (done_apart c d NotAFrame (sym w ∙ e))
      to (no_record p n w) e = absurd (done_apart c d IllFormed (sym w ∙ e))

  pub no_frame_exactly : NoFrameExactly knows
  no_frame_exactly c text = (to (way c text), back (way c text))
    where
      to : Way c text → load_for knows c text ≡ refusing_all c NotAFrame → shaped_for knows text ≡ false
      to (taken k w) e = absurd (done_apart c (decoded knows text) NotAFrame (sym e ∙ w))
      to (no_shape p w) e = p
      to (no_record p n w) e = absurd (refusals_apart c (sym e ∙ w))

      back : Way c text → shaped_for knows text ≡ false → load_for knows c text ≡ refusing_all c NotAFrame
      back (taken k w) e = not_both _ k.0 e
      back (no_shape p w) e = w
      back (no_record p n w) e = not_both _ p e

  pub ill_formed_exactly : IllFormedExactly knows
  ill_formed_exactly c text = (to (way c text), back (way c text))
    where
      to : Way c text → load_for knows c text ≡ refusing_all c IllFormed → (shaped_for knows text ≡ true) × ((d : Cluster) → IsSaved (edition_of knows text) d text → ⊥)
      to (taken k w) e = absurd (done_apart c (decoded knows text) IllFormed (sym e ∙ w))
      to (no_shape p w) e = absurd (refusals_apart c (sym w ∙ e))
      to (no_record p n w) e = (p, λ d s. n (saved_clear text p s))

      back : Way c text → (shaped_for knows text ≡ true) × ((d : Cluster) → IsSaved (edition_of knows text) d text → ⊥) → load_for knows c text ≡ refusing_all c IllFormed
      back (taken k w) e = absurd (e.1 (decoded knows text) (is_saved text k))
      back (no_shape p w) e = not_both _ e.0 p
      back (no_record p n w) e = w

  pub loads_or_refuses : LoadsOrRefuses knows
  loads_or_refuses c text = go (way c text)
    where
      go : Way c text
          → (load_for knows c text ≡ refusing_all c NotAFrame) ⊎ (load_for knows c text ≡ refusing_all c IllFormed)
          ⊎ ((d : Cluster) × IsSaved (edition_of knows text) d text × (load_for knows c text ≡ loaded d))
      go (taken k w) = inr (inr (decoded knows text, is_saved text k, w))
      go (no_shape p w) = inl w
      go (no_record p n w) = inr (inl w)

  pub unknown_is_refused : UnknownIsRefused knows
  unknown_is_refused c text u = (no_frame_exactly c text).1 (go (shaped_for knows text) refl)
    where
      go : (b : Bool) → shaped_for knows text ≡ b → shaped_for knows text ≡ false
      go true e = not_both _ (shaped_known knows text e) u
      go false e = e

  module _ (e : Edition) (k : Finds knows e) where
    found : Lawful e.widths
    found = subst (λ (x : Edition). Lawful x.widths) k.same (r e.number)

    module _ (d : Cluster) (f : Fits d) (h : well_formed d ≡ true) where
      pub in_its_edition : edition_of knows (saved_as e d) ≡ e
      in_its_edition = ap (edition_numbered knows) (saved_named e found k.short d f h) ∙ k.same

      pub in_shape : shaped_for knows (saved_as e d) ≡ true
      in_shape = saved_shaped e found k.short d f h knows k.known k.same

  pub gives_back_in : GivesBackIn knows
  gives_back_in e k c d f h =
      let formed = form_formed e d h in
      given c (saved_as e d) (in_shape e k d f formed) (subst (λ (x : Edition). IsSaved x d (saved_as e d)) (sym (in_its_edition e k d f formed)) (record { fits = f; form = h; saves = refl }))

-- ---- what is promised of the program, and of editions

pub one_each : (e : Edition) → Lawful e.widths → e.number < byte → OneEach e
one_each e l b c d f h g k same =
    sym (saved_decoded e l b c f (form_formed e c h) (form_followers e c h)) ∙ ap (decoded_in e.widths) same
    ∙ saved_decoded e l b d g (form_formed e d k) (form_followers e d k)

pub finds_1 : Finds editions edition1
finds_1 = record { short = omega arith; known = refl; same = refl }

pub finds_2 : Finds editions edition2
finds_2 = record { short = omega arith; known = refl; same = refl }

pub finds_3 : Finds editions edition3
finds_3 = record { short = omega arith; known = refl; same = refl }

pub gives_back : GivesBack
unfolding save_of
gives_back c d f h = gives_back_in editions reads_all newest finds_3 c d f (newest_form d ∙ h)

-- what a loading gives, by the shape and the edition
abbrev load_by : Cluster → List ℕ → Bool → Edition → Outcome
load_by c text shape e =
    let d = decoded_in e.widths text in
    decided (refusing_all c) (loaded d) ((shape, NotAFrame) ∷ (has_form e d, IllFormed) ∷ (same_text (saved_as e d) text, IllFormed) ∷ [])

-- where both find the same under its number
module _ (old : List Edition) (e : Edition) (k : is_known editions e.number ≡ is_known old e.number) (s : edition_numbered editions e.number ≡ edition_numbered old e.number) where
  same_shape : (text : List ℕ) → named_by text ≡ e.number → shaped_for editions text ≡ shaped_for old text
  unfolding shaped_for
  same_shape text n = ap (λ (b : Bool). eqb (get_or text (length text - 1) 0) line_feed && b) (go (lines text) n)
    where
      go : (ls : List (List ℕ)) → named_in (get_or ls 0 []) ≡ e.number → shaped_first editions ls ≡ shaped_first old ls
      go [] m = refl
      go (l ∷ ls) m =
          let known : is_known editions (named_in l) ≡ is_known old (named_in l) = rw (m, k) in
          let same : edition_numbered editions (named_in l) ≡ edition_numbered old (named_in l) = rw (m, s) in
          ap (λ (b : Bool). b && shaped_by (edition_numbered editions (named_in l)).widths (S.First ∷ []) (l ∷ ls)) known
          ∙ ap (λ (x : Edition). is_known old (named_in l) && shaped_by x.widths (S.First ∷ []) (l ∷ ls)) same

  pub means_the_same : MeansTheSame old e
  unfolding load_for
  means_the_same c text n =
      let same : edition_of editions text ≡ edition_of old text = rw n s in
      ap (λ (b : Bool). load_by c text b (edition_of editions text)) (same_shape text n) ∙ ap (load_by c text (shaped_for old text)) same

pub no_followers : (e : Edition) → Finds editions e → tells_followers e.widths ≡ false → NoFollowers e
no_followers e k none c d text n l = go (way editions reads_all c text)
  where
    go : Way editions reads_all c text → d.followers ≡ 0
    go (taken q w) =
        let same : decoded editions text ≡ d = ap (λ (o : Outcome). o.cluster) (sym w ∙ l) in
        let its : edition_of editions text ≡ e = ap (edition_numbered editions) n ∙ k.same in
        let form : has_form e d ≡ true = ap (has_form e) (sym same) ∙ ap (λ (x : Edition). has_form x (decoded editions text)) (sym its) ∙ q.1.0 in
        eqb-true d.followers 0 (rw none at (form_followers e d form))
    go (no_shape p w) = absurd (done_apart c d NotAFrame (sym w ∙ l))
    go (no_record p q w) = absurd (done_apart c d IllFormed (sym w ∙ l))

pub over_is_refused : OverIsRefused
over_is_refused c d f h none over = (ill_formed_exactly editions reads_all c (saved_as edition1 d)).1 (in_shape editions reads_all edition1 finds_1 d f h, other)
  where
    found : Lawful edition1.widths
    found = reads_all 1

    -- it would be the record itself
    other : (x : Cluster) → IsSaved (edition_of editions (saved_as edition1 d)) x (saved_as edition1 d) → ⊥
    other x s =
        let t : IsSaved edition1 x (saved_as edition1 d) = subst (λ (e : Edition). IsSaved e x (saved_as edition1 d)) (in_its_edition editions reads_all edition1 finds_1 d f h) s in
        let same : x ≡ d =
        sym (saved_decoded edition1 found (omega arith) x t.fits (form_formed edition1 x t.form) (form_followers edition1 x t.form)) ∙ ap (decoded_in edition1.widths) t.saves
        ∙ saved_decoded edition1 found (omega arith) d f h (eq-eqb d.followers 0 none) in
        not_both _ (allowed d (subst (λ (y : Cluster). has_form edition1 y ≡ true) same t.form)) over

pub old_refuses_new : (old : List Edition) (e : Edition) → Reads old → is_known old e.number ≡ false → OldRefusesNew old e
old_refuses_new old e r u c text n = unknown_is_refused old r c text (ap (is_known old) n ∙ u)
