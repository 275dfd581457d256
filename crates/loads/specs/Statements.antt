-- What is promised of loading: a text is taken exactly where it is, in its own edition, the saved form of the record that is loaded; and what a
-- reader of more editions does with the texts of fewer. Assumes nothing.
use Rattle.std.specs.Prelude.{◌≡◌, true, false, List, ◌⊎◌, ◌↔◌, ℕ, ◌<◌}
use Rattle.base.specs.Numbers.{byte}
use Rattle.cluster.specs.declared.Cluster.{Cluster}
use Rattle.cluster.specs.WellFormed.{well_formed}
use Rattle.cluster.specs.Ranges.{Fits}
use Rattle.steps.specs.declared.Refusal.TheVariants.{NotAFrame, IllFormed}
use Rattle.steps.specs.Answers.{refusing_all}
use Rattle.saved.specs.Editions.{Edition, edition1, is_known, edition_numbered, allows, has_form}
use Rattle.saved.specs.Saved.{saved_as, save_of}
use Rattle.saved.specs.Shape.{named_by, shaped_for}
use Rattle.loads.specs.Loads.{loaded, edition_of, load_for, load_of}

-- a text is the saved form of a record in an edition
pub record IsSaved (e : Edition) (d : Cluster) (text : List ℕ) : Type 0 where
  pub fits : Fits d
  pub form : has_form e d ≡ true
  pub saves : saved_as e d ≡ text

-- a reader finds an edition under its number, which is a byte
pub record Finds (knows : List Edition) (e : Edition) : Type 0 where
  pub short : e.number < byte
  pub known : is_known knows e.number ≡ true
  pub same : edition_numbered knows e.number ≡ e

-- ---- of a reader, whatever editions it knows

module _ (knows : List Edition) where
  -- it loads to a record exactly where it has the shape and is the saved form of that record in its edition
  abbrev pub LoadsExactly : Type 0
  LoadsExactly =
      (c d : Cluster) (text : List ℕ) → Fits d
      → (load_for knows c text ≡ loaded d) ↔ ((shaped_for knows text ≡ true) × (has_form (edition_of knows text) d ≡ true) × (saved_as (edition_of knows text) d ≡ text))

  -- it is refused with 1 exactly where it hasn't the shape, and the record stays as it was
  abbrev pub NoFrameExactly : Type 0
  NoFrameExactly = (c : Cluster) (text : List ℕ) → (load_for knows c text ≡ refusing_all c NotAFrame) ↔ (shaped_for knows text ≡ false)

  -- it is refused with 2 exactly where it has the shape and is no record's saved form in its edition, and the record stays as it was
  abbrev pub IllFormedExactly : Type 0
  IllFormedExactly =
      (c : Cluster) (text : List ℕ)
      → (load_for knows c text ≡ refusing_all c IllFormed) ↔ ((shaped_for knows text ≡ true) × ((d : Cluster) → IsSaved (edition_of knows text) d text → ⊥))

  -- nothing else is given: a refusal, or a record whose saved form it is
  abbrev pub LoadsOrRefuses : Type 0
  LoadsOrRefuses =
      (c : Cluster) (text : List ℕ)
      → (load_for knows c text ≡ refusing_all c NotAFrame) ⊎ (load_for knows c text ≡ refusing_all c IllFormed)
      ⊎ ((d : Cluster) × IsSaved (edition_of knows text) d text × (load_for knows c text ≡ loaded d))

  -- a text of an edition that isn't known is refused with 1, by what its first line says
  abbrev pub UnknownIsRefused : Type 0
  UnknownIsRefused = (c : Cluster) (text : List ℕ) → is_known knows (named_by text) ≡ false → load_for knows c text ≡ refusing_all c NotAFrame

  -- reading gives back exactly the record that was saved in an edition that it knows
  abbrev pub GivesBackIn : Type 0
  GivesBackIn = (e : Edition) → Finds knows e → (c d : Cluster) → Fits d → has_form e d ≡ true → load_for knows c (saved_as e d) ≡ loaded d

-- ---- of the program

-- reading gives back every well-formed record
abbrev pub GivesBack : Type 0
GivesBack = (c d : Cluster) → Fits d → well_formed d ≡ true → load_of c (save_of d) ≡ loaded d

-- two records that save to one text in one edition are one
abbrev pub OneEach : Edition → Type 0
OneEach e = (c d : Cluster) → Fits c → has_form e c ≡ true → Fits d → has_form e d ≡ true → saved_as e c ≡ saved_as e d → c ≡ d

-- an edition means what it meant: over its texts a reader of all gives what a reader of the old ones alone gives
abbrev pub MeansTheSame : List Edition → Edition → Type 0
MeansTheSame old e = (c : Cluster) (text : List ℕ) → named_by text ≡ e.number → load_of c text ≡ load_for old c text

-- and means no followers, where it has no field for them
abbrev pub NoFollowers : Edition → Type 0
NoFollowers e = (c d : Cluster) (text : List ℕ) → named_by text ≡ e.number → load_of c text ≡ loaded d → d.followers ≡ 0

-- a record without followers that edition 1 doesn't allow, written there all the same, is refused with 2
abbrev pub OverIsRefused : Type 0
OverIsRefused =
    (c d : Cluster) → Fits d → well_formed d ≡ true → d.followers ≡ 0 → allows edition1 d ≡ false → load_of c (saved_as edition1 d) ≡ refusing_all c IllFormed

-- a reader of the old editions alone refuses all texts of a new one with 1
abbrev pub OldRefusesNew : List Edition → Edition → Type 0
OldRefusesNew old e = (c : Cluster) (text : List ℕ) → named_by text ≡ e.number → load_for old c text ≡ refusing_all c NotAFrame
