-- What loading a text gives: the record that it decodes to, where the text has the shape and is that record's saved form in its own edition, or a
-- refusal. Assumes nothing.
use Rattle.std.specs.Prelude.{Bool, ◌&&◌, List, [], ◌∷◌, ℕ, eqb, length, get_or}
use Rattle.base.specs.Numbers.{every}
use Rattle.cluster.specs.declared.Cluster.{Cluster}
use Rattle.steps.specs.declared.Outcome.{Outcome}
use Rattle.steps.specs.declared.Answer.TheVariants.{Done}
use Rattle.steps.specs.declared.Refusal.TheVariants.{NotAFrame, IllFormed}
use Rattle.steps.specs.Refusals.{Rules, decided}
use Rattle.steps.specs.Answers.{refusing_all}
use Rattle.saved.specs.Editions.{Edition, editions, edition_numbered, has_form}
use Rattle.saved.specs.Saved.{saved_as}
use Rattle.saved.specs.Shape.{named_by, shaped_for}
use Rattle.loads.specs.Decoded.{decoded_in}

-- equally long, and equal at every place
unfoldable pub same_text : List ℕ → List ℕ → Bool
same_text xs ys = eqb (length xs) (length ys) && every (length xs) (λ i. eqb (get_or xs i 0) (get_or ys i 0))

-- a record that was loaded
abbrev pub loaded : Cluster → Outcome
loaded d = record { cluster = d; answer = Done }

module _ (knows : List Edition) where
  -- the edition of a text, and what it decodes to there
  abbrev pub edition_of : List ℕ → Edition
  edition_of text = edition_numbered knows (named_by text)

  abbrev pub decoded : List ℕ → Cluster
  decoded text = decoded_in (edition_of text).widths text

  -- the shape is asked for first
  abbrev pub load_rules : List ℕ → Rules
  load_rules text =
      (shaped_for knows text, NotAFrame) ∷ (has_form (edition_of text) (decoded text), IllFormed)
      ∷ (same_text (saved_as (edition_of text) (decoded text)) text, IllFormed) ∷ []

  unfoldable pub load_for : Cluster → List ℕ → Outcome
  load_for c text = decided (refusing_all c) (loaded (decoded text)) (load_rules text)

-- by a reader that knows all editions
abbrev pub load_of : Cluster → List ℕ → Outcome
load_of c text = load_for editions c text
