-- Loading, a law for each way that a turn can go and for each that a text can lead. Assumes nothing.
use mathlib.Core.Path.{◌≡◌, refl, sym, ap, subst, ◌∙◌}
use mathlib.Core.Logic.{◌⊎◌, inl, inr, ◌↔◌}
use mathlib.Core.Bool.{Bool, true, false, not, ◌||◌}
use mathlib.Core.List.{List, [], ◌∷◌, ◌++◌, append-nil}
use Prim.Native.Nat.{ℕ, ◌≤◌, ◌<◌}
use lib.Dec.{ltb}
use lib.ListN.{length}
use borrow.Author.Tests.{lt-ltb, le-ltb, ltb-true, ltb-false}
use Rattle.std.specs.Prelude.{Option, Some, None, Err}
use Rattle.base.proofs.Bools.{not_both, and_right}
use Rattle.cluster.specs.declared.Cluster.{Cluster}
use Rattle.cluster.specs.Ranges.{Fits}
use Rattle.cluster.specs.Servers.{zero_cluster}
use Rattle.steps.specs.declared.Answer.{Answer}
use Rattle.steps.specs.declared.Answer.TheVariants as A
use Rattle.steps.specs.declared.Outcome.{Outcome}
use Rattle.steps.specs.declared.Refusal.TheVariants.{NotAFrame, IllFormed}
use Rattle.steps.specs.Answers.{refusing_all}
use Rattle.lines.specs.Texts.{together}
use Rattle.saved.specs.Editions.{editions}
use Rattle.saved.specs.Shape.{named_by}
use Rattle.saved.specs.Written.{longest}
use Rattle.saved.proofs.Frames.{saved_length}
use Rattle.saved.proofs.Allowed.{form_formed}
use Rattle.shapes.specs.declared.Shape.{Shape}
use Rattle.shapes.specs.Walk.{walked}
use Rattle.shapes.proofs.Next.{reads_all}
use Rattle.shapes.proofs.Told.{walked_append}
use Rattle.loads.specs.Loads.{loaded, edition_of, load_of}
use Rattle.loads.specs.Statements.{IsSaved}
use Rattle.loads.proofs.Loads.{loads_exactly, loads_or_refuses}
use Rattle.lines.specs.declared.Broke.TheVariants.{CannotWrite}
use Rattle.shell.specs.declared.saves.Walked.{Walked}
use Rattle.lines.specs.Turns.{End, is_input, DrainsBy}
use Rattle.shell.specs.Saving.{walked_on, WalksOn, is_whole, led_by, led_of, Loads}
use Rattle.lines.proofs.Turns.{as_one, ends_unwritten}

-- a piece that has a byte is walked
pub walks_piece : (w : Walked) (piece : List ℕ) (q : Shape) → (piece ≡ [] → ⊥) → q ≡ walked w.shape piece → record { shape = q; came = true } ≡ walked_on w piece
walks_piece w [] q some e = absurd (some refl)
walks_piece w (b ∷ bs) q some e = rw e

-- two pieces are walked like the text that they are
walks_append : (w : Walked) (x y : List ℕ) → walked_on w (x ++ y) ≡ walked_on (walked_on w x) y
walks_append w [] y = refl
walks_append w (b ∷ x) [] = ap (λ (l : List ℕ). walked_on w (b ∷ l)) (append-nil x)
walks_append w (b ∷ x) (d ∷ y) = ap (λ (q : Shape). record { shape = q; came = true }) (walked_append editions w.shape (b ∷ x) (d ∷ y))

pub walks_on : (s : Shape) (w : Walked) (e : End) → DrainsBy walked_on (record { shape = s; came = false }) w e → (e ≡ Err CannotWrite → false ≡ true) → WalksOn s (w, e)
walks_on s w e d h =
    record {
      pieces = d.pieces;
      shape = ap (λ (x : Walked). x.shape) all ∙ shape_after (together d.pieces);
      none = λ n. none_came (together d.pieces) (sym (ap (λ (x : Walked). x.came) all) ∙ n);
      last = d.last;
      end = ends_unwritten d.last d.wrote e d.end (λ u. not_both true refl (sym (h u)));
      patient = d.patient;
    }
  where
    begun : Walked
    begun = record { shape = s; came = false }

    all : w ≡ walked_on begun (together d.pieces)
    all = d.state ∙ as_one walked_on (λ x. refl) walks_append begun d.pieces

    shape_after : (text : List ℕ) → (walked_on begun text).shape ≡ walked s text
    shape_after [] = refl
    shape_after (b ∷ bs) = refl

    none_came : (text : List ℕ) → (walked_on begun text).came ≡ false → text ≡ []
    none_came [] k = refl
    none_came (b ∷ bs) k = not_both true refl k

-- ---- the record that a text leads to

-- a text that is longer than every saved form leads to none
pub long_led : (text : List ℕ) → longest < length text → None ≡ led_of text
unfolding led_of
long_led text h = rw (lt-ltb longest (length text) h) refl

-- any other does as loading it answers
led_as : (text : List ℕ) → length text ≤ longest → led_of text ≡ led_by (load_of zero_cluster text).cluster (load_of zero_cluster text).answer
unfolding led_of
led_as text h = rw (le-ltb longest (length text) h) refl

answered_led : (text : List ℕ) (c : Cluster) (o : Outcome) → length text ≤ longest → c ≡ zero_cluster → o ≡ load_of c text → led_of text ≡ led_by o.cluster o.answer
answered_led text c o h z e = led_as text h ∙ ap (λ (x : Outcome). led_by x.cluster x.answer) (sym (e ∙ ap (λ (k : Cluster). load_of k text) z))

pub loaded_led : (text : List ℕ) (c : Cluster) (o : Outcome) → length text ≤ longest → c ≡ zero_cluster → o ≡ load_of c text → o.answer ≡ A.Done → Some o.cluster ≡ led_of text
loaded_led text c o h z e d = sym (answered_led text c o h z e ∙ ap (led_by o.cluster) d)

-- every answer but one loads nothing
none_led : (c : Cluster) (a : Answer) → (a ≡ A.Done → ⊥) → led_by c a ≡ None
none_led c A.Done h = absurd (h refl)
none_led c (A.Elected term) h = refl
none_led c (A.Reached n) h = refl
none_led c (A.Entry n term time) h = refl
none_led c (A.Value value time) h = refl
none_led c (A.Refused r) h = refl

pub refused_led : (text : List ℕ) (c : Cluster) (o : Outcome) → length text ≤ longest → c ≡ zero_cluster → o ≡ load_of c text
    → (o.answer ≡ A.Done → ⊥) → None ≡ led_of text
refused_led text c o h z e n = sym (answered_led text c o h z e ∙ none_led o.cluster o.answer n)

-- the program takes exactly the texts that load, and their records
pub led_exactly : (d : Cluster) (text : List ℕ) → Fits d → (led_of text ≡ Some d) ↔ (load_of zero_cluster text ≡ loaded d)
led_exactly d text f = (to (ltb longest (length text)) refl (loads_or_refuses editions reads_all zero_cluster text), from)
  where
    untrue : None ≡ Some d → ⊥
    untrue e = cc

    some_is : {k : Cluster} → Some k ≡ Some d → k ≡ d
    some_is e = cc

    short : length text ≤ longest → (o : Outcome) → load_of zero_cluster text ≡ o → led_of text ≡ Some d → led_by o.cluster o.answer ≡ Some d
    short h o p e = ap (λ (x : Outcome). led_by x.cluster x.answer) (sym p) ∙ sym (led_as text h) ∙ e

    to : (long : Bool) → ltb longest (length text) ≡ long
        → (load_of zero_cluster text ≡ refusing_all zero_cluster NotAFrame) ⊎ (load_of zero_cluster text ≡ refusing_all zero_cluster IllFormed) ⊎ ((k : Cluster) × IsSaved (edition_of editions text) k text × (load_of zero_cluster text ≡ loaded k))
        → led_of text ≡ Some d → load_of zero_cluster text ≡ loaded d
    to true l way e = absurd (untrue (long_led text (ltb-true longest (length text) l) ∙ e))
    to false l (inl p) e = absurd (untrue (short (ltb-false longest (length text) l) _ p e))
    to false l (inr (inl p)) e = absurd (untrue (short (ltb-false longest (length text) l) _ p e))
    to false l (inr (inr (k, s, p))) e = p ∙ ap loaded (some_is (short (ltb-false longest (length text) l) _ p e))

    from : load_of zero_cluster text ≡ loaded d → led_of text ≡ Some d
    from e =
        let s = (loads_exactly editions reads_all zero_cluster d text f).0 e in
        let formed = form_formed (edition_of editions text) d s.1 in
        led_as text (subst (λ (t : List ℕ). length t ≤ longest) s.2 (saved_length d f formed (named_by text)))
        ∙ ap (λ (x : Outcome). led_by x.cluster x.answer) e

-- all that was read is the text that is taken: what came after it was nothing, or made it too long
-- what a whole text goes on with comes after more than a saved form has
pub whole_long : (w : Walked) (e : End) (n : ℕ) (b : Bool) → b ≡ is_whole w e n → b ≡ true → w.came ≡ true → longest < n
unfolding is_whole
whole_long w e n b p h k = ltb-true longest n (rw k at (and_right (is_input e) (not w.came || ltb longest n) (sym p ∙ h)))

pub loads_kept : (q : Shape) (w : Walked) (e : End) (text : List ℕ) (r : Option Cluster) → WalksOn q (w, e) → (w.came ≡ true → longest < length text) → r ≡ led_of text → Loads r
loads_kept q w e text r g long p = go w.came refl
  where
    go : (came : Bool) → w.came ≡ came → Loads r
    go false k = record { text = text; pieces = g.pieces; record_led = λ c y. sym y ∙ p ∙ ap led_of (sym (append-nil text) ∙ sym (ap (λ (l : List ℕ). text ++ l) (g.none k))) }
    go true k = let none : r ≡ None = p ∙ sym (long_led text (long k)) in record { text = text; pieces = g.pieces; record_led = λ c y. cc }

-- where something went wrong nothing is claimed to be led to
pub loads_none : Loads None
loads_none = record { text = []; pieces = []; record_led = λ c y. cc }
