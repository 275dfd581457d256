-- What both texts come to: the run of all that was read of the one, the list of all of the other, and what is passed over of each. Assumes
-- nothing.
use mathlib.Core.Path.{◌≡◌, refl, sym, ap, ◌∙◌}
use mathlib.Core.Bool.{true, false}
use mathlib.Core.List.{List, ◌++◌}
use Prim.Native.Nat.{ℕ}
use Rattle.std.specs.Prelude.{Result, Err}
use Rattle.base.proofs.Bools.{not_both}
use Rattle.lines.specs.declared.Broke.TheVariants.{CannotWrite}
use Rattle.lines.specs.declared.walks.Walk.{Walk}
use Rattle.lines.specs.Texts.{together}
use Rattle.lines.specs.Turns.{End, last_end, DrainsBy}
use Rattle.lines.proofs.Turns.{as_one, ends_unwritten}
use Rattle.lines.proofs.Walked.{walked_append}
use Rattle.followed.specs.declared.Run.{Run}
use Rattle.followed.specs.Follow.{run_after_line}
use Rattle.followed.proofs.Followed.{followed_text}
use Rattle.phones.specs.declared.Listed.{Listed}
use Rattle.phones.specs.Listed.{list_after_line}
use Rattle.phones.proofs.Texts.{listed_text}
use Rattle.checks.specs.declared.texts.Text.{Text}
use Rattle.checks.specs.declared.texts.Both.{Both}
use Rattle.checks.specs.declared.texts.Unread.{Unread}
use Rattle.checks.specs.Passing.{new_passing}
use Rattle.checks.specs.declared.passed.Passing.{Passing}
use Rattle.checks.specs.Reading.{new_steps, new_records, text_taken, finished, come_to_by, both_of, ReadsBoth}
use Rattle.checks.proofs.PassedOver.{passed_append, passed_text}

module _ {A : Type 0} (f : A → List ℕ → A) where
  taken_append : (t : Text A) (x y : List ℕ) → text_taken f t (x ++ y) ≡ text_taken f (text_taken f t x) y
  taken_append t x y = cc (walked_append f t.walk x y, passed_append t.passing x y)

  module _ {a t u : Text A} {e : End} (n : a ≡ u) (d : DrainsBy (text_taken f) a t e) where
    -- all that was read is as one piece
    taken_all : t ≡ text_taken f u (together d.pieces)
    taken_all = d.state ∙ as_one (text_taken f) (λ x. refl) taken_append a d.pieces ∙ ap (λ (x : Text A). text_taken f x (together d.pieces)) n

    -- what writes nothing ends by its last read alone
    ended : (e ≡ Err CannotWrite → false ≡ true) → e ≡ last_end d.last true
    ended wrote = ends_unwritten d.last d.wrote e d.end (λ z. not_both true refl (sym (wrote z)))

-- as a text begins
pub begun : {A : Type 0} {w v : Walk A} {p : Passing} → w ≡ v → p ≡ new_passing
    → ◌≡◌ {A = Text A} (record { walk = w; passing = p }) (record { walk = v; passing = new_passing })
begun e g = rw (e, g)

-- what both come to, by how they ended
pub reads_both : {a s : Text Run} {e : End} {b r : Text Listed} {f : End} → a ≡ new_steps → b ≡ new_records
    → DrainsBy (text_taken run_after_line) a s e → DrainsBy (text_taken list_after_line) b r f
    → (e ≡ Err CannotWrite → false ≡ true) → (f ≡ Err CannotWrite → false ≡ true)
    → (x : Result Both Unread) → x ≡ come_to_by s r e f → ReadsBoth x
reads_both {a} {s} {e} {b} {r} {f} n m d g wrote written x p =
    let steps = together d.pieces in
    let records = together g.pieces in
    let comes : finished s r ≡ both_of steps records =
    rw (taken_all run_after_line n d, taken_all list_after_line m g)
    (cc (followed_text steps, passed_text steps, listed_text records, passed_text records)) in
    record {
      steps = d.pieces;
      last_steps = d.last;
      records = g.pieces;
      last_records = g.last;
      comes_to = p ∙ rw (ended run_after_line n d wrote, ended list_after_line m g written, comes) refl;
    }
