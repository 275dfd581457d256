-- The end of a text: nothing is left, there is no room for the answer, or the rest is answered as a line. Assumes nothing.
use mathlib.Core.Path.{◌≡◌, refl, ap, ◌∙◌}
use mathlib.Core.Bool.{Bool, true, false, cond}
use mathlib.Core.List.{List}
use Prim.Native.Nat.{ℕ, ◌<◌, ◌≤◌}
use borrow.Author.Tests.{lt-ltb, le-ltb}
use lib.Dec.{ltb}
use lib.ListN.{length}
use Rattle.steps.specs.declared.Outcome.{Outcome}
use Rattle.replay.specs.declared.Session.{Session}
use Rattle.replay.specs.declared.Finished.{Finished}
use Rattle.replay.specs.Texts.{answer_to, line_of}
use Rattle.lines.specs.Texts.{placed}
use Rattle.lines.specs.Readers.{is_empty, line_held}
use Rattle.lines.specs.Folds.{at_end}
use Rattle.replay.specs.Pieces.{answer_line, begun, ending, finish_of, finish_out}

-- the result and the buffer, together
abbrev Ends : Session → Finished → List ℕ → List ℕ → Type 0
Ends s f out out' = (f ≡ finish_of s (length out)) × (out' ≡ finish_out s out)

alike : (t : Bool) (x : List ℕ) → x ≡ cond t x x
alike true x = refl
alike false x = refl

pub ends_nothing : (s d : Session) (out : List ℕ) → d ≡ begun s.cluster → is_empty s.reader ≡ true
    → Ends s (record { session = d; wrote = 0; ended = true }) out out
unfolding finish_of finish_out ending
ends_nothing s d out p e = (rw e (λ i. record { session = p i; wrote = 0; ended = true }), rw e (alike (ltb (length out) answer_line) out))

pub ends_tight : (s : Session) (out : List ℕ) → is_empty s.reader ≡ false → length out < answer_line
    → Ends s (record { session = s; wrote = 0; ended = false }) out out
unfolding finish_of finish_out
ends_tight s out e h = (rw (e, lt-ltb (length out) answer_line h), rw (lt-ltb (length out) answer_line h))

pub ends_answered : (s d : Session) (out out' : List ℕ) (o : Outcome) → is_empty s.reader ≡ false → answer_line ≤ length out
    → o ≡ answer_to s.cluster (line_held s.reader) → d ≡ begun o.cluster → out' ≡ placed out 0 (line_of o.answer)
    → Ends s (record { session = d; wrote = answer_line; ended = true }) out out'
unfolding finish_of finish_out ending at_end
ends_answered s d out out' o e h p q r = (
  rw (e, le-ltb (length out) answer_line h) (λ i. record { session = (q ∙ ap (λ (x : Outcome). begun x.cluster) p) i; wrote = answer_line; ended = true }),
  rw (le-ltb (length out) answer_line h, e) (r ∙ ap (λ (x : Outcome). placed out 0 (line_of x.answer)) p),
)
