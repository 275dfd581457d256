-- However a text is cut, a walk over it comes to what is done with each of its lines. Assumes nothing.
use mathlib.Core.Path.{◌≡◌}
use mathlib.Core.List.{List, ◌++◌}
use Prim.Native.Nat.{ℕ}
use Rattle.lines.specs.Texts.{lines}
use Rattle.lines.specs.Folds.{over_lines}
use Rattle.lines.specs.declared.walks.Walk.{Walk}
use Rattle.lines.specs.Walks.{walk_from, walked, walked_out}
use Rattle.lines.proofs.Folded.{Alike, reader_append, bytes_append, folded}

module _ {A : Type 0} (f : A → List ℕ → A) where
  -- THE THEOREM: at the end, a text that was walked over is what its lines do
  pub walked_text : Alike f → (a : A) (text : List ℕ) → walked_out f (walked f (walk_from a) text) ≡ over_lines f a (lines text)
  walked_text same a text = folded f same a text

  -- two pieces are walked over like the text that they are
  pub walked_append : (w : Walk A) (x y : List ℕ) → walked f w (x ++ y) ≡ walked f (walked f w x) y
  walked_append w x y = cc (bytes_append f w.state w.reader x y, reader_append w.reader x y)
