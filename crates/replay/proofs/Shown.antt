-- Nothing of a reader shows but the line that it stands for: two readers that stand for the same characters, whatever else is in them, lead to the
-- same answers and the same record. Assumes nothing.
use mathlib.Core.Path.{◌≡◌, sym, ap, ◌∙◌}
use mathlib.Core.Bool.{Bool, true, false, cond}
use mathlib.Core.List.{List, [], ◌∷◌, ◌++◌}
use Prim.Native.Nat.{ℕ}
use lib.Dec.{eqb}
use lib.ListN.{length}
use Rattle.cluster.specs.declared.Cluster.{Cluster}
use Rattle.steps.specs.declared.Outcome.{Outcome}
use Rattle.lines.specs.Texts.{line_feed}
use Rattle.lines.specs.Readers.{Reader, width, fresh_reader, line_held, is_empty, push_of, reader_after}
use Rattle.lines.specs.Folds.{byte_after, at_end}
use Rattle.lines.proofs.Held.{held_empty, held_some}
use Rattle.lines.proofs.Readers.{StandsFor, push_holds, stands_held}
use Rattle.replay.specs.declared.Session.{Session}
use Rattle.replay.specs.Texts.{answer_to, line_of}
use Rattle.replay.specs.Pieces.{begun, after, said, runs, says, ending, ended}
use Rattle.replay.proofs.Whole.{held_answer}

-- all that is said of a text, with its end
abbrev pub all_said : Session → List ℕ → List ℕ
all_said s text = says s text ++ ending (runs s text)

abbrev session : Cluster → Reader → Session
session c r = record { cluster = c; reader = r }

same_empty : (r q : Reader) (p : List ℕ) → StandsFor r p → StandsFor q p → is_empty r ≡ is_empty q
same_empty r q [] h k = held_empty h ∙ sym (held_empty k)
same_empty r q (b ∷ p) h k = held_some h ∙ sym (held_some k)

same_answer : (c : Cluster) (r q : Reader) (p : List ℕ) → StandsFor r p → StandsFor q p → answer_to c (line_held r) ≡ answer_to c (line_held q)
same_answer c r q p h k = held_answer c r h ∙ sym (held_answer c q k)

-- after one byte
abbrev next : Cluster → Reader → ℕ → Bool → Session
next c r b x = record { cluster = cond x (answer_to c (line_held r)).cluster c; reader = cond x fresh_reader (push_of r b) }

said_alike : (text : List ℕ) (c : Cluster) (r q : Reader) (p : List ℕ) → StandsFor r p → StandsFor q p → all_said (session c r) text ≡ all_said (session c q) text
unfolding ending after said byte_after reader_after
said_alike [] c r q p h k =
    ap (λ (x : Bool). cond x [] (line_of (answer_to c (line_held r)).answer)) (same_empty r q p h k)
    ∙ ap (λ (o : Outcome). cond (is_empty q) [] (line_of o.answer)) (same_answer c r q p h k)
said_alike (b ∷ text) c r q p h k = go (eqb b line_feed) (said_alike text c (push_of r b) (push_of q b) (p ++ (b ∷ [])) (push_holds r b h) (push_holds q b k))
  where
    tells : Reader → Bool → List ℕ
    tells r x = cond x (line_of (answer_to c (line_held r)).answer) [] ++ says (next c r b x) text ++ ending (runs (next c r b x) text)

    go : (x : Bool) → all_said (session c (push_of r b)) text ≡ all_said (session c (push_of q b)) text → tells r x ≡ tells q x
    go true rest = ap (λ (o : Outcome). line_of o.answer ++ says (begun o.cluster) text ++ ending (runs (begun o.cluster) text)) (same_answer c r q p h k)
    go false rest = rest

left_alike : (text : List ℕ) (c : Cluster) (r q : Reader) (p : List ℕ) → StandsFor r p → StandsFor q p → ended (runs (session c r) text) ≡ ended (runs (session c q) text)
unfolding at_end after byte_after reader_after
left_alike [] c r q p h k =
    ap (λ (x : Bool). cond x c (answer_to c (line_held r)).cluster) (same_empty r q p h k)
    ∙ ap (λ (o : Outcome). cond (is_empty q) c o.cluster) (same_answer c r q p h k)
left_alike (b ∷ text) c r q p h k = go (eqb b line_feed) (left_alike text c (push_of r b) (push_of q b) (p ++ (b ∷ [])) (push_holds r b h) (push_holds q b k))
  where
    go : (x : Bool) → ended (runs (session c (push_of r b)) text) ≡ ended (runs (session c (push_of q b)) text) → ended (runs (next c r b x) text) ≡ ended (runs (next c q b x) text)
    go true rest = ap (λ (o : Outcome). ended (runs (begun o.cluster) text)) (same_answer c r q p h k)
    go false rest = rest

-- THE LAW, of any two readers that hold the same line
module _ (c : Cluster) (r q : Reader) (text : List ℕ) (m : length r.held ≡ width) (n : length q.held ≡ width) (same : line_held r ≡ line_held q) where
  stands : StandsFor q (line_held r)
  stands = rw same (stands_held q n)

  pub only_line_said : all_said (session c r) text ≡ all_said (session c q) text
  only_line_said = said_alike text c r q (line_held r) (stands_held r m) stands

  pub only_line_left : ended (runs (session c r) text) ≡ ended (runs (session c q) text)
  only_line_left = left_alike text c r q (line_held r) (stands_held r m) stands
