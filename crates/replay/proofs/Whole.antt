-- Whatever pieces a text arrives in, what is said is the answers to the text, and the record is the one that it leaves. Assumes nothing.
use mathlib.Core.Path.{◌≡◌, refl, sym, ap, ◌∙◌}
use mathlib.Core.Bool.{Bool, true, false, cond}
use mathlib.Core.List.{List, [], ◌∷◌, ◌++◌, append_assoc, append-nil}
use Prim.Native.Nat.{ℕ, ◌+◌, ◌≤◌}
use native.Mathlib.Omega.{arith}
use borrow.Author.Tests.{eqb-true}
use lib.Dec.{eqb}
use lib.ListN.{length, length-append}
use Rattle.steps.specs.declared.Answer.{Answer}
use Rattle.steps.specs.declared.Outcome.{Outcome}
use Rattle.steps.specs.Answers.{telling_of}
use Rattle.answers.specs.Answers.{write_answer}
use Rattle.lines.proofs.Held.{held_empty, held_some, held_framed}
use Rattle.std.proofs.Common.{None}
use Rattle.frames.specs.Layout.{step_bytes}
use Rattle.frames.specs.Steps.{step_in}
use Rattle.answers.proofs.Lengths.{answer_line_length}
use Rattle.cluster.specs.declared.Cluster.{Cluster}
use Rattle.replay.specs.declared.Session.{Session}
use Rattle.lines.specs.Texts.{line_feed, lines, together}
use Rattle.replay.specs.Texts.{respond, answer_to, line_of, answers_to, record_after, answers, leaves}
use Rattle.lines.specs.Readers.{Reader, width, fresh_reader, line_held, push_of, reader_after, reader_over}
use Rattle.lines.specs.Folds.{over_lines, byte_after, over_bytes}
use Rattle.replay.specs.Pieces.{answer_line, begun, line_after, after, said, runs, says, ending, ended, runs_all, says_all}
use Rattle.lines.proofs.Lines.{Plain, none, more, plain_snoc, line_first, line_last}
use Rattle.lines.proofs.Readers.{StandsFor, fresh_holds, push_holds}
use Rattle.lines.proofs.Folded.{folded}

pub held_answer : (s : Cluster) (r : Reader) {p : List ℕ} → StandsFor r p → answer_to s (line_held r) ≡ answer_to s p
unfolding answer_to line_held
held_answer s r h = ap (respond s) (held_framed step_bytes step_in None width (omega arith) r.held r.fill r.over h)

-- from any point of a line
abbrev Right : List ℕ → Type 0
Right text =
    (s : Cluster) (r : Reader) (p : List ℕ) → Plain p → StandsFor r p
    → says (record { cluster = s; reader = r }) text ++ ending (runs (record { cluster = s; reader = r }) text) ≡ answers_to s (lines (p ++ text))

from : (text : List ℕ) → Right text
unfolding ending after said byte_after reader_after
from [] s r [] q h = simp (held_empty h)
from [] s r (b ∷ p) (more e q) h =
    simp (held_some h)
    (ap (λ (x : Outcome). line_of x.answer) (held_answer s r h) ∙ sym (append-nil (line_of (answer_to s (b ∷ p)).answer))
    ∙ sym (ap (answers_to s) (ap (λ (l : List ℕ). lines (b ∷ l)) (append-nil p) ∙ line_last b p e q)))
from (b ∷ text) s r p q h = go (from text) (eqb b line_feed) refl
  where
    a : Outcome
    a = answer_to s (line_held r)

    next : Bool → Session
    next x = record { cluster = cond x a.cluster s; reader = cond x fresh_reader (push_of r b) }

    go : Right text → (x : Bool) → eqb b line_feed ≡ x → cond x (line_of a.answer) [] ++ says (next x) text ++ ending (runs (next x) text) ≡ answers_to s (lines (p ++ (b ∷ text)))
    go right true e =
        append_assoc (line_of a.answer) (says (begun a.cluster) text) (ending (runs (begun a.cluster) text))
        ∙ ap (λ (l : List ℕ). line_of a.answer ++ l) (right a.cluster fresh_reader [] none fresh_holds)
        ∙ ap (λ (x : Outcome). line_of x.answer ++ answers_to x.cluster (lines text)) (held_answer s r h)
        ∙ sym (ap (answers_to s) (ap (λ (k : ℕ). lines (p ++ (k ∷ text))) (eqb-true b line_feed e) ∙ line_first text q))
    go right false e =
        right s (push_of r b) (p ++ (b ∷ [])) (plain_snoc b q e) (push_holds r b h)
        ∙ ap (λ (l : List ℕ). answers_to s (lines l)) (append_assoc p (b ∷ []) text)

-- THE THEOREM: byte by byte, what is said, with the end, is the answers to the text
pub whole : (s : Cluster) (text : List ℕ) → says (begun s) text ++ ending (runs (begun s) text) ≡ answers s text
whole s text = from text s fresh_reader [] none fresh_holds

-- pieces, one after the other
pub runs_append : (s : Session) (x y : List ℕ) → runs s (x ++ y) ≡ runs (runs s x) y
runs_append s [] y = refl
runs_append s (b ∷ x) y = runs_append (after s b) x y

pub says_append : (s : Session) (x y : List ℕ) → says s (x ++ y) ≡ says s x ++ says (runs s x) y
says_append s [] y = refl
says_append s (b ∷ x) y =
    ap (λ (l : List ℕ). said s b ++ l) (says_append (after s b) x y) ∙ sym (append_assoc (said s b) (says (after s b) x) (says (runs (after s b) x) y))

-- pieces, all in turn
runs_all_lem : (s : Session) (xs : List (List ℕ)) → runs_all s xs ≡ runs s (together xs)
runs_all_lem s [] = refl
runs_all_lem s (x ∷ xs) = runs_all_lem (runs s x) xs ∙ sym (runs_append s x (together xs))

says_all_lem : (s : Session) (xs : List (List ℕ)) → says_all s xs ≡ says s (together xs)
says_all_lem s [] = refl
says_all_lem s (x ∷ xs) = ap (λ (l : List ℕ). says s x ++ l) (says_all_lem (runs s x) xs) ∙ sym (says_append s x (together xs))

-- THE THEOREM, for any pieces
pub any_pieces : (s : Cluster) (xs : List (List ℕ)) → says_all (begun s) xs ++ ending (runs_all (begun s) xs) ≡ answers s (together xs)
any_pieces s xs =
    ap (λ (l : List ℕ). l ++ ending (runs_all (begun s) xs)) (says_all_lem (begun s) xs)
    ∙ ap (λ (d : Session). says (begun s) (together xs) ++ ending d) (runs_all_lem (begun s) xs) ∙ whole s (together xs)

pub line_long : (a : Answer) → length (line_of a) ≡ answer_line
unfolding line_of
line_long a = length-append (write_answer a) (line_feed ∷ []) ∙ ap (λ (k : ℕ). k + 1) (answer_line_length (telling_of a))

pub said_short : (s : Session) (b : ℕ) → length (said s b) ≤ answer_line
unfolding said
said_short s b = go (eqb b line_feed)
  where
    go : (x : Bool) → length (cond x (line_of (answer_to s.cluster (line_held s.reader)).answer) []) ≤ answer_line
    go true = omega (arith, line_long (answer_to s.cluster (line_held s.reader)).answer)
    go false = omega arith

-- ---- the record

-- the session goes along the bytes as the record and the reader do
runs_is : (s : Session) (text : List ℕ) → runs s text ≡ record { cluster = over_bytes line_after s.cluster s.reader text; reader = reader_over s.reader text }
unfolding after
runs_is s [] = refl
runs_is s (b ∷ text) = runs_is (after s b) text

record_is : (s : Cluster) (ls : List (List ℕ)) → over_lines line_after s ls ≡ record_after s ls
record_is s [] = refl
record_is s (l ∷ ls) = record_is (line_after s l) ls

-- byte by byte, the record with the end is the one that the text leaves
pub whole_record : (s : Cluster) (text : List ℕ) → ended (runs (begun s) text) ≡ leaves s text
whole_record s text =
    ap ended (runs_is (begun s) text) ∙ folded line_after (λ c r p h. ap (λ (x : Outcome). x.cluster) (held_answer c r h)) s text ∙ record_is s (lines text)

-- for any pieces
pub any_pieces_record : (s : Cluster) (xs : List (List ℕ)) → ended (runs_all (begun s) xs) ≡ leaves s (together xs)
any_pieces_record s xs = ap ended (runs_all_lem (begun s) xs) ∙ whole_record s (together xs)
