-- No line that is written for a text reads as refusal 9, and before the first start every line is refused. Assumes nothing.
use mathlib.Core.Path.{◌≡◌, refl, ap, sym, ◌∙◌, subst}
use mathlib.Core.Logic.{◌≢◌}
use mathlib.Core.Bool.{Bool, true, false, cond}
use mathlib.Core.List.{List, [], ◌∷◌, ◌++◌, map, append_assoc}
use Prim.Native.Nat.{ℕ, zero, suc, ◌+◌, ◌-◌, ◌/◌, ◌%◌}
use native.Mathlib.Omega.{arith}
use borrow.Author.Tests.{ne_eqb}
use lib.Dec.{eqb, ltb}
use lib.ListN.{get_or}
use Rattle.clock.specs.declared.Time.{Time}
use Rattle.cluster.specs.declared.Cluster.{Cluster}
use Rattle.steps.specs.declared.Answer.{Answer}
use Rattle.steps.specs.declared.Answer.TheVariants.{Done, Elected, Reached, Entry, Value, Refused}
use Rattle.steps.specs.declared.Outcome.{Outcome}
use Rattle.steps.specs.declared.Refusal.{Refusal}
use Rattle.steps.specs.declared.Refusal.TheVariants.{BelowCommitPoint}
use Rattle.steps.specs.Answers.{telling_of, numbers}
use Rattle.hex_text.specs.Digits.{radix, ten, char0, char_a, char_of}
use Rattle.hex_text.specs.Lines.{hex_of}
use Rattle.std.proofs.Common.{Some, Err}
use Rattle.words.specs.Words.{framed}
use Rattle.answers.specs.Answers.{answer_frame, bytes_of_telling, write_telling, write_answer, read_answer}
use Rattle.answers.proofs.Answers.{read_written_telling, written_read_telling}
use Rattle.lines.specs.Texts.{line_feed, lines}
use Rattle.replay.specs.Texts.{answer_to, line_of, answers_to, record_after}
use Rattle.promises.specs.Texts.{a_line, NoneBegins}
use Rattle.promises.specs.Written.{Never9Written, RefusedBeforeAStart}
use Rattle.promises.proofs.Never9.{Came, came_line, line_9, refused_line}

-- ---- one answer

-- the first byte is 0 where something was done, and 9 for refusal 9
written_numbers : (number term : ℕ) (time : Time) → write_telling (Err BelowCommitPoint) ≢ write_telling (numbers number term time)
unfolding answer_frame char_of
written_numbers number term time e = let z : ◌≡◌ {A = ℕ} 57 48 = ap (λ (l : List ℕ). get_or l 1 0) e in omega arith

written_refusal : (r : Refusal) → write_telling (Err BelowCommitPoint) ≡ write_telling (Err r) → r ≡ BelowCommitPoint
written_refusal r e =
    let q : Some (Err BelowCommitPoint) ≡ Some (Err r) = sym (read_written_telling (Err BelowCommitPoint) tt) ∙ ap read_answer e ∙ read_written_telling (Err r) tt in cc

written_9 : (a : Answer) → write_telling (Err BelowCommitPoint) ≡ write_answer a → a ≡ Refused BelowCommitPoint
written_9 Done e = absurd (written_numbers _ _ _ e)
written_9 (Elected term) e = absurd (written_numbers _ _ _ e)
written_9 (Reached n) e = absurd (written_numbers _ _ _ e)
written_9 (Entry n term time) e = absurd (written_numbers _ _ _ e)
written_9 (Value value time) e = absurd (written_numbers _ _ _ e)
written_9 (Refused r) e = ap Refused (written_refusal r e)

-- ---- the lines that are written

-- a digit's character is no line feed
no_feed : (n : ℕ) → eqb (char_of n) line_feed ≡ false
unfolding char_of
no_feed n = go (ltb (n % radix) ten)
  where
    go : (b : Bool) → eqb (cond b (char0 + n % radix) (char_a + (n % radix - ten))) line_feed ≡ false
    go true = ne_eqb (char0 + n % radix) line_feed (λ e. omega arith)
    go false = ne_eqb (char_a + (n % radix - ten)) line_feed (λ e. omega arith)

-- hexadecimal that a line feed ends is a line
pub hex_line : (bs rest : List ℕ) → lines (hex_of bs ++ (line_feed ∷ rest)) ≡ hex_of bs ∷ lines rest
hex_line [] rest = refl
hex_line (b ∷ bs) rest = rw (no_feed (b / radix), no_feed (b % radix), hex_line bs rest)

answer_line_lem : (a : Answer) (rest : List ℕ) → lines (line_of a ++ rest) ≡ write_answer a ∷ lines rest
unfolding line_of
answer_line_lem a rest = ap lines (append_assoc (write_answer a) (line_feed ∷ []) rest) ∙ hex_line (bytes_of_telling (telling_of a)) rest

no_line : read_answer [] ≢ Some (Err BelowCommitPoint)
unfolding framed
no_line e = let z : ◌≡◌ {A = ℕ} 0 1 = cc in omega arith

lines_written : (c : Cluster) → Came c → (ls : List (List ℕ)) (i : ℕ) → read_answer (get_or (lines (answers_to c ls)) i []) ≢ Some (Err BelowCommitPoint)
lines_written c m [] i = no_line
lines_written c m (l ∷ ls) zero =
    rw (answer_line_lem (answer_to c l).answer (answers_to (answer_to c l).cluster ls)) (λ e. line_9 c l m (written_9 _ (written_read_telling _ (Err BelowCommitPoint) e)))
lines_written c m (l ∷ ls) (suc i) =
    rw (answer_line_lem (answer_to c l).answer (answers_to (answer_to c l).cluster ls)) (lines_written (answer_to c l).cluster (came_line c l m) ls i)

pub never_9_written : Never9Written
never_9_written c m text = lines_written c m (lines text)

-- ---- before the first start

-- lines that are refused change nothing, so each is given to the zero record
pub refused_before_a_start : RefusedBeforeAStart
refused_before_a_start [] l h = let q = refused_line l h.0 in (q.0, ap (λ (o : Outcome). o.answer) q.1)
refused_before_a_start (k ∷ ls) l h =
    let same = ap (λ (o : Outcome). o.cluster) (refused_line k h.0).1 in
    let q = refused_before_a_start ls l (subst (λ (x : Cluster). NoneBegins x (map a_line (ls ++ (l ∷ [])))) same h.1) in
    (q.0, ap (λ (x : Cluster). (answer_to (record_after x ls) l).answer) same ∙ q.1)
