-- The frame of an answer, and what an answer frame tells. Assumes nothing.
use Rattle.std.specs.Prelude.{cond, ◌&&◌, List, [], ◌∷◌, ℕ, eqb, Option, Some, None, Ok, Err}
use Rattle.clock.specs.declared.Time.{Time}
use Rattle.clock.specs.Times.{zero_time, same_time}
use Rattle.steps.specs.declared.Refusal.{Refusal}
use Rattle.steps.specs.declared.Refusal.TheVariants.{NotAFrame, IllFormed, OutOfRange, WrongRole, ConditionUnmet, LogFull, AtLimit, NotYet, BelowCommitPoint, NoSuchEntry, ClockAhead, Retired}
use Rattle.steps.specs.declared.Answer.{Answer}
use Rattle.steps.specs.Refusals.{refusal_number}
use Rattle.steps.specs.Answers.{telling_of, Telling, numbers}
use Rattle.hex_text.specs.Lines.{hex_of}
use Rattle.words.specs.Words.{high_of, low_of, byte_at, word_at, framed}

abbrev pub answer_bytes : ℕ
answer_bytes = 9

-- the first byte of what is done
abbrev pub done : ℕ
done = 0

-- refusal (0 = done), number, term, p, l
unfoldable pub answer_frame : ℕ → ℕ → ℕ → Time → List ℕ
answer_frame refusal number term time =
    refusal ∷ high_of number ∷ low_of number ∷ high_of term ∷ low_of term
    ∷ high_of time.p ∷ low_of time.p ∷ high_of time.l ∷ low_of time.l ∷ []

abbrev pub refusal_byte : Telling → ℕ
refusal_byte (Ok n) = done
refusal_byte (Err r) = refusal_number r

-- the numbers or one refusal, never both
abbrev pub bytes_of_telling : Telling → List ℕ
bytes_of_telling (Ok n) = answer_frame done n.number n.term n.time
bytes_of_telling (Err r) = answer_frame (refusal_number r) 0 0 zero_time

abbrev pub write_telling : Telling → List ℕ
write_telling t = hex_of (bytes_of_telling t)

abbrev pub write_answer : Answer → List ℕ
write_answer a = write_telling (telling_of a)

-- every refusal
abbrev pub refusals : List Refusal
refusals =
    NotAFrame ∷ IllFormed ∷ OutOfRange ∷ WrongRole ∷ ConditionUnmet ∷ LogFull ∷ AtLimit ∷ NotYet ∷ BelowCommitPoint ∷ NoSuchEntry
    ∷ ClockAhead ∷ Retired ∷ []

-- the refusal among these that has the number n
abbrev pub numbered : ℕ → List Refusal → Option Telling
numbered n [] = None
numbered n (r ∷ rs) = cond (eqb n (refusal_number r)) (Some (Err r)) (numbered n rs)

unfoldable pub refusal_of : ℕ → Option Telling
refusal_of n = numbered n refusals

-- 0 and the numbers, or a refusal followed by zeros
unfoldable pub telling_by : ℕ → ℕ → ℕ → Time → Option Telling
telling_by refusal number term time =
    cond (eqb refusal done) (Some (numbers number term time))
    (cond (eqb number 0 && (eqb term 0 && same_time time zero_time)) (refusal_of refusal) None)

-- the bytes, in the same order
unfoldable pub telling_in : List ℕ → Option Telling
telling_in bs = telling_by (byte_at bs 0) (word_at bs 1) (word_at bs 3) (record { p = word_at bs 5; l = word_at bs 7 })

-- any line: what isn't a frame of an answer is no frame
abbrev pub read_answer : List ℕ → Option Telling
read_answer line = framed answer_bytes telling_in None line
