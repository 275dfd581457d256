-- What the definitions of words, frames and answers give where a wrong program differs. Assumes nothing.
use mathlib.Core.Path.{◌≡◌, refl}
use mathlib.Core.List.{[], ◌∷◌, ◌++◌}
use lib.ListN.{take, drop, replicate}
use Rattle.base.specs.Numbers.{every}
use Rattle.clock.specs.Times.{same_time}
use Rattle.steps.specs.declared.Answer.TheVariants as A
use Rattle.steps.specs.declared.Refusal.TheVariants.{NoSuchEntry}
use Rattle.steps.specs.declared.Step.TheVariants.{Writes, MajorityRead, ClocksAgree}
use Rattle.hex_text.specs.Digits.{digit_of, char_of, byte_of}
use Rattle.hex_text.specs.Lines.{all_hex}
use Rattle.std.proofs.Common.{None}
use Rattle.words.specs.Words.{high_of, low_of, word_of, framed}
use Rattle.frames.specs.Layout.{bytes_of_frame, frame_of}
use Rattle.frames.specs.Kinds.{step_of_frame, is_clean}
use Rattle.frames.specs.Steps.{step_in, read_step, write_step}
use Rattle.answers.specs.Answers.{answer_frame, write_answer, refusal_of, telling_by, telling_in, read_answer}
use Rattle.apart.proofs.Things.{at}

pub low_byte_first : word_of 1 0 ≡ 256
unfolding word_of
low_byte_first = refl

pub high_and_low_swapped : (high_of 256 ≡ 1) × (low_of 256 ≡ 0)
unfolding high_of low_of
high_and_low_swapped = (refl, refl)

pub byte_of_255_values : (high_of 255 ≡ 0) × (low_of 255 ≡ 255) × (word_of 1 0 ≡ 256)
unfolding high_of low_of word_of
byte_of_255_values = (refl, refl, refl)

-- the characters 0, 1, 3, a, b, c and f are 48, 49, 51, 97, 98, 99 and 102; the key stands at the characters 8 and 9, the number at 10 to 13

-- a whole frame and one more character
pub long_line_is_taken : read_step (write_step ClocksAgree ++ (48 ∷ [])) ≡ None
unfolding char_of high_of low_of bytes_of_frame framed
long_line_is_taken = refl

-- 11 and then 0
pub kind_17_is_taken : read_step (49 ∷ 49 ∷ replicate 24 48) ≡ None
unfolding every digit_of byte_of all_hex high_of low_of word_of framed bytes_of_frame frame_of step_of_frame is_clean step_in
kind_17_is_taken = refl

-- kind 0c, key 01
pub mask_off_by_a_byte : read_step (48 ∷ 99 ∷ (replicate 7 48 ++ (49 ∷ replicate 16 48))) ≡ None
unfolding every digit_of byte_of all_hex high_of low_of framed bytes_of_frame step_of_frame is_clean step_in
mask_off_by_a_byte = refl

-- kind 0f, set 01
pub kind_15_uses_a_set : read_step (48 ∷ 102 ∷ (replicate 5 48 ++ (49 ∷ replicate 18 48))) ≡ None
unfolding every digit_of byte_of all_hex high_of low_of framed bytes_of_frame step_of_frame is_clean step_in
kind_15_uses_a_set = refl

pub step_with_a_byte_of_the_term : take 4 (drop 10 (write_step (Writes 0 5 256 (at 0 0)))) ≡ 48 ∷ 49 ∷ 48 ∷ 48 ∷ []
unfolding char_of high_of low_of bytes_of_frame
step_with_a_byte_of_the_term = refl

pub step_in_upper_case : take 2 (write_step (MajorityRead 0 5 (at 0 0))) ≡ 48 ∷ 98 ∷ []
unfolding char_of high_of low_of bytes_of_frame
step_in_upper_case = refl

pub answer_in_decimal : take 2 (write_answer (A.Refused NoSuchEntry)) ≡ 48 ∷ 97 ∷ []
unfolding char_of high_of low_of answer_frame
answer_in_decimal = refl

-- 00 0001 0001 0001 0000
pub answer_drops_the_term :
    write_answer (A.Entry 1 1 (at 1 0))
    ≡ 48 ∷ 48 ∷ 48 ∷ 48 ∷ 48 ∷ 49 ∷ 48 ∷ 48 ∷ 48 ∷ 49 ∷ 48 ∷ 48 ∷ 48 ∷ 49 ∷ 48 ∷ 48 ∷ 48 ∷ 48 ∷ []
unfolding char_of high_of low_of answer_frame
answer_drops_the_term = refl

pub answer_of_refusal_13 : read_answer (48 ∷ 100 ∷ replicate 16 48) ≡ None
unfolding every same_time digit_of byte_of all_hex word_of framed refusal_of telling_by telling_in
answer_of_refusal_13 = refl

-- 03 0000 0001 0000 0000
pub refusal_with_a_term : read_answer (48 ∷ 51 ∷ (replicate 7 48 ++ (49 ∷ replicate 8 48))) ≡ None
unfolding every same_time digit_of byte_of all_hex word_of framed telling_by telling_in
refusal_with_a_term = refl
