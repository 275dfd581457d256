-- What the definitions of reading a text give where a wrong program differs. Assumes nothing.
use mathlib.Core.Path.{◌≡◌, refl}
use mathlib.Core.Bool.{Bool, true, false}
use mathlib.Core.List.{List, [], ◌∷◌, ◌++◌, append-nil}
use Prim.Native.Nat.{ℕ}
use lib.ListN.{replicate}
use Rattle.base.specs.Numbers.{every, count, highest}
use Rattle.base.specs.Lists.{each_from}
use Rattle.clock.specs.Times.{is_before, same_time, later_of}
use Rattle.server_log.specs.Entries.{same_entry, entry_at, latest_value}
use Rattle.server_log.specs.Order.{in_order, rest_zero, is_empty_log, log_ok}
use Rattle.server_log.specs.Rows.{row_ok, rows_ok}
use Rattle.cluster.specs.Servers.{fresh_server, zero_cluster, server_at}
use Rattle.mail.specs.Order.{is_unused, is_used, note_ok, notes_ok, slot_ok, queue_ok, source_ok, mail_ok}
use Rattle.cluster.specs.Sets.{member, is_within}
use Rattle.cluster.specs.WellFormed.{numbers_ok, counted_ok, zero_ok, server_ok, size_ok, well_formed}
use Rattle.steps.specs.declared.Answer.TheVariants.{Refused}
use Rattle.steps.specs.declared.Refusal.TheVariants.{NotAFrame, IllFormed}
use Rattle.steps.specs.declared.Step.TheVariants.{Start, Hears, ClocksAgree}
use Rattle.pairs.specs.Hears.{heard_of}
use Rattle.rules.specs.Rules.{delivered, row_of, core_of, step_of}
use Rattle.hex_text.specs.Digits.{digit_of, char_of, byte_of}
use Rattle.hex_text.specs.Lines.{all_hex}
use Rattle.std.proofs.Common.{Some, None, Ok, Err}
use Rattle.words.specs.Words.{high_of, low_of, word_of, framed}
use Rattle.frames.specs.Layout.{bytes_of_frame, frame_of}
use Rattle.frames.specs.Kinds.{step_of_frame, is_clean}
use Rattle.frames.specs.Steps.{write_step, step_in, read_step}
use Rattle.replay.specs.declared.Plan.TheVariants.{Record}
use Rattle.lines.specs.Texts.{lines}
use Rattle.replay.specs.Texts.{respond, answer_to, line_of, answers}
use Rattle.lines.specs.Readers.{Reader, fresh_reader, line_held, push_of, is_empty, reader_after}
use Rattle.lines.specs.Folds.{byte_after}
use Rattle.replay.specs.Pieces.{begun, after, said, fed_of, finish_of}
use Rattle.replay.specs.Plans.{place_of, plan_of}
use Rattle.apart.proofs.Things.{holder, two, F2}

-- the characters 0 and 1 are 48 and 49

abbrev reader : List ℕ → ℕ → Bool → Reader
reader held fill over = record { held = held; fill = fill; over = over }

pub empty_line_is_skipped : lines (10 ∷ []) ≡ [] ∷ []
empty_line_is_skipped = refl

pub begins_with_the_zero_record : (begun F2).cluster ≡ F2
begins_with_the_zero_record = refl

pub begins_within_a_line : (begun F2).reader.fill ≡ 0
begins_within_a_line = refl

-- the 27th character makes the line too long, and then nothing else is kept
pub the_27th_is_remembered : reader_after (reader (replicate 26 48) 26 false) 49 ≡ reader (replicate 26 0) 0 true
unfolding reader_after push_of
the_27th_is_remembered = refl

pub a_26th_is_kept : (reader_after (reader (replicate 25 48 ++ (0 ∷ [])) 25 false) 49).fill ≡ 26
unfolding reader_after push_of
a_26th_is_kept = refl

pub a_long_line_stays_long : reader_after (reader (replicate 26 48) 3 true) 49 ≡ reader (replicate 26 0) 0 true
unfolding reader_after push_of
a_long_line_stays_long = refl

pub a_line_feed_closes : reader_after (reader (replicate 26 48) 3 true) 10 ≡ fresh_reader
unfolding reader_after
a_line_feed_closes = refl

pub held_reads_a_long_line : read_step (line_held (reader (write_step ClocksAgree) 26 true)) ≡ None
unfolding framed line_held
held_reads_a_long_line = refl

pub held_fills_a_short_line : read_step (line_held (reader (write_step ClocksAgree) 25 false)) ≡ None
unfolding bytes_of_frame framed line_held
held_fills_a_short_line = refl

pub plan_gives_2_before_1 : plan_of 0 false None ≡ Err NotAFrame
unfolding plan_of
plan_gives_2_before_1 = refl

pub plan_lets_a_start_look : plan_of 0 false (Some (Start 2 0)) ≡ Ok (Record (Start 2 0))
unfolding place_of plan_of
plan_lets_a_start_look = refl

-- server 0 hears from server 1, of term 1, at the line feed
pub the_wrong_server_is_replaced :
    (server_at (fed_of (record { cluster = two fresh_server (holder 1 []); reader = reader (write_step (Hears 0 1)) 26 false }) (10 ∷ []) 19).session.cluster 0).head.term
    ≡ 1
unfolding every count each_from is_before same_time later_of same_entry entry_at in_order rest_zero is_empty_log log_ok is_unused is_used note_ok notes_ok slot_ok queue_ok source_ok mail_ok numbers_ok counted_ok zero_ok highest latest_value row_ok rows_ok server_ok well_formed digit_of char_of byte_of all_hex high_of low_of word_of framed bytes_of_frame frame_of step_of_frame is_clean step_in heard_of delivered row_of core_of step_of respond answer_to line_of line_held byte_after after said fed_of member is_within size_ok
the_wrong_server_is_replaced = refl

pub rest_without_line_feed_is_dropped : is_empty (push_of fresh_reader 48) ≡ false
unfolding push_of
rest_without_line_feed_is_dropped = refl

pub empty_by_the_fill_alone : is_empty (reader (replicate 26 0) 0 true) ≡ false
empty_by_the_fill_alone = refl

pub responds_2_to_a_bad_line : (respond zero_cluster None).answer ≡ Refused NotAFrame
unfolding respond
responds_2_to_a_bad_line = refl

pub responds_without_the_test : (respond zero_cluster (Some ClocksAgree)).answer ≡ Refused IllFormed
unfolding size_ok well_formed step_of respond
responds_without_the_test = refl

pub finish_answers_an_empty_rest : (finish_of (begun F2) 19).wrote ≡ 0
unfolding finish_of
finish_answers_an_empty_rest = refl

pub finish_keeps_the_reader : (finish_of (record { cluster = F2; reader = push_of fresh_reader 48 }) 19).session.reader ≡ fresh_reader
unfolding push_of finish_of
finish_keeps_the_reader = refl

-- a text that is the one character x, 120, whose line has no line feed
pub the_rest_is_answered : answers zero_cluster (120 ∷ []) ≡ line_of (Refused NotAFrame)
unfolding every digit_of all_hex framed respond answer_to
the_rest_is_answered = append-nil (line_of (Refused NotAFrame))
