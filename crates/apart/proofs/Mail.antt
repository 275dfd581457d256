-- What mail's definitions give where a wrong program differs. Assumes nothing.
use Rattle.std.proofs.Common.{Some}
use mathlib.Core.Path.{◌≡◌, refl}
use mathlib.Core.Bool.{true, false}
use mathlib.Core.List.{[], ◌∷◌, ◌++◌}
use Prim.Native.Nat.{suc}
use lib.ListN.{replicate}
use Rattle.base.specs.Numbers.{every}
use Rattle.base.specs.Lists.{each_from}
use Rattle.server_log.specs.Logs.{highest_position}
use Rattle.mail.specs.declared.Queue.{Queue}
use Rattle.mail.specs.Reports.{zero_report, zero_note, note_of, gives_way}
use Rattle.mail.specs.Queues.{empty_queue, report_at, queued, oldest_taken}
use Rattle.mail.specs.Mails.{zero_mail, note_at, with_queue, with_source, noted, received, taken, emptied}
use Rattle.mail.specs.Order.{is_unused, is_used, note_ok, notes_ok, slot_ok, queue_ok, source_ok, mail_ok}
use Rattle.apart.proofs.Things.{note, report, f, g, h, queue, noting, holding}

-- the empty queue with f in its first slot
abbrev dirty : Queue
dirty = record { reports = f ∷ replicate 7 zero_report; len = 0 }

pub note_of_the_last_term : (note_of h).term ≡ 2
note_of_the_last_term = refl

pub note_of_no_length : (note_of h).len ≡ 3
note_of_no_length = refl

pub equal_note_gives_way : gives_way (note 1 1 1) (note 1 1 1) ≡ false
unfolding gives_way
equal_note_gives_way = refl

pub lesser_note_gives_way : gives_way (note 2 1 1) (note 1 1 2) ≡ false
unfolding gives_way
lesser_note_gives_way = refl

pub compares_last_terms_first : gives_way (note 2 2 1) (note 3 1 1) ≡ true
unfolding gives_way
compares_last_terms_first = refl

pub note_of_another_slot : note_at (noting (zero_note ∷ note_of g ∷ [])) 1 ≡ note_of g
note_of_another_slot = refl

pub full_queue_drops_the_oldest : report_at (queued (queue (f ∷ replicate 7 g)) h) 0 ≡ f
unfolding queued
full_queue_drops_the_oldest = refl

pub queued_leaves_the_length : (queued empty_queue f).len ≡ 1
unfolding queued
queued_leaves_the_length = refl

pub report_of_another_slot : report_at (queue (f ∷ g ∷ [])) 1 ≡ g
report_of_another_slot = refl

pub takes_the_newest : report_at (oldest_taken (queue (f ∷ g ∷ []))) 0 ≡ g
unfolding each_from oldest_taken
takes_the_newest = refl

pub leaves_the_last_slot : report_at (oldest_taken (queue (replicate 8 f))) 7 ≡ zero_report
unfolding each_from oldest_taken
leaves_the_last_slot = refl

pub taken_leaves_the_length : (oldest_taken (queue (f ∷ []))).len ≡ 0
unfolding oldest_taken
taken_leaves_the_length = refl

pub notes_at_another_number : note_at (noted zero_mail g) 1 ≡ note_of g
unfolding gives_way noted
notes_at_another_number = refl

pub notes_the_lesser : note_at (noted (noting (zero_note ∷ note 1 1 1 ∷ [])) g) 1 ≡ note_of g
unfolding gives_way noted
notes_the_lesser = refl

pub received_forgets_the_queue : (received (holding (f ∷ [])) g).queue.len ≡ 2
unfolding queued
received_forgets_the_queue = refl

pub received_notes_it : note_at (received zero_mail g) 1 ≡ zero_note
received_notes_it = refl

pub taken_drops_all : (taken (holding (f ∷ g ∷ []))).queue.len ≡ 1
unfolding oldest_taken
taken_drops_all = refl

pub taken_forgets_the_source : (taken (with_source zero_mail (Some 1))).source ≡ Some 1
taken_forgets_the_source = refl

pub emptied_forgets_the_source : (emptied (with_source zero_mail (Some 1))).source ≡ Some 1
emptied_forgets_the_source = refl

pub emptied_keeps_the_notes : note_at (emptied (noting (note_of f ∷ []))) 0 ≡ zero_note
emptied_keeps_the_notes = refl

pub source_is_never_set : (with_source zero_mail (Some 1)).source ≡ Some 1
source_is_never_set = refl

pub source_empties_the_queue : (with_source (holding (f ∷ [])) (Some 1)).queue.len ≡ 1
source_empties_the_queue = refl

pub unused_of_length_1 : is_unused (note 0 0 1) ≡ false
unfolding is_unused
unused_of_length_1 = refl

pub unused_leaves_out_the_last_term : is_unused (note 0 1 0) ≡ false
unfolding is_unused
unused_leaves_out_the_last_term = refl

pub used_at_the_count : is_used 1 1 (note 1 1 1) ≡ false
unfolding is_used
used_at_the_count = refl

pub used_note_past_the_highest : is_used 2 0 (note 1 1 (suc highest_position)) ≡ false
unfolding is_used
used_note_past_the_highest = refl

-- all else about that note is good
pub used_note_at_the_highest : is_used 2 0 (note 1 1 highest_position) ≡ true
unfolding is_used
used_note_at_the_highest = refl

pub last_term_above_the_term : is_used 2 0 (note 1 2 1) ≡ false
unfolding is_used
last_term_above_the_term = refl

pub note_ok_wants_it_used : note_ok 2 0 zero_note ≡ true
unfolding is_unused note_ok
note_ok_wants_it_used = refl

pub note_ok_of_any_server : note_ok 1 1 (note 1 1 1) ≡ false
unfolding is_unused is_used note_ok
note_ok_of_any_server = refl

pub notes_ok_leaves_out_the_last : notes_ok 2 (noting (replicate 6 zero_note ++ (note_of f ∷ []))) ≡ false
unfolding every is_unused is_used note_ok notes_ok
notes_ok_leaves_out_the_last = refl

pub notes_ok_of_server_0 : notes_ok 1 (noting (zero_note ∷ note_of g ∷ [])) ≡ false
unfolding every is_unused is_used note_ok notes_ok
notes_ok_of_server_0 = refl

pub slot_ok_leaves_out_who : slot_ok 2 false (report 1 0 0 0) ≡ false
unfolding slot_ok
slot_ok_leaves_out_who = refl

pub slot_ok_of_an_unused_report : slot_ok 2 true zero_report ≡ false
unfolding is_used slot_ok
slot_ok_of_an_unused_report = refl

pub slot_past_the_length_unlooked_at : queue_ok 2 dirty ≡ false
unfolding every is_unused slot_ok queue_ok
slot_past_the_length_unlooked_at = refl

pub queue_of_length_9 : queue_ok 2 (record { reports = replicate 8 f; len = 9 }) ≡ false
unfolding queue_ok
queue_of_length_9 = refl

-- all else about that queue is good
pub queue_of_length_8 : queue_ok 2 (queue (replicate 8 f)) ≡ true
unfolding every is_used slot_ok queue_ok
queue_of_length_8 = refl

pub own_source_allowed : source_ok 2 0 (Some 0) ≡ false
unfolding source_ok
own_source_allowed = refl

pub source_past_the_count : source_ok 2 0 (Some 2) ≡ false
unfolding source_ok
source_past_the_count = refl

pub mail_ok_without_the_queue : mail_ok 2 0 (with_queue zero_mail dirty) ≡ false
unfolding every is_unused is_used note_ok notes_ok slot_ok queue_ok mail_ok
mail_ok_without_the_queue = refl

pub mail_ok_without_the_source : mail_ok 2 0 (with_source zero_mail (Some 0)) ≡ false
unfolding every is_unused is_used note_ok notes_ok slot_ok queue_ok source_ok mail_ok
mail_ok_without_the_source = refl
