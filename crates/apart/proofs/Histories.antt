-- What the definitions of the check of phones' records give where a wrong program differs. Assumes nothing.
use mathlib.Core.Path.{◌≡◌, refl}
use mathlib.Core.Bool.{true, false}
use mathlib.Core.List.{[], ◌∷◌}
use Prim.Native.Nat.{ℕ}
use lib.ListN.{replicate}
use Rattle.base.specs.Numbers.{every}
use Rattle.clock.specs.declared.Time.{Time}
use Rattle.clock.specs.Times.{is_before, same_time}
use Rattle.server_log.specs.Entries.{entry_at}
use Rattle.server_log.specs.Order.{entry_ok, follows, place_ok, in_order}
use Rattle.steps.specs.declared.Refusal.TheVariants.{IllFormed}
use Rattle.histories.specs.declared.PhoneRecord.{PhoneRecord}
use Rattle.histories.specs.declared.Checked.TheVariants.{Breaks, Refused}
use Rattle.histories.specs.Committed.{lent, entries_on, same_lengths, could_hold}
use Rattle.histories.specs.Rules.{no_record, record_in_range, same_write, readable, write_obeys, not_before, keeps_order}
use Rattle.histories.specs.Checking.{first_breaker, list_ok, checked_of, check_of}
use Rattle.apart.proofs.Things.{at, x, z}

-- a phone's record of this session and kind, for key 5 and value 41
abbrev seen : ℕ → ℕ → Time → PhoneRecord
seen session kind time = record { session = session; kind = kind; key = 5; value = 41; position = 1; time = time }

pub value_from_the_whole_log : readable 5 (at 1 0) z ≡ false
unfolding is_before readable
value_from_the_whole_log = refl

pub value_from_before_its_time_only : readable 5 (at 1 0) x ≡ true
unfolding is_before readable
value_from_before_its_time_only = refl

pub no_order : not_before (seen 1 11 (at 2 0)) (seen 1 11 (at 1 0)) ≡ false
unfolding is_before not_before
no_order = refl

pub order_across_sessions : not_before (seen 1 11 (at 2 0)) (seen 2 11 (at 1 0)) ≡ true
unfolding is_before not_before
order_across_sessions = refl

pub order_by_the_last_record_only : keeps_order (seen 1 11 (at 2 0) ∷ seen 1 11 (at 1 0) ∷ []) (seen 1 11 (at 1 0)) ≡ false
unfolding every is_before not_before keeps_order
order_by_the_last_record_only = refl

pub write_by_its_value_alone : same_write x (record { session = 1; kind = 6; key = 6; value = 41; position = 1; time = at 9 9 }) ≡ false
unfolding same_time same_write
write_by_its_value_alone = refl

pub position_0_accepted : write_obeys [] no_record ≡ false
unfolding write_obeys
position_0_accepted = refl

pub refusal_3_before_2 : check_of (seen 1 7 (at 1 0) ∷ []) (lent (0 ∷ []) (5 ∷ []) (41 ∷ []) (1 ∷ []) (0 ∷ [])) ≡ Refused IllFormed
unfolding every entry_at entry_ok follows place_ok in_order entries_on same_lengths could_hold record_in_range list_ok checked_of
refusal_3_before_2 = refl

pub the_last_breaker_named : first_breaker 2 (λ i. false) ≡ Breaks 0
unfolding first_breaker
the_last_breaker_named = refl

pub records_256_refused : list_ok (replicate 256 (seen 1 6 (at 1 0))) 256 ≡ true
unfolding every record_in_range list_ok
records_256_refused = refl

pub records_257_accepted : list_ok (replicate 257 (seen 1 6 (at 1 0))) 257 ≡ false
unfolding list_ok
records_257_accepted = refl
