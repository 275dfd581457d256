-- What the definitions of kinds 10, 11, 12 and 15 give where a wrong program differs. Assumes nothing.
use mathlib.Core.Path.{◌≡◌, refl}
use mathlib.Core.Bool.{Bool, true, false}
use mathlib.Core.List.{List, [], ◌∷◌}
use Rattle.base.specs.Numbers.{highest}
use Prim.Native.Nat.{ℕ}
use Rattle.clock.specs.Times.{is_before}
use Rattle.server_log.specs.declared.Entry.{Entry}
use Rattle.server_log.specs.Entries.{entry_at, has_entry, latest_value}
use Rattle.server_log.specs.Rows.{latest_after, value_for}
use Rattle.server_log.specs.Logs.{may_ask}
use Rattle.cluster.specs.Servers.{fresh_server}
use Rattle.steps.specs.declared.Answer.{Answer}
use Rattle.steps.specs.declared.Answer.TheVariants.{Entry as Told, Value, Refused}
use Rattle.steps.specs.declared.Refusal.TheVariants.{OutOfRange, WrongRole, NotYet, NoSuchEntry, Retired}
use Rattle.reads.specs.Acknowledged.{acknowledged_of}
use Rattle.reads.specs.LocalRead.{local_read_of}
use Rattle.reads.specs.MajorityRead.{majority_read_of}
use Rattle.reads.specs.NewestRead.{newest_read_of}
use Rattle.reads.specs.Lists.{whole_list, committed_list}
use Rattle.apart.proofs.Things.{at, x, z, server, holder, covering}

pub reads_only_committed_entries : (local_read_of (holder 1 (x ∷ [])) 5 (at 0 0)).answer ≡ Value 41 (at 1 0)
unfolding is_before entry_at latest_after
reads_only_committed_entries = refl

pub local_read_answers_too_early : (local_read_of fresh_server 5 (at 0 1)).answer ≡ Refused NotYet
unfolding is_before entry_at
local_read_answers_too_early = refl

pub majority_reads_the_whole_log : (majority_read_of (holder 1 (x ∷ [])) 5 (at 0 0)).answer ≡ Value 0 (at 0 0)
unfolding is_before entry_at
majority_reads_the_whole_log = refl

pub majority_waits_for_the_applied_time : (majority_read_of (covering (x ∷ z ∷ [])) 5 (at 2 0)).answer ≡ Refused NotYet
unfolding is_before entry_at
majority_waits_for_the_applied_time = refl

-- a server of this term, role, commit point and log, asked for key 5 up to position 1 in term 1
abbrev asked : ℕ → Bool → ℕ → List Entry → Answer
asked term primary commit es = (newest_read_of (server term primary commit 1 (at 2 0) es) 5 1 1).answer

pub newest_read_at_a_secondary : asked 1 false 1 (x ∷ []) ≡ Refused WrongRole
unfolding may_ask
newest_read_at_a_secondary = refl

pub newest_read_in_another_term : asked 2 true 1 (x ∷ []) ≡ Refused WrongRole
unfolding may_ask
newest_read_in_another_term = refl

pub newest_read_before_the_commit_point : asked 1 true 0 (x ∷ []) ≡ Refused NotYet
unfolding entry_at has_entry may_ask
newest_read_before_the_commit_point = refl

pub newest_read_up_to_the_commit_point : asked 1 true 2 (x ∷ z ∷ []) ≡ Value 41 (at 1 0)
unfolding highest entry_at has_entry latest_value may_ask
newest_read_up_to_the_commit_point = refl

pub newest_read_of_the_whole_log : asked 1 true 1 (x ∷ z ∷ []) ≡ Value 41 (at 1 0)
unfolding highest entry_at has_entry latest_value may_ask
newest_read_of_the_whole_log = refl

pub newest_read_8_before_10 : asked 1 true 0 [] ≡ Refused NoSuchEntry
unfolding has_entry may_ask
newest_read_8_before_10 = refl

-- one of two servers, asked under a count about a position in term 1

pub count_1_is_still_answered : (acknowledged_of 2 (covering (x ∷ [])) 1 1 1).answer ≡ Refused Retired
unfolding may_ask
count_1_is_still_answered = refl

pub count_0_is_refused : (acknowledged_of 2 (covering (x ∷ [])) 0 1 1).answer ≡ Told 1 1 (at 1 0)
unfolding entry_at has_entry may_ask
count_0_is_refused = refl

pub a_count_past_the_servers_is_retired : (acknowledged_of 2 fresh_server 3 1 1).answer ≡ Refused OutOfRange
a_count_past_the_servers_is_retired = refl

pub a_count_of_all_is_out_of_range : (acknowledged_of 2 fresh_server 2 1 1).answer ≡ Refused Retired
unfolding may_ask
a_count_of_all_is_out_of_range = refl

pub retired_before_range : (acknowledged_of 2 fresh_server 1 0 1).answer ≡ Refused OutOfRange
unfolding may_ask
retired_before_range = refl

pub retired_after_no_such_entry : (acknowledged_of 2 fresh_server 1 1 1).answer ≡ Refused Retired
unfolding may_ask
retired_after_no_such_entry = refl

pub not_yet_before_no_such_entry : (acknowledged_of 2 fresh_server 0 1 1).answer ≡ Refused NoSuchEntry
unfolding has_entry may_ask
not_yet_before_no_such_entry = refl

pub acknowledged_at_count_0 : (acknowledged_of 2 (holder 1 (x ∷ [])) 0 1 1).answer ≡ Refused NotYet
unfolding entry_at has_entry may_ask
acknowledged_at_count_0 = refl

-- ---- all at once

pub the_whole_list_of_the_committed_row : value_for (whole_list (holder 1 (x ∷ []))).latest 5 ≡ 41
unfolding latest_after
the_whole_list_of_the_committed_row = refl

pub the_whole_list_as_of_the_cluster_time : (whole_list (server 1 false 0 1 (at 9 0) (x ∷ []))).time ≡ at 1 0
unfolding entry_at
the_whole_list_as_of_the_cluster_time = refl

pub the_committed_list_of_the_whole_row : value_for (committed_list (holder 1 (x ∷ []))).latest 5 ≡ 0
the_committed_list_of_the_whole_row = refl

pub the_committed_list_as_of_the_cluster_time : (committed_list (server 1 false 1 1 (at 9 0) (x ∷ z ∷ []))).time ≡ at 1 0
unfolding entry_at
the_committed_list_as_of_the_cluster_time = refl
