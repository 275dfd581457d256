-- What the definitions of kinds 0, 1 and 13 give where a wrong program differs. Assumes nothing.
use mathlib.Core.Path.{◌≡◌, refl}
use mathlib.Core.Bool.{true, false}
use mathlib.Core.List.{[], ◌∷◌}
use Rattle.base.specs.Numbers.{every, count, greatest}
use Rattle.base.specs.Lists.{each_from}
use Rattle.server_log.specs.Entries.{entry_at}
use Rattle.server_log.specs.Logs.{empty_log}
use Rattle.cluster.specs.declared.Cluster.{Cluster}
use Rattle.cluster.specs.Servers.{fresh_server, started_of, fresh_cluster, server_at, with_server, voted_of, clocked_of}
use Rattle.cluster.specs.Sets.{member, is_within, is_apart}
use Rattle.cluster.specs.WellFormed.{size_ok}
use Rattle.steps.specs.declared.Answer.TheVariants.{Done, Elected, Refused}
use Rattle.steps.specs.declared.Refusal.TheVariants.{OutOfRange, ConditionUnmet}
use Rattle.wholes.specs.Starts.{starts_of}
use Rattle.wholes.specs.ClocksAgree.{greatest_clock, agrees_of}
use Rattle.wholes.specs.Elects.{not_behind, may_vote, vote_ok, all_may_vote, are_voters, elects_of}
use Rattle.apart.proofs.Things.{x, z, u, holder, clocked, two, F2}

pub starts_without_followers : (starts_of F2 3 4).cluster.followers ≡ 4
unfolding every count member is_within size_ok
starts_without_followers = refl

pub starts_keeps_old_logs : (server_at (starts_of (two (holder 1 (x ∷ [])) fresh_server) 2 0).cluster 0).log ≡ empty_log
unfolding every count each_from started_of member is_within size_ok
starts_keeps_old_logs = refl

pub elects_by_lengths_only : not_behind (holder 2 (x ∷ z ∷ [])) (holder 2 (u ∷ [])) ≡ false
unfolding entry_at not_behind
elects_by_lengths_only = refl

pub votes_by_terms_alone : may_vote (holder 1 []) (holder 1 (x ∷ [])) ≡ false
unfolding entry_at not_behind may_vote
votes_by_terms_alone = refl

pub vote_asks_everybody : vote_ok fresh_server (holder 1 []) 1 1 ≡ true
unfolding member
vote_asks_everybody = refl

pub vote_asks_nobody : vote_ok fresh_server (holder 1 []) 3 1 ≡ false
unfolding member may_vote
vote_asks_nobody = refl

pub votes_ask_0_alone : all_may_vote (two fresh_server (holder 1 [])) fresh_server 3 ≡ false
unfolding every entry_at member not_behind may_vote all_may_vote
votes_ask_0_alone = refl

pub votes_ask_past_the_count : all_may_vote (with_server F2 2 (holder 1 [])) fresh_server 7 ≡ true
unfolding every each_from entry_at started_of member not_behind may_vote all_may_vote
votes_ask_past_the_count = refl

-- servers 0 and 1 of terms 2 and 0, after they have elected server 0
abbrev elected : Cluster
elected = (elects_of (two (holder 2 []) fresh_server) 0 3).cluster

pub elects_into_own_terms : ((server_at elected 0).head.term ≡ 3) × ((server_at elected 1).head.term ≡ 3)
unfolding every count each_from entry_at member is_within is_apart voted_of not_behind may_vote all_may_vote are_voters
elects_into_own_terms = (refl, refl)

pub elects_from_outside : (elects_of (fresh_cluster 3 0) 0 6).answer ≡ Refused ConditionUnmet
unfolding every count member is_within is_apart are_voters
elects_from_outside = refl

-- three servers, of which server 2 is a follower
pub a_follower_is_elected : (elects_of (fresh_cluster 3 4) 2 3).answer ≡ Refused OutOfRange
unfolding every count member is_within is_apart are_voters
a_follower_is_elected = refl

pub a_follower_in_the_set : (elects_of (fresh_cluster 3 4) 0 5).answer ≡ Refused OutOfRange
unfolding every count member is_within is_apart are_voters
a_follower_in_the_set = refl

pub voters_past_the_count : (elects_of F2 0 7).answer ≡ Refused OutOfRange
unfolding every count member is_within is_apart are_voters
voters_past_the_count = refl

-- seven servers, of which 0 and 1 vote
pub a_majority_of_all_servers : (elects_of (fresh_cluster 7 124) 0 3).answer ≡ Elected 1
unfolding every count each_from entry_at started_of member is_within is_apart not_behind may_vote all_may_vote are_voters
a_majority_of_all_servers = refl

pub clocks_agree_on_the_least : greatest_clock (two (clocked 5) (clocked 1)) ≡ 5
unfolding greatest
clocks_agree_on_the_least = refl

pub greatest_of_all_seven : greatest_clock (with_server F2 2 (clocked 9)) ≡ 1
unfolding greatest each_from started_of
greatest_of_all_seven = refl

pub agree_sets_0_alone : (server_at (agrees_of (two (clocked 5) (clocked 1))).cluster 1).head.wall ≡ 5
unfolding greatest each_from clocked_of
agree_sets_0_alone = refl

pub agree_answers_the_clock : (agrees_of F2).answer ≡ Done
agree_answers_the_clock = refl
