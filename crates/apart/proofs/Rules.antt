-- What the definitions of the step's parts give where a wrong program differs. Assumes nothing.
use mathlib.Core.Path.{◌≡◌, refl}
use mathlib.Core.Bool.{true, false}
use mathlib.Core.List.{[], ◌∷◌}
use Rattle.base.specs.Numbers.{every, count}
use Rattle.base.specs.Lists.{each_from}
use Rattle.clock.specs.Times.{is_before}
use Rattle.server_log.specs.Entries.{entry_at}
use Rattle.server_log.specs.Rows.{latest_after}
use Rattle.mail.specs.Queues.{queued}
use Rattle.cluster.specs.declared.Server.{Server}
use Rattle.cluster.specs.Servers.{fresh_server, zero_cluster, started_of, server_at}
use Rattle.cluster.specs.Sets.{member, is_within, is_apart}
use Rattle.cluster.specs.WellFormed.{size_ok, well_formed}
use Rattle.steps.specs.declared.Answer.TheVariants as A
use Rattle.steps.specs.declared.Refusal.TheVariants.{IllFormed, OutOfRange}
use Rattle.steps.specs.declared.Step.TheVariants.{Start, Elect, StepDown, Hears, WallClock, Restarts, LocalRead, ClocksAgree}
use Rattle.steps.specs.Answers.{report_to}
use Rattle.pairs.specs.Hears.{heard_of}
use Rattle.wholes.specs.Elects.{not_behind, may_vote, all_may_vote, are_voters}
use Rattle.rules.specs.Rules.{delivered, put_back, row_of, core_of, is_start, step_of}
use Rattle.rules.specs.One.{untouched_of, one_of, single_of, pair_of}
use Rattle.apart.proofs.Things.{at, x, f, holder, leader, two, F2}

pub untouched_makes_it_secondary : (untouched_of (leader [])).server.head.primary ≡ true
untouched_makes_it_secondary = refl

pub untouched_refuses : (s : Server) → (untouched_of s).answer ≡ A.Done
untouched_refuses s = refl

pub one_does_nothing : (one_of 2 (leader []) (leader []) (StepDown 0)).server.head.primary ≡ false
unfolding one_of
one_does_nothing = refl

pub one_takes_10_for_11 : (one_of 2 (holder 1 (x ∷ [])) (holder 1 (x ∷ [])) (LocalRead 0 5 (at 0 0))).answer ≡ A.Value 41 (at 1 0)
unfolding is_before entry_at latest_after one_of
one_takes_10_for_11 = refl

pub single_of_any_number : (single_of F2 2 (Restarts 2)).answer ≡ A.Refused OutOfRange
unfolding single_of
single_of_any_number = refl

pub single_puts_back_at_0 : (server_at (single_of F2 1 (WallClock 1)).cluster 0).head.wall ≡ 1
unfolding each_from started_of delivered one_of single_of
single_puts_back_at_0 = refl

pub delivers_nothing : (server_at (delivered F2 (report_to 1 f)) 1).mail.queue.len ≡ 1
unfolding each_from queued started_of delivered
delivers_nothing = refl

pub delivers_to_0 : (server_at (delivered F2 (report_to 1 f)) 0).mail.queue.len ≡ 0
unfolding each_from queued started_of delivered
delivers_to_0 = refl

pub puts_back_and_sends_nothing : (server_at (put_back F2 0 (record { server = fresh_server; answer = A.Done; sends = report_to 1 f })).cluster 1).mail.queue.len ≡ 1
unfolding each_from queued started_of delivered
puts_back_and_sends_nothing = refl

pub a_pulls_from_itself : (pair_of F2 0 0 (Hears 0 0)).answer ≡ A.Refused OutOfRange
unfolding pair_of
a_pulls_from_itself = refl

pub record_untouched : (server_at (pair_of (two fresh_server (holder 1 [])) 0 1 (Hears 0 1)).cluster 0).head.term ≡ 1
unfolding heard_of delivered one_of pair_of
record_untouched = refl

pub core_looks_at_the_record : (core_of zero_cluster ClocksAgree).answer ≡ A.Done
unfolding row_of core_of
core_looks_at_the_record = refl

pub core_refuses_every_step : (core_of F2 (Elect 0 3)).answer ≡ A.Elected 1
unfolding every count each_from entry_at started_of member is_within is_apart not_behind may_vote all_may_vote are_voters row_of core_of
core_refuses_every_step = refl

pub is_start_never : is_start (Start 2 0) ≡ true
is_start_never = refl

pub is_start_always : is_start ClocksAgree ≡ false
is_start_always = refl

pub ill_formed_records_pass : (step_of zero_cluster ClocksAgree).answer ≡ A.Refused IllFormed
unfolding size_ok well_formed step_of
ill_formed_records_pass = refl
