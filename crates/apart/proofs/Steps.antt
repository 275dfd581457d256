-- What the definitions of answers give where a wrong program differs. Assumes nothing.
use mathlib.Core.Path.{◌≡◌, refl}
use mathlib.Core.List.{[]}
use Rattle.cluster.specs.Servers.{fresh_server, zero_cluster}
use Rattle.steps.specs.declared.Answer.TheVariants as A
use Rattle.steps.specs.declared.Refusal.TheVariants.{WrongRole, ClockAhead, Retired}
use Rattle.steps.specs.Refusals.{refusal_number}
use Rattle.steps.specs.Answers.{answering, refusing, refusing_all, number_of, telling_of, numbers}
use Rattle.apart.proofs.Things.{at, holder, F2}

pub refuse_gives_a_fresh_server : (refusing (holder 1 []) WrongRole).server ≡ holder 1 []
refuse_gives_a_fresh_server = refl

pub refuse_gives_a_fresh_record : (refusing_all zero_cluster WrongRole).cluster ≡ zero_cluster
refuse_gives_a_fresh_record = refl

pub refuse_with_1_always : (refusing fresh_server WrongRole).answer ≡ A.Refused WrongRole
refuse_with_1_always = refl

pub refuse_all_with_1_always : (refusing_all F2 WrongRole).answer ≡ A.Refused WrongRole
refuse_all_with_1_always = refl

pub number_keeps_the_low_byte : number_of 256 ≡ 256
number_keeps_the_low_byte = refl

pub number_stops_at_the_limit : number_of 65536 ≡ 0
number_stops_at_the_limit = refl

pub told_puts_the_term_into_the_number : telling_of (A.Elected 1) ≡ numbers 0 1 (at 0 0)
told_puts_the_term_into_the_number = refl

pub told_forgets_the_time : telling_of (A.Entry 1 1 (at 1 0)) ≡ numbers 1 1 (at 1 0)
told_forgets_the_time = refl

pub answered_says_done_always : (answering fresh_server (A.Reached 1)).answer ≡ A.Reached 1
answered_says_done_always = refl

pub answered_gives_a_fresh_server : (answering (holder 1 []) A.Done).server ≡ holder 1 []
answered_gives_a_fresh_server = refl

pub eleven_is_twelve : refusal_number ClockAhead ≡ 11
eleven_is_twelve = refl

pub twelve_is_no_refusal : refusal_number Retired ≡ 12
twelve_is_no_refusal = refl
