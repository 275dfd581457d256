-- What the definitions of kind 7 give where a wrong program differs. Assumes nothing.
use mathlib.Core.Path.{◌≡◌, refl}
use mathlib.Core.Bool.{true, false}
use mathlib.Core.List.{List, [], ◌∷◌}
use Rattle.base.specs.Numbers.{count, highest}
use Rattle.base.specs.Lists.{each_from}
use Rattle.server_log.specs.Entries.{entry_at}
use Rattle.server_log.specs.Rows.{value_for, latest_after}
use Rattle.server_log.specs.declared.Entry.{Entry as EntryOf}
use Rattle.mail.specs.declared.Note.{Note}
use Rattle.mail.specs.Reports.{zero_note}
use Rattle.cluster.specs.declared.Server.{Server}
use Rattle.cluster.specs.Sets.{member}
use Rattle.cluster.specs.Servers.{with_mail, fresh_server, started_of, server_at}
use Rattle.steps.specs.declared.Answer.TheVariants.{Reached, Refused}
use Rattle.steps.specs.declared.Refusal.TheVariants.{WrongRole}
use Rattle.counts.specs.Advances.{backs, passes, highest_passing, advances_of}
use Rattle.apart.proofs.Things.{at, entry, x, u, note, noting, server, two, F2}

-- a primary of term 2 with this log and these first notes
abbrev noted : List Note → List EntryOf → Server
noted ns es = with_mail (server 2 true 0 1 (at 2 0) es) (noting ns)

pub backs_by_a_later_term : backs (noted (zero_note ∷ note 3 2 1 ∷ []) (u ∷ [])) 0 1 1 ≡ false
unfolding backs
backs_by_a_later_term = refl

pub backs_by_an_older_last_term : backs (noted (zero_note ∷ note 2 1 1 ∷ []) (u ∷ [])) 0 1 1 ≡ false
unfolding backs
backs_by_an_older_last_term = refl

pub backs_by_terms_alone : backs (noted (zero_note ∷ note 2 2 1 ∷ []) (u ∷ [])) 0 2 1 ≡ false
unfolding backs
backs_by_terms_alone = refl

pub backs_itself_by_its_note : backs (noted [] (u ∷ [])) 0 1 0 ≡ true
unfolding backs
backs_itself_by_its_note = refl

pub counts_entries_of_older_terms : highest_passing 2 0 (noted (zero_note ∷ note 2 2 1 ∷ []) (x ∷ [])) 0 ≡ 0
unfolding count highest entry_at member backs passes highest_passing
counts_entries_of_older_terms = refl

pub counts_its_own_note : highest_passing 2 0 (noted (note 2 2 1 ∷ []) (u ∷ [])) 0 ≡ 0
unfolding count highest entry_at member backs passes highest_passing
counts_its_own_note = refl

-- three servers, of which server 2 is a follower and noted
pub a_followers_note_counts : highest_passing 3 4 (noted (zero_note ∷ zero_note ∷ note 2 2 1 ∷ []) (u ∷ [])) 0 ≡ 0
unfolding count highest entry_at member backs passes highest_passing
a_followers_note_counts = refl

-- seven servers, of which 0 and 1 vote
pub passes_by_all_servers : highest_passing 7 124 (noted (zero_note ∷ note 2 2 1 ∷ []) (u ∷ [])) 0 ≡ 1
unfolding count highest entry_at member backs passes highest_passing
passes_by_all_servers = refl

-- entries 2/5/42@(2,0) and 2/5/43@(3,0), both noted
pub advances_one_further : (advances_of (two (noted (zero_note ∷ note 2 2 2 ∷ []) (u ∷ entry 2 5 43 (at 3 0) ∷ [])) fresh_server) 0).answer ≡ Reached 2
unfolding count highest entry_at member backs passes highest_passing
advances_one_further = refl

pub secondary_advances : (advances_of F2 0).answer ≡ Refused WrongRole
unfolding each_from started_of
secondary_advances = refl

pub advances_without_its_row :
    value_for (server_at (advances_of (two (noted (zero_note ∷ note 2 2 2 ∷ []) (u ∷ entry 2 5 43 (at 3 0) ∷ [])) fresh_server) 0).cluster 0).rows.committed 5 ≡ 43
unfolding count highest entry_at latest_after member backs passes highest_passing
advances_without_its_row = refl
