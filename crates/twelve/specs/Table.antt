-- 01's twelve cases as the rows of one table, each with its expected value, and one test over the definitions that the promises cite.
-- Assumes nothing.
use Rattle.std.specs.Prelude.{List, [], ◌∷◌, ◌++◌, map, Bool, true, false, ◌&&◌, ℕ, suc, ◌+◌, ◌-◌, eqb, length, replicate, Option, Some, None}
use Rattle.std.specs.Bool.{beq}
use Rattle.clock.specs.declared.Time.{Time}
use Rattle.clock.specs.Times.{zero_time, is_before, same_time, tick_of}
use Rattle.server_log.specs.declared.Entry.{Entry}
use Rattle.server_log.specs.declared.Log.{Log}
use Rattle.server_log.specs.Entries.{zero_entry, last_term, applied_time, common_beginning}
use Rattle.server_log.specs.Logs.{log_limit, live}
use Rattle.mail.specs.Reports.{zero_note}
use Rattle.mail.specs.Mails.{zero_mail, with_notes}
use Rattle.cluster.specs.declared.Server.{Server}
use Rattle.cluster.specs.Servers.{most_servers, with_head, with_log, with_mail, fresh_server}
use Rattle.cluster.specs.Sets.{voters, is_majority}
use Rattle.steps.specs.Refusals.{Rules, decided, refusal_number}
use Rattle.pairs.specs.Pulls.{pull_rules}
use Rattle.pairs.specs.RollsBack.{roll_rules}
use Rattle.singles.specs.Writes.{write_rules}
use Rattle.counts.specs.Advances.{highest_passing}

-- a time as 01 prints it, (p, l); a log as the list of its entries' terms; a server as its term and its log
abbrev pub Pair : Type 0
Pair = ℕ × ℕ

abbrev pub Terms : Type 0
Terms = List ℕ

abbrev pub Holder : Type 0
Holder = ℕ × Terms

-- a note: term, last term, length
abbrev pub Triple : Type 0
Triple = ℕ × ℕ × ℕ

-- the sorts of cases; the last argument is what is expected, and an expected refusal is its number, 0 where the step is done
pub data Row : Type 0 where
  -- whether the set of a mask is a majority of so many servers
  majority : ℕ → ℕ → Bool → Row
  -- whether the first time is before the second
  before : Pair → Pair → Bool → Row
  -- the time after a tick from a time at a wall clock
  tick : Pair → ℕ → Pair → Row
  -- the refusal of a write whose client carries (0,0), by a primary of this cluster time and wall clock that nothing else keeps from writing
  write : Pair → ℕ → ℕ → Row
  -- how many entries two logs share
  share : Terms → Terms → ℕ → Row
  -- the refusal of a pull, by a secondary of the first log from a server of the second
  pull : Terms → Terms → ℕ → Row
  -- the refusal of a rollback, likewise
  roll_back : Terms → Terms → ℕ → Row
  -- the highest position that passes at this primary, which has these notes about the others, 0 if none does
  passing : Holder → List Triple → ℕ → Row
  -- a case of two halves
  both : Row → Row → Row

abbrev pub time_of : Pair → Time
time_of t = record { p = t.0; l = t.1 }

-- same term and position mean equal entries: all else of an entry comes from its position n
abbrev pub entries_from : ℕ → Terms → List Entry
entries_from n [] = []
entries_from n (t ∷ ts) = record { term = t; key = 0; value = 1; time = time_of (n, 0) } ∷ entries_from (suc n) ts

abbrev pub log_of : Terms → Log
log_of ts = record { entries = entries_from 1 ts ++ replicate (log_limit - length ts) zero_entry; len = length ts }

-- a server of this term, role and log, that has committed nothing
abbrev pub server_of : ℕ → Bool → Terms → Server
server_of term primary ts =
    with_log
    (with_head fresh_server (record { term = term; primary = primary; commit = 0; wall = 1; time = applied_time (live (log_of ts)) })) (log_of ts)

-- a secondary that has seen no term past its log's
abbrev pub secondary_of : Terms → Server
secondary_of ts = server_of (last_term (live (log_of ts))) false ts

abbrev pub writer_of : Time → ℕ → Server
writer_of t wall = with_head fresh_server (record { term = 1; primary = true; commit = 0; wall = wall; time = t })

-- server 0 is the primary, and has no note about itself
abbrev pub leader_of : Holder → List Triple → Server
leader_of h ns =
    with_mail (server_of h.0 true h.1)
    (with_notes zero_mail (zero_note ∷ (map (λ n. record { term = n.0; last = n.1; len = n.2 }) ns ++ replicate (most_servers - 1 - length ns) zero_note)))

abbrev pub ticks_to : Option Time → Time → Bool
ticks_to (Some s) t = same_time s t
ticks_to None t = false

-- the number of the refusal, 0 where no rule is broken
abbrev pub verdict : Rules → ℕ
verdict rules = decided refusal_number 0 rules

-- what is expected is what the definitions give
unfoldable pub row_holds : Row → Bool
row_holds (majority m n b) = beq (is_majority m (voters n 0)) b
row_holds (before s t b) = beq (is_before (time_of s) (time_of t)) b
row_holds (tick t wall u) = ticks_to (tick_of wall (time_of t)) (time_of u)
row_holds (write t wall n) = eqb (verdict (write_rules (writer_of (time_of t) wall) 0 1 zero_time)) n
row_holds (share xs ys n) = eqb (common_beginning (live (log_of xs)) (live (log_of ys))) n
row_holds (pull xs ys n) = eqb (verdict (pull_rules (secondary_of xs) (secondary_of ys))) n
row_holds (roll_back xs ys n) = eqb (verdict (roll_rules (secondary_of xs) (secondary_of ys))) n
row_holds (passing h ns n) = eqb (highest_passing (length ns + 1) 0 (leader_of h ns) 0) n
row_holds (both r s) = row_holds r && row_holds s

-- every row passes a test
abbrev pub all : (Row → Bool) → List Row → Bool
all p [] = true
all p (r ∷ rs) = p r && all p rs

abbrev pub table : List Row
table =
    -- (1) set {0,1} of 3 is a majority
    majority 3 3 true
    -- (2) of 4 it is not
    ∷ majority 3 4 false
    -- (3) {0} of 2 is not
    ∷ majority 1 2 false
    -- (4) (1,9) is before (2,0)
    ∷ before (1, 9) (2, 0) true
    -- (5) tick (0,0) at clock 1 gives (1,0)
    ∷ tick (0, 0) 1 (1, 0)
    -- (6) tick (3,4) at clock 2 gives (3,5)
    ∷ tick (3, 4) 2 (3, 5)
    -- (7) tick (1,65535) at clock 2 gives (2,0)
    ∷ tick (1, 65535) 2 (2, 0)
    -- (8) tick (2,65535) at clock 2 is refusal 7
    ∷ write (2, 65535) 2 7
    -- (9) [1,1,2] and [1,1,3,3] share 2
    ∷ share (1 ∷ 1 ∷ 2 ∷ []) (1 ∷ 1 ∷ 3 ∷ 3 ∷ []) 2
    -- (10) [1] pulls from [1,2], and [2] can't pull from [1,3]
    ∷ both (pull (1 ∷ []) (1 ∷ 2 ∷ []) 0) (pull (2 ∷ []) (1 ∷ 3 ∷ []) 5)
    -- (11) [1,2] rolls back to [1,3], and [1] doesn't
    ∷ both (roll_back (1 ∷ 2 ∷ []) (1 ∷ 3 ∷ []) 0) (roll_back (1 ∷ []) (1 ∷ 3 ∷ []) 5)
    -- (12) a primary of term 4 with [1,2,4] in a cluster of 5, with notes that two others of term 4 have last term 2 and length 2 (02), and
    -- no others: nothing passes
    ∷ passing (4, 1 ∷ 2 ∷ 4 ∷ []) ((4, 2, 2) ∷ (4, 2, 2) ∷ (0, 0, 0) ∷ (0, 0, 0) ∷ []) 0
    ∷ []
