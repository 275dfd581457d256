-- 01's table of steps with 02's: for each kind its rules in order, what it gives where none is broken, and the step over any record. Assumes nothing.
use Rattle.std.specs.Prelude.{[], ◌∷◌, Bool, cond, not, ◌||◌, ℕ, eqb, ltb, Option, None, Some}
use Rattle.mail.specs.Mails.{received}
use Rattle.cluster.specs.declared.Cluster.{Cluster}
use Rattle.cluster.specs.Servers.{server_count, server_at, with_mail, with_server}
use Rattle.cluster.specs.WellFormed.{well_formed}
use Rattle.steps.specs.declared.Step.{Step}
use Rattle.steps.specs.declared.Step.TheVariants.{Start, Elect, StepDown, Hears, Pulls, RollsBack, Writes, Advances, WallClock, Restarts, LocalRead, MajorityRead, Acknowledged, ClocksAgree, WritesNothing, NewestRead, TakesReport}
use Rattle.steps.specs.declared.Refusal.{Refusal}
use Rattle.steps.specs.declared.Refusal.TheVariants.{IllFormed, OutOfRange}
use Rattle.steps.specs.declared.Sent.{Sent}
use Rattle.steps.specs.declared.Stepped.{Stepped}
use Rattle.steps.specs.declared.Outcome.{Outcome}
use Rattle.steps.specs.Fields.{frame_for}
use Rattle.steps.specs.Refusals.{Rules, decided}
use Rattle.steps.specs.Answers.{refusing_all}
use Rattle.pairs.specs.Hears.{hears_of}
use Rattle.pairs.specs.Pulls.{pull_rules, pull_done}
use Rattle.pairs.specs.RollsBack.{roll_rules, roll_done}
use Rattle.singles.specs.StepsDown.{down_rules, down_done}
use Rattle.singles.specs.WallClock.{clock_rules, clock_done}
use Rattle.singles.specs.Restarts.{restarts_of}
use Rattle.singles.specs.Writes.{write_rules, write_done}
use Rattle.singles.specs.WritesNothing.{nothing_rules, nothing_done}
use Rattle.reads.specs.Acknowledged.{acknowledge_rules, acknowledge_done}
use Rattle.reads.specs.LocalRead.{local_rules, local_done}
use Rattle.reads.specs.MajorityRead.{majority_rules, majority_done}
use Rattle.reads.specs.NewestRead.{newest_rules, newest_done}
use Rattle.singles.specs.TakesReport.{take_rules, take_done}
use Rattle.wholes.specs.Starts.{start_rules, start_done}
use Rattle.wholes.specs.ClocksAgree.{agrees_of}
use Rattle.wholes.specs.Elects.{elect_rules, elect_done}
use Rattle.counts.specs.Advances.{advance_rules, advance_done}

-- a server's number is below the server count
abbrev pub in_range : Cluster → ℕ → Bool × Refusal
in_range c a = (ltb a (server_count c), OutOfRange)

-- two servers, not the same
abbrev pub both_in_range : Cluster → ℕ → ℕ → Rules → Rules
both_in_range c a b rs = in_range c a ∷ in_range c b ∷ (not (eqb a b), OutOfRange) ∷ rs

-- what a step sends: a report to the end of a server's queue
unfoldable pub delivered : Cluster → Option Sent → Cluster
delivered c None = c
delivered c (Some t) = with_server c t.to (with_mail (server_at c t.to) (received (server_at c t.to).mail t.report))

-- server a as a step left it, what it sends delivered, the others unchanged, and its answer
abbrev pub put_back : Cluster → ℕ → Stepped → Outcome
put_back c a o = record { cluster = delivered (with_server c a o.server) o.sends; answer = o.answer }

-- 01's table of steps with 02's, a row a kind: what has to hold, in the order in which it is refused; the record afterwards and the answer
unfoldable pub row_of : Cluster → Step → Rules × Outcome
row_of c (Start n f) = (start_rules n f, start_done n f)
row_of c (Elect a m) = (elect_rules c a m, elect_done c a m)
row_of c (StepDown a) = (in_range c a ∷ down_rules (server_at c a).head, put_back c a (down_done (server_at c a)))
row_of c (Hears a b) = (both_in_range c a b [], put_back c a (hears_of (server_at c a) (server_at c b)))
row_of c (Pulls a b) = (both_in_range c a b (pull_rules (server_at c a) (server_at c b)), put_back c a (pull_done (server_at c a) (server_at c b) a b))
row_of c (RollsBack a b) = (both_in_range c a b (roll_rules (server_at c a) (server_at c b)), put_back c a (roll_done (server_at c a) (server_at c b) a b))
row_of c (Writes a key value client) = (in_range c a ∷ write_rules (server_at c a) key value client, put_back c a (write_done (server_at c a) key value client))
row_of c (Advances a) = (advance_rules c a, advance_done c a)
row_of c (WallClock a) = (in_range c a ∷ clock_rules (server_at c a).head, put_back c a (clock_done (server_at c a)))
row_of c (Restarts a) = (in_range c a ∷ [], put_back c a (restarts_of (server_at c a)))
row_of c (LocalRead a key asked) = (in_range c a ∷ local_rules (server_at c a) key asked, put_back c a (local_done (server_at c a) key))
row_of c (MajorityRead a key asked) = (in_range c a ∷ majority_rules (server_at c a) key asked, put_back c a (majority_done (server_at c a) key))
row_of c (Acknowledged a k n term) = (in_range c a ∷ acknowledge_rules (server_count c) (server_at c a) k n term, put_back c a (acknowledge_done (server_at c a) n))
row_of c ClocksAgree = ([], agrees_of c)
row_of c (WritesNothing a) = (in_range c a ∷ nothing_rules (server_at c a), put_back c a (nothing_done (server_at c a)))
row_of c (NewestRead a key n term) = (in_range c a ∷ newest_rules (server_at c a) key n term, put_back c a (newest_done (server_at c a) key n))
row_of c (TakesReport a) = (in_range c a ∷ take_rules (server_at c a), put_back c a (take_done (server_at c a)))

abbrev pub rules_of : Cluster → Step → Rules
rules_of c s = (row_of c s).0

abbrev pub done_of : Cluster → Step → Outcome
done_of c s = (row_of c s).1

-- the step on a record that needn't be looked at
unfoldable pub core_of : Cluster → Step → Outcome
core_of c s = decided (refusing_all c) (done_of c s) (rules_of c s)

-- a start is kind 0
abbrev pub is_start : Step → Bool
is_start s = eqb (frame_for s).kind 0

-- an ill-formed record is refused first; a start doesn't look at it
unfoldable pub step_of : Cluster → Step → Outcome
step_of c s = cond (is_start s || well_formed c) (core_of c s) (refusing_all c IllFormed)
