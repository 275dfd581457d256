-- The page of claims: whatever README and docs/DEMANDS.md say is proved, stated in full beside the theorem that has it. A theorem that
-- says less, or is gone, is refused here. The words that it is stated in are definitions of specs/, but for `found` and `Good`, which the
-- claims about them decide, and the examples' runs. Assumes nothing.
use seplogic.Ra.Ura.{Ura}
use base.Logic.{SProp, sep}
use base.Fml.{Lft}
use prog.Memory.{Memory}
use prog.Routine.{Routine}
use types.Logic.{Logic}
use contract.Lifetimes.{Lfts}
use contract.Monad.{Fun, fact}
use denote.Ref.{Bor, MutBor}
use mathlib.Core.Path.{◌≡◌, refl}
use mathlib.Core.Logic.{◌⊎◌, ◌≢◌, ◌↔◌}
use mathlib.Core.Bool.{Bool, true, false, cond, ◌||◌}
use mathlib.Core.List.{List, [], ◌∷◌, ◌++◌, map}
use Prim.Native.Nat.{ℕ, ◌≤◌, ◌<◌, ◌*◌, ◌/◌, ◌%◌, ◌^◌}
use lib.Count.{ones}
use lib.Dec.{eqb, leb}
use lib.ListN.{length, get_or, take}
use Rattle.base.proofs.Bools.{and_left, and_right}
use Rattle.base.proofs.Results.{OneResult, OneOutcome}
use Rattle.base.specs.Numbers.{byte, count}
use Rattle.std.specs.declared.option.Option.TheVariants.{Some}
use Rattle.clock.specs.declared.Time.{Time}
use Rattle.clock.specs.Times.{limit, zero_time, is_before, tick_of}
use Rattle.clock.proofs.Order as order
use Rattle.clock.proofs.Ticks as ticks
use Rattle.server_log.specs.declared.Entry.{Entry}
use Rattle.server_log.specs.declared.Log.{Log}
use Rattle.server_log.specs.Entries.{same_entry, entry_at, common_beginning, latest_value}
use Rattle.server_log.specs.Logs.{live, length_of, joined, may_ask}
use Rattle.server_log.specs.Order.{highest_key}
use Rattle.server_log.specs.Ranges.{FitsEntry}
use Rattle.server_log.proofs.Common as common
use Rattle.server_log.proofs.Equal as equal
use Rattle.server_log.specs.Rows.{value_for}
use Rattle.server_log.proofs.Latest as latest
use Rattle.cluster.specs.declared.Server.{Server}
use Rattle.cluster.specs.Sets.{bits, members_of, votes, voters, voters_with, most_of}
use Rattle.cluster.proofs.Good as facts
use Rattle.cluster.proofs.Masks as masks
use Rattle.steps.specs.declared.Step.TheVariants.{Start, Elect, Pulls, RollsBack, Writes, Acknowledged, ClocksAgree, WritesNothing, NewestRead, TakesReport}
use Rattle.steps.specs.Answers.{number_of, Telling}
use Rattle.steps.proofs.Positions as numbers
use Rattle.wholes.specs.Starts.{start_rules}
use Rattle.counts.specs.Advances.{passes, highest_passing}
use Rattle.counts.proofs.Passing as passing
use Rattle.reads.specs.LocalRead.{local_read_of}
use Rattle.reads.specs.MajorityRead.{covered, majority_read_of}
use Rattle.reads.specs.Lists.{whole_list, committed_list}
use Rattle.reads.proofs.Walks as walks
use Rattle.hex_text.specs.Digits.{radix, digit_of, char_of}
use Rattle.hex_text.specs.Lines.{chars}
use Rattle.hex_text.proofs.Values as values
use Rattle.words.specs.Words.{high_of, low_of, word_of}
use Rattle.words.proofs.Bytes as bytes
use Rattle.frames.specs.Kinds.{kinds, must_be_zero, is_table}
use Rattle.frames.specs.Layout.{step_bytes}
use Rattle.frames.proofs.Lengths as step_lengths
use Rattle.frames.proofs.Table as tables
use Rattle.answers.specs.Answers.{answer_bytes}
use Rattle.answers.proofs.Lengths as answer_lengths
use Rattle.mail.specs.Mails.{note_at, with_notes, with_queue}
use Rattle.cluster.specs.declared.Cluster.{Cluster}
use Rattle.cluster.specs.Ranges.{Fits}
use Rattle.cluster.specs.Servers.{with_term, with_primary, with_wall, with_head, with_mail, server_at, server_count, fresh_cluster, most_servers}
use Rattle.cluster.specs.WellFormed.{size_ok, well_formed}
use Rattle.cluster.proofs.Fresh.{well_formed_fresh, fits_fresh}
use Rattle.steps.specs.declared.Answer.{Answer}
use Rattle.steps.specs.declared.Answer.TheVariants as A
use Rattle.steps.specs.declared.Frame.{Frame}
use Rattle.steps.specs.declared.Outcome.{Outcome}
use Rattle.steps.specs.declared.Refusal.{Refusal}
use Rattle.steps.specs.declared.Refusal.TheVariants.{IllFormed, OutOfRange, Retired}
use Rattle.steps.specs.declared.Step.{Step}
use Rattle.steps.specs.Answers.{refusing, refusing_all, is_refused}
use Rattle.steps.specs.Ranges.{FitsStep}
use Rattle.steps.specs.Reasons.{Clear, Broken, Applies, rank_of, here, later}
use Rattle.steps.specs.Refusals.{decided}
use Rattle.singles.specs.Appends.{append_rules, append_done}
use Rattle.singles.specs.Writes.{writes_of}
use Rattle.singles.proofs.ZeroTime as zero_time
use Rattle.rules.specs.Rules.{is_start, row_of, rules_of, done_of, step_of}
use Rattle.rules.specs.Statements.{Why, touches, Differs, refuses_each, says_one, leaves_all, echoes_later}
use Rattle.rules.specs.Stamped.{Stamped}
use Rattle.rules.proofs.step.Reads as step_contract
use Rattle.rules.proofs.Outcomes as outcomes
use Rattle.rules.proofs.Ranks as ranks
use Rattle.rules.proofs.Others as others
use Rattle.rules.proofs.Keeps as keeps
use Rattle.rules.proofs.Shut as shut
use Rattle.rules.proofs.Stamped as stamped
use Rattle.rules.proofs.Results as rules_results
use Rattle.std.proofs.Common.{Option, Some, None, Result, Ok, Err}
use Rattle.frames.specs.Steps.{read_step, write_frame, write_step}
use Rattle.frames.proofs.read_step.Reads as read_step_contract
use Rattle.frames.proofs.write_step.Reads as write_step_contract
use Rattle.frames.proofs.write_frame.Reads as write_frame_contract
use Rattle.frames.proofs.Steps as frames
use Rattle.frames.proofs.Results as frames_results
use Rattle.answers.specs.Answers.{read_answer, write_answer, write_telling}
use Rattle.answers.specs.Ranges.{FitsTelling}
use Rattle.answers.proofs.read_answer.Reads as read_answer_contract
use Rattle.answers.proofs.write_answer.Reads as write_answer_contract
use Rattle.answers.proofs.Answers as tellings
use Rattle.answers.proofs.Results as answers_results
use Rattle.fits.proofs.record_fits.Reads as record_fits_contract
use Rattle.fits.proofs.step_fits.Reads as step_fits_contract
use Rattle.replay.specs.declared.Fed.{Fed}
use Rattle.replay.specs.declared.Finished.{Finished}
use Rattle.replay.specs.declared.Session.{Session}
use Rattle.replay.specs.Texts.{record_after, answers, leaves, answer_to}
use Rattle.lines.specs.Texts.{line_feed, lines, together, placed, rest_after}
use Rattle.lines.specs.Turns.{End, DrainsBy}
use Rattle.lines.specs.Held.{too_long}
use Rattle.lines.specs.Readers.{Reader, width, fresh_reader, line_held, push_of, reader_after, reader_over, reader_for}
use Rattle.lines.specs.contracts.take as take_contract
use Rattle.lines.proofs.Readers as readers
use Rattle.lines.proofs.Results as lines_results
use Rattle.replay.specs.Lent.{FedOn}
use Rattle.replay.specs.Pieces.{begun, runs, says, runs_all, says_all, ending, ended, fed_of, fed_out, finish_of, finish_out}
use Rattle.replay.specs.contracts.feed as feed_contract
use Rattle.replay.specs.contracts.finish as finish_contract
use Rattle.replay.proofs.pour.Reads as pour_contract
use Rattle.replay.proofs.close.Reads as close_contract
use Rattle.replay.proofs.Refused as refused
use Rattle.replay.proofs.Whole as whole
use Rattle.replay.proofs.Parts as parts
use Rattle.replay.proofs.Shown as shown
use Rattle.replay.proofs.Results as replay_results
use Rattle.orders.specs.declared.Orders.{Orders}
use Rattle.orders.specs.Orders.{orders_in}
use Rattle.orders.proofs.orders_in.Reads as orders_in_contract
use Rattle.shell.proofs.Contracts as program
use Rattle.shell.proofs.Loop as loop
use Rattle.histories.specs.declared.PhoneRecord.{PhoneRecord}
use Rattle.histories.specs.declared.Checked.{Checked}
use Rattle.histories.specs.declared.Checked.TheVariants as checking
use Rattle.histories.specs.Committed.{Committed, entries_of, could_hold}
use Rattle.histories.specs.Lending.{lent_by}
use Rattle.histories.specs.declared.committed.Columns.{Columns}
use Rattle.histories.specs.Checking.{record_at, check_of}
use Rattle.histories.specs.Reasons.{why_of, Because}
use Rattle.histories.specs.declared.why.Reason.{Reason}
use Rattle.histories.specs.Obeying.{CheckSays, Together, LogFits, HeldBy}
use Rattle.histories.specs.contracts.check as check_contract
use Rattle.histories.proofs.kept.check_first.Reads as check_first_contract
use Rattle.histories.proofs.Holding as holding
use Rattle.histories.proofs.Judged as judged
use Rattle.followed.specs.declared.Run.{Run}
use Rattle.followed.specs.Follow.{Following, followed_by, finished_run}
use Rattle.followed.proofs.follow.Reads as follow_contract
use Rattle.followed.proofs.finish.Reads as follow_finish_contract
use Rattle.phones.specs.declared.Listed.{Listed}
use Rattle.phones.specs.Listed.{Listing, listed_by, finished_list}
use Rattle.phones.proofs.list.Reads as list_contract
use Rattle.phones.proofs.finish.Reads as list_finish_contract
use Rattle.verdicts.specs.declared.Verdict.{Verdict}
use Rattle.verdicts.specs.Verdicts.{verdict_of}
use Rattle.verdicts.proofs.judge.Reads as judge_contract
use Rattle.verdicts.proofs.reason.Reads as reason_contract
use Rattle.histories.proofs.Exactly as exactly
use Rattle.histories.proofs.Reasons as reasons
use Rattle.histories.proofs.Results as checked
use borrow.Author.Tests.{le-ltb, lt-ltb, le-leb, ne_eqb}
use native.Mathlib.Omega.{arith}
use Rattle.saved.specs.declared.NotSaved.{NotSaved}
use Rattle.saved.specs.declared.NotSaved.TheVariants as saving
use Rattle.saved.specs.Editions.{Edition, edition1, edition2, edition3, editions, newest, has_form}
use Rattle.saved.specs.Saved.{all_frames, text_of, save_of}
use Rattle.saved.specs.Shape.{named_in, shaped}
use Rattle.saved.specs.Written.{longest, saved_as_of, saved_as_out, saved_of, saved_out}
use Rattle.saved.proofs.Allowed as allowed
use Rattle.saved.proofs.Lawful as lawful
use Rattle.saved.proofs.Frames as saved_frames
use Rattle.saved.proofs.save_as.Reads as save_as_contract
use Rattle.saved.proofs.save.Reads as save_contract
use Rattle.shapes.specs.declared.Shape.{Shape}
use Rattle.shapes.specs.Walk.{fresh_shape, walked_for, walked, is_shaped, AtOnce}
use Rattle.shapes.proofs.Next as knowing
use Rattle.shapes.proofs.Told as shapes
use Rattle.shapes.proofs.Named as named
use Rattle.loads.specs.Loads.{loaded, load_of}
use Rattle.loads.specs.Statements.{Finds, LoadsExactly, NoFrameExactly, IllFormedExactly, LoadsOrRefuses, UnknownIsRefused, GivesBackIn, GivesBack, OneEach, MeansTheSame, NoFollowers, OverIsRefused, OldRefusesNew}
use Rattle.loads.proofs.Loads as loads
use Rattle.loads.proofs.load.Reads as load_contract
use Rattle.promises.specs.Runs.{LeadsTo, FromFresh}
use Rattle.promises.specs.Demand3.{first_of, Kept, Demand3Promised}
use Rattle.promises.specs.Newest.{TakenIn, NewestPromised}
use Rattle.promises.specs.Clocks.{ClocksPromised}
use Rattle.promises.specs.Longest.{LongestPromised}
use Rattle.promises.specs.Honest.{record_of_write, Made, HonestPromised}
use Rattle.promises.specs.Texts.{a_line, taken_all, TextsAreRuns, RunsAreTexts}
use Rattle.promises.specs.Written.{Never9Written, RefusedBeforeAStart, CarriedInTexts}
use Rattle.promises.specs.Verdicts.{VerdictPromised}
use Rattle.promises.proofs.Turns as turns
use Rattle.promises.proofs.Demand3 as demand3
use Rattle.promises.proofs.Newest as newest
use Rattle.promises.proofs.Clocks as clocks
use Rattle.promises.proofs.Longest as longest
use Rattle.promises.proofs.Honest as honest
use Rattle.promises.proofs.Texts as texts
use Rattle.promises.proofs.Written as written
use Rattle.promises.proofs.Evenings as evenings
use Rattle.promises.proofs.Verdicts as verdicts
use Rattle.promises.proofs.RoofExample as roof
use Rattle.promises.proofs.NewestExample as overtaken
use Rattle.promises.proofs.StaleExample as stale
use Rattle.promises.proofs.PhonesExample as phones
use Rattle.traces.specs.declared.CutLine.{CutLine}
use Rattle.traces.specs.declared.Pair.{Pair}
use Rattle.traces.specs.Pairs.{pair_line}
use Rattle.traces.specs.Writing.{nothing_kept, kept_over, text_in, pair_made}
use Rattle.traces.proofs.keep.Reads as keep_contract
use Rattle.traces.proofs.pair_line.Reads as pair_line_contract
use Rattle.traces.proofs.Keeping as traces
use Rattle.trails.specs.declared.Wanted.{Wanted}
use Rattle.trails.specs.declared.Lined.{Lined}
use Rattle.trails.specs.declared.follow.Trail.{Trail}
use Rattle.trails.specs.Traces.{form_by, change_of, trace_of}
use Rattle.trails.specs.Reading.{answers_in}
use Rattle.trails.specs.Bytes.{lined_of, lined_out, begun_trail, trail_over, shown_over, shown_last, ended_trail}
use Rattle.trails.proofs.put_line.Reads as put_line_contract
use Rattle.trails.proofs.Following as trails
use Rattle.trails.proofs.ReadBack as read_back
use Rattle.trails.proofs.Facts as trace_facts
use Rattle.plans.specs.declared.Planned.{Planned}
use Rattle.plans.specs.Moves.{NoneRefused}
use Rattle.plans.specs.Plan.{plan_for}
use Rattle.plans.specs.Making.{no_frames, planned_of}
use Rattle.plans.proofs.plan.Reads as plan_contract
use Rattle.plans.proofs.Given as plans
use Rattle.plans.proofs.Results as plans_results
use Rattle.recovery.specs.Promise.{Recovers, RecoveryPromised, OnlyNine}
use Rattle.recovery.proofs.Recovered as recovery
use Rattle.recovery.proofs.Example as night
use Rattle.twelve.specs.Table.{all, row_holds, table}
use Rattle.twelve.proofs.Twelve as twelve

-- ---- demands 1 and 2: the step

-- the step that runs is 01's, for every record and every step
pub step_is : (c : Cluster) (s : Step) (r : Outcome) → step_contract.Learnt tt (c, (s, tt)) r (c, (s, tt)) → r ≡ step_of c s
step_is c s r e = e

-- allowed, so done, and what is done is no refusal
pub allowed_is_done : (c : Cluster) (s : Step) → (is_start s || well_formed c) ≡ true → Clear (rules_of c s) → step_of c s ≡ done_of c s
allowed_is_done = outcomes.step_done

pub done_is_no_refusal : (c : Cluster) (s : Step) (r : Refusal) → (done_of c s).answer ≡ A.Refused r → ⊥
done_is_no_refusal = outcomes.done_no_refusal

-- forbidden, so refused
pub forbidden_is_refused : (c : Cluster) (s : Step) (r : Refusal) → (is_start s || well_formed c) ≡ true → Broken (rules_of c s) r
    → step_of c s ≡ refusing_all c r
forbidden_is_refused = outcomes.step_refused

pub ill_formed_is_refused : (c : Cluster) (s : Step) → (is_start s || well_formed c) ≡ false → step_of c s ≡ refusing_all c IllFormed
ill_formed_is_refused = outcomes.step_ill_formed

-- refused, so forbidden: by the first rule that is broken
pub refused_for_its_reason : (c : Cluster) (s : Step) (r : Refusal) → (step_of c s).answer ≡ A.Refused r → Why c s r
refused_for_its_reason = outcomes.refused_why

-- and that is the first that applies, by one order for all kinds
pub first_refusal : (c : Cluster) (s : Step) (r : Refusal) → (step_of c s).answer ≡ A.Refused r → (q : Refusal) → Applies (rules_of c s) q → rank_of r ≤ rank_of q
first_refusal = ranks.first_given

-- a refusal changes nothing, of a step or of a line
pub refusal_changes_nothing : (c : Cluster) (s : Step) (r : Refusal) → (step_of c s).answer ≡ A.Refused r → (step_of c s).cluster ≡ c
refusal_changes_nothing = outcomes.refused_unchanged

pub refused_line_changes_nothing : (c : Cluster) (line : List ℕ) (r : Refusal) → (answer_to c line).answer ≡ A.Refused r → (answer_to c line).cluster ≡ c
refused_line_changes_nothing = refused.refused_line

-- what a row doesn't name is unchanged
pub others_unchanged : (c : Cluster) (s : Step) (i : ℕ) → touches c s i ≡ false → server_at (step_of c s).cluster i ≡ server_at c i
others_unchanged = others.others_unchanged

pub size_unchanged : (c : Cluster) (s : Step) → is_start s ≡ false
    → ((step_of c s).cluster.count ≡ c.count) × ((step_of c s).cluster.followers ≡ c.followers)
size_unchanged = others.size_unchanged

-- a step keeps a record well formed and in the types' ranges; the fresh cluster is both
pub step_keeps_well_formed : (c : Cluster) (s : Step) → Fits c → FitsStep s → well_formed c ≡ true → well_formed (step_of c s).cluster ≡ true
step_keeps_well_formed = keeps.step_well_formed

pub step_keeps_ranges : (c : Cluster) (s : Step) → Fits c → FitsStep s → Fits (step_of c s).cluster
step_keeps_ranges = keeps.step_fits

pub fresh_is_well_formed : (n f : ℕ) → size_ok n f ≡ true → well_formed (fresh_cluster n f) ≡ true
fresh_is_well_formed = well_formed_fresh

pub fresh_is_in_range : (n f : ℕ) → n ≤ most_servers → f < byte → Fits (fresh_cluster n f)
fresh_is_in_range = fits_fresh

-- every record and every step of the types is in range
pub records_fit : (c : Cluster) → record_fits_contract.Learnt tt (c, tt) true (c, tt) → Fits c
records_fit c e = e.1

pub steps_fit : (s : Step) → step_fits_contract.Learnt tt (s, tt) true (s, tt) → FitsStep s
steps_fit s e = e.1

-- the four programs that 01 wants shut out differ from the step
pub refusing_every_step_differs : (r : Refusal) → Differs (refuses_each r)
refusing_every_step_differs = shut.refuses_each_lem

pub one_answer_differs : (a : Answer) → Differs (says_one a)
one_answer_differs = shut.says_one_lem

pub leaving_the_record_differs : Differs leaves_all
leaving_the_record_differs = shut.leaves_all_lem

pub echoing_later_differs : Differs echoes_later
echoing_later_differs = shut.echoes_later_lem

-- 01's twelve
pub the_twelve_hold : all row_holds table ≡ true
the_twelve_hold = twelve.all_hold

-- ---- demand 2: one fixed layout

-- the frames that are read and written are those of the layout
pub read_step_is : (κs : Lfts 1) (line : Bor (List ℕ)) (r : Option Step) → read_step_contract.Learnt κs (line, tt) r (line, tt) → r ≡ read_step line.now
read_step_is κs line r e = e

pub write_step_is : (s : Step) (r : List ℕ) → write_step_contract.Learnt tt (s, tt) r (s, tt) → r ≡ write_step s
write_step_is s r e = e

pub write_frame_is : (f : Frame) (r : List ℕ) → write_frame_contract.Learnt tt (f, tt) r (f, tt) → r ≡ write_frame f
write_frame_is f r e = e

pub read_answer_is : (κs : Lfts 1) (line : Bor (List ℕ)) (r : Option Telling) → read_answer_contract.Learnt κs (line, tt) r (line, tt)
    → r ≡ read_answer line.now
read_answer_is κs line r e = e

pub write_answer_is : (a : Answer) (r : List ℕ) → write_answer_contract.Learnt tt (a, tt) r (a, tt) → r ≡ write_answer a
write_answer_is a r e = e

-- reading a written frame gives it back, and one step, or one answer, has one frame
pub step_round_trip : (s : Step) → FitsStep s → read_step (write_step s) ≡ Some s
step_round_trip = frames.read_written_step

pub one_frame_a_step : (line : List ℕ) (s : Step) → read_step line ≡ Some s → write_step s ≡ line
one_frame_a_step = frames.written_read_step

pub answer_round_trip : (t : Telling) → FitsTelling t → read_answer (write_telling t) ≡ Some t
answer_round_trip = tellings.read_written_telling

pub one_frame_an_answer : (line : List ℕ) (t : Telling) → read_answer line ≡ Some t → write_telling t ≡ line
one_frame_an_answer = tellings.written_read_telling

-- ---- demand 1: any text

-- a piece of a text, and its end, are answered as defined, whatever the buffer: by a caller's reader that is lent, and by a session that lends its own;
-- and so is each byte
pub take_is : {M : Type 1} {𝓤 : Ura M} (𝓛 : Logic 𝓤) (at_mem : Memory → SProp 𝓤) (run : Routine → Fun 𝓤) (κ : Lft) (r o : MutBor Reader) (b : ℕ)
    → (take_contract.clauses 𝓛 at_mem run (κ, tt) (r, (b, tt))).ensures tt tt (o, (b, tt)) ≡ fact 𝓤 (o.now ≡ reader_after r.now b)
take_is 𝓛 at_mem run κ r o b = lines_results.take_says r b 𝓛 at_mem run κ o

pub feed_is : {M : Type 1} {𝓤 : Ura M} (𝓛 : Logic 𝓤) (at_mem : Memory → SProp 𝓤) (run : Routine → Fun 𝓤) (κs : Lfts 3) (c : Cluster) (r q : MutBor Reader)
    (text : Bor (List ℕ)) (out o : MutBor (List ℕ)) (f : Fed) → let g = fed_of (record { cluster = c; reader = r.now }) text.now (length out.now) in
    (feed_contract.clauses 𝓛 at_mem run κs (c, (r, (text, (out, tt))))).ensures tt f (c, (q, (text, (o, tt))))
    ≡ sep 𝓤 (fact 𝓤 (f ≡ g)) (sep 𝓤 (fact 𝓤 (q.now ≡ g.session.reader)) (fact 𝓤 (o.now ≡ fed_out (record { cluster = c; reader = r.now }) text.now out.now)))
feed_is 𝓛 at_mem run κs c r q text out o f = replay_results.feed_says c r out text 𝓛 at_mem run κs f q o

pub finish_is : {M : Type 1} {𝓤 : Ura M} (𝓛 : Logic 𝓤) (at_mem : Memory → SProp 𝓤) (run : Routine → Fun 𝓤) (κs : Lfts 2) (c : Cluster) (r q : MutBor Reader)
    (out o : MutBor (List ℕ)) (f : Finished) → let g = finish_of (record { cluster = c; reader = r.now }) (length out.now) in
    (finish_contract.clauses 𝓛 at_mem run κs (c, (r, (out, tt)))).ensures tt f (c, (q, (o, tt)))
    ≡ sep 𝓤 (fact 𝓤 (f ≡ g)) (sep 𝓤 (fact 𝓤 (q.now ≡ g.session.reader)) (fact 𝓤 (o.now ≡ finish_out (record { cluster = c; reader = r.now }) out.now)))
finish_is 𝓛 at_mem run κs c r q out o f = replay_results.finish_says c r out 𝓛 at_mem run κs f q o

pub pour_is : (κs : Lfts 2) (s : Session) (text : Bor (List ℕ)) (out o : MutBor (List ℕ)) (r : Fed) → pour_contract.Learnt κs (s, (text, (out, tt))) r (s, (text, (o, tt)))
    → (r ≡ fed_of s text.now (length out.now)) × (o.now ≡ fed_out s text.now out.now)
pour_is κs s text out o r e = e

pub close_is : (κs : Lfts 1) (s : Session) (out o : MutBor (List ℕ)) (r : Finished) → close_contract.Learnt κs (s, (out, tt)) r (s, (o, tt))
    → (r ≡ finish_of s (length out.now)) × (o.now ≡ finish_out s out.now)
close_is κs s out o r e = e

-- however a text is cut, what is said with the end is its answers, and the record is the one that it leaves
pub any_pieces_say : (c : Cluster) (xs : List (List ℕ)) → says_all (begun c) xs ++ ending (runs_all (begun c) xs) ≡ answers c (together xs)
any_pieces_say = whole.any_pieces

pub any_pieces_leave : (c : Cluster) (xs : List (List ℕ)) → ended (runs_all (begun c) xs) ≡ leaves c (together xs)
any_pieces_leave = whole.any_pieces_record

-- and so it is where a caller lends its reader for one piece after the other
pub lent_pieces_say : (c : Cluster) (xs : List (List ℕ)) (d : Session) (all : List ℕ) → FedOn (begun c) xs d all → all ++ ending d ≡ answers c (together xs)
lent_pieces_say = parts.lent_say

pub lent_pieces_leave : (c : Cluster) (xs : List (List ℕ)) (d : Session) (all : List ℕ) → FedOn (begun c) xs d all → ended d ≡ leaves c (together xs)
lent_pieces_leave = parts.lent_leave

-- the end leaves a fresh reader; where it has no room for its answer, all stays as it was
pub an_end_leaves_a_fresh_reader : (s : Session) (room : ℕ) → (finish_of s room).ended ≡ true → (finish_of s room).session.reader ≡ fresh_reader
an_end_leaves_a_fresh_reader = parts.end_fresh

pub an_end_without_room_waits : (s : Session) (room : ℕ) → (finish_of s room).ended ≡ false → (finish_of s room).session ≡ s
an_end_without_room_waits = parts.end_waits

-- a reader has one form for each part of a line: it is told by what stands after the last line feed; from there each byte leads to such a form, and
-- so does a line that is too long from any reader at all; nothing of a reader shows but the line that it holds
pub one_reader_a_part : (text : List ℕ) → reader_over fresh_reader text ≡ reader_for (rest_after [] text)
one_reader_a_part = readers.one_reader

pub a_form_leads_to_a_form : (p : List ℕ) (b : ℕ) → reader_after (reader_for p) b ≡ reader_for (rest_after p (b ∷ []))
a_form_leads_to_a_form p b = readers.reader_form p (b ∷ [])

pub too_long_has_its_form : (r : Reader) (b : ℕ) → (r.over ≡ true) ⊎ (width ≤ r.fill) → push_of r b ≡ reader_for (too_long width)
too_long_has_its_form = readers.long_form

pub only_the_line_is_said : (c : Cluster) (r q : Reader) (text : List ℕ) → length r.held ≡ width → length q.held ≡ width → line_held r ≡ line_held q
    → says (record { cluster = c; reader = r }) text ++ ending (runs (record { cluster = c; reader = r }) text)
    ≡ says (record { cluster = c; reader = q }) text ++ ending (runs (record { cluster = c; reader = q }) text)
only_the_line_is_said = shown.only_line_said

pub only_the_line_is_left : (c : Cluster) (r q : Reader) (text : List ℕ) → length r.held ≡ width → length q.held ≡ width → line_held r ≡ line_held q
    → ended (runs (record { cluster = c; reader = r }) text) ≡ ended (runs (record { cluster = c; reader = q }) text)
only_the_line_is_left = shown.only_line_left

-- the orders are those of the text that was read, whatever it is
pub orders_are : (κs : Lfts 1) (text : Bor (List ℕ)) (r : Option Orders) → orders_in_contract.Learnt κs (text, tt) r (text, tt) → r ≡ orders_in text.now
orders_are κs text r e = e

-- the program's own functions do with a piece, a turn, a whole input, a text that is loaded and a run as ordered what their definitions say
pub the_program_is_as_defined : program.ProgramIs
the_program_is_as_defined = program.program_is

-- the program's loop goes through some pieces, whose answers and record those are
pub program_says : (c : Cluster) (s : Session) (e : End) (d : DrainsBy runs (begun c) s e) → says_all (begun c) d.pieces ++ ending s ≡ answers c (together d.pieces)
program_says = loop.drained_says

pub program_leaves : (c : Cluster) (s : Session) (e : End) (d : DrainsBy runs (begun c) s e) → ended s ≡ leaves c (together d.pieces)
program_leaves = loop.drained_record

-- ---- demand 3

-- in every run from a fresh cluster, whatever happens between
pub demand_3 : Demand3Promised
demand_3 = demand3.demand_3

-- ---- the read that is sure to be newest

pub the_newest_read : NewestPromised
the_newest_read = newest.newest_read

-- it is no empty promise: in a run from a fresh cluster such a read is answered, after a change of primaries; and a primary that has been
-- overtaken appends its entry, and whatever happens after that, a read up to there is answered nowhere
pub a_newest_read_is_answered : FromFresh overtaken.end × ((step_of overtaken.end (NewestRead 1 5 2 2)).answer ≡ A.Value 41 (record { p = 1; l = 1 }))
a_newest_read_is_answered = (overtaken.from_fresh_end, overtaken.answered)

pub it_takes_in_build_41 : TakenIn roof.moment overtaken.end 0 1 overtaken.reading
it_takes_in_build_41 = overtaken.taken_in

pub an_overtaken_primary_appends : (step_of overtaken.behind (WritesNothing 0)).answer ≡ A.Entry 1 1 (record { p = 1; l = 0 })
an_overtaken_primary_appends = overtaken.appends

pub an_overtaken_primary_is_never_answered : (y : Cluster) → LeadsTo (step_of overtaken.behind (WritesNothing 0)).cluster y → (q key v : ℕ) (t : Time)
    → (step_of y (NewestRead q key 1 1)).answer ≢ A.Value v t
an_overtaken_primary_is_never_answered = overtaken.never_answered

-- ---- runs and the program's texts

-- what a program is given from a start line on is a run, with savings between texts too, and every run is a text: so what is promised of runs
-- is promised of texts, and nothing else is
pub texts_are_runs : TextsAreRuns
texts_are_runs = texts.texts_are_runs

pub lines_are_given : (c : Cluster) (ls : List (List ℕ)) → taken_all c (map a_line ls) ≡ record_after c ls
lines_are_given = texts.lines_are_given

pub runs_are_texts : RunsAreTexts
runs_are_texts = texts.runs_are_texts

-- refusal 9 is never written, and nothing but refusals before the first start
pub refusal_9_is_never_written : Never9Written
refusal_9_is_never_written = written.never_9_written

pub refused_before_a_start : RefusedBeforeAStart
refused_before_a_start = written.refused_before_a_start

-- ---- no more ticks by counting

-- a count above 0 is refused with 12, whatever the servers hold, where the numbers are in range
pub a_count_is_retired : (c : Cluster) (a count n term : ℕ) → well_formed c ≡ true → a < server_count c → 1 ≤ count → count ≤ server_count c
    → may_ask n term ≡ true → step_of c (Acknowledged a count n term) ≡ refusing_all c Retired
unfolding row_of
a_count_is_retired c a count n term w l o m k =
    outcomes.step_refused c (Acknowledged a count n term) Retired w
    (later (lt-ltb a (server_count c) l) (later (le-leb count (server_count c) m) (later k (here (ne_eqb count 0 (λ z. omega (arith, o, z)))))))

-- ---- saving and loading

-- a well-formed record's saved form is written where the longest has room, an ill-formed one is refused with 2, and else the buffer is as it was
pub save_is : (κs : Lfts 1) (c : Cluster) (out o : MutBor (List ℕ)) (r : Result ℕ NotSaved) → save_contract.Learnt κs (c, (out, tt)) r (c, (o, tt))
    → (r ≡ saved_of c (length out.now)) × (o.now ≡ saved_out c out.now)
save_is κs c out o r e = e

pub a_record_is_saved : (c : Cluster) (out : List ℕ) → well_formed c ≡ true → longest ≤ length out
    → (saved_of c (length out) ≡ Ok (length (save_of c))) × (saved_out c out ≡ placed out 0 (save_of c))
unfolding saved_of saved_out
a_record_is_saved c out w l = (rw (w, le-ltb (length out) longest l), rw (w, le-ltb (length out) longest l))

pub an_ill_formed_record_is_not : (c : Cluster) (out : List ℕ) → well_formed c ≡ false → (saved_of c (length out) ≡ Err (saving.Refused IllFormed)) × (saved_out c out ≡ out)
unfolding saved_of saved_out
an_ill_formed_record_is_not c out w = (rw w, rw w)

pub no_saved_form_is_longer : (c : Cluster) → Fits c → well_formed c ≡ true → length (save_of c) ≤ longest
unfolding save_of
no_saved_form_is_longer c f w = saved_frames.saved_length c f w (newest).number

-- in an edition that is known a record is saved where that has a form for it, and the newest has one for every well-formed record
pub save_as_is : (κs : Lfts 1) (n : ℕ) (c : Cluster) (out o : MutBor (List ℕ)) (r : Result ℕ NotSaved) → save_as_contract.Learnt κs (n, (c, (out, tt))) r (n, (c, (o, tt)))
    → (r ≡ saved_as_of n c (length out.now)) × (o.now ≡ saved_as_out n c out.now)
save_as_is κs n c out o r e = e

pub the_newest_has_a_form : (c : Cluster) → has_form newest c ≡ well_formed c
the_newest_has_a_form = allowed.newest_form

-- what a text loads to, or is refused with, is decided by its edition, the saved form there and the shape
pub load_is : (κs : Lfts 1) (c : Cluster) (text : Bor (List ℕ)) (r : Outcome) → load_contract.Learnt κs (c, (text, tt)) r (c, (text, tt)) → r ≡ load_of c text.now
load_is κs c text r e = e

pub loads_exactly : LoadsExactly editions
loads_exactly = loads.loads_exactly editions knowing.reads_all

pub refused_with_1_exactly : NoFrameExactly editions
refused_with_1_exactly = loads.no_frame_exactly editions knowing.reads_all

pub refused_with_2_exactly : IllFormedExactly editions
refused_with_2_exactly = loads.ill_formed_exactly editions knowing.reads_all

pub loads_or_refuses : LoadsOrRefuses editions
loads_or_refuses = loads.loads_or_refuses editions knowing.reads_all

pub an_unknown_edition_is_refused : UnknownIsRefused editions
an_unknown_edition_is_refused = loads.unknown_is_refused editions knowing.reads_all

pub reading_gives_back : GivesBack
reading_gives_back = loads.gives_back

pub in_each_edition : GivesBackIn editions
in_each_edition = loads.gives_back_in editions knowing.reads_all

pub all_are_found : Finds editions edition1 × Finds editions edition2 × Finds editions edition3
all_are_found = (loads.finds_1, loads.finds_2, loads.finds_3)

pub one_saved_form_each : OneEach edition1 × OneEach edition2 × OneEach edition3
one_saved_form_each = (
  loads.one_each edition1 lawful.lawful1 (omega arith),
  loads.one_each edition2 lawful.lawful1 (omega arith),
  loads.one_each edition3 lawful.lawful3 (omega arith),
)

-- editions 1 and 2 mean what they meant, and no followers; a reader of them alone is as exact, and refuses what is newer in its first line, whatever follows
abbrev earlier : List Edition
earlier = edition1 ∷ edition2 ∷ []

pub edition_1_means_the_same : MeansTheSame (edition1 ∷ []) edition1 × MeansTheSame earlier edition1
edition_1_means_the_same = (loads.means_the_same (edition1 ∷ []) edition1 refl refl, loads.means_the_same earlier edition1 refl refl)

pub edition_2_means_the_same : MeansTheSame earlier edition2
edition_2_means_the_same = loads.means_the_same earlier edition2 refl refl

pub they_mean_no_followers : NoFollowers edition1 × NoFollowers edition2
they_mean_no_followers = (loads.no_followers edition1 loads.finds_1 refl, loads.no_followers edition2 loads.finds_2 refl)

pub old_loads_exactly : LoadsExactly (edition1 ∷ []) × LoadsExactly earlier
old_loads_exactly = (loads.loads_exactly (edition1 ∷ []) knowing.reads_old, loads.loads_exactly earlier knowing.reads_earlier)

pub over_edition_1_is_refused : OverIsRefused
over_edition_1_is_refused = loads.over_is_refused

pub old_refuses_new : OldRefusesNew (edition1 ∷ []) edition2 × OldRefusesNew earlier edition3
old_refuses_new = (loads.old_refuses_new (edition1 ∷ []) edition2 knowing.reads_old refl, loads.old_refuses_new earlier edition3 knowing.reads_earlier refl)

pub in_its_first_line : (line rest : List ℕ) → ((i : ℕ) → i < length line → get_or line i 0 ≢ line_feed) → named_in line ≡ edition3.number
    → AtOnce (walked_for earlier fresh_shape (line ++ (line_feed ∷ rest)))
in_its_first_line line rest h n = named.unknown_at_once earlier knowing.reads_earlier line rest h (rw n)

-- the shape is told in whatever pieces the text arrives
pub the_shape_is_told : (text : List ℕ) → is_shaped (walked fresh_shape text) ≡ shaped text
the_shape_is_told = shapes.told

pub in_any_pieces : (s : Shape) (x y : List ℕ) → walked s (x ++ y) ≡ walked (walked s x) y
in_any_pieces = shapes.walked_append editions

-- what is saved of a record that comes from fresh loads, and gives it back; a text over it is answered as if it had come at once
pub a_saving_gives_back : (c d : Cluster) → FromFresh c → load_of d (save_of c) ≡ loaded c
a_saving_gives_back = turns.saved_and_loaded

pub lines_carried_on : CarriedInTexts
lines_carried_on = evenings.carried_in_texts

-- ---- phones carry a clock

-- the time of a write that is answered is after the client's and after the cluster time before; it is the new cluster time and the entry's, and
-- the wall clock doesn't move
pub a_write_is_after_its_client : (c : Cluster) → Fits c → (a key value : ℕ) (client : Time) (n term : ℕ) (t : Time)
    → (step_of c (Writes a key value client)).answer ≡ A.Entry n term t → Stamped c (step_of c (Writes a key value client)).cluster a client t
a_write_is_after_its_client = stamped.written

-- a client's time (0,0) is the old meaning: the write of a server that goes by its own clocks
pub no_time_is_the_old_write : (s : Server) (key value : ℕ) → let now = s.head.time in
    writes_of s key value zero_time
    ≡ decided (refusing s) (append_done s key value now) ((leb key highest_key, OutOfRange) ∷ (leb 1 value, OutOfRange) ∷ append_rules s now)
no_time_is_the_old_write = zero_time.zero_time_lem

-- no broken phone pushes the clocks to their end: no time is more than 600 above the greatest wall clock, and wall clocks never fall
pub no_phone_pushes_the_clocks : ClocksPromised
no_phone_pushes_the_clocks = clocks.clocks_held

-- ---- what the phones saw

-- the check that runs is the definition, whatever records and log are lent, and however they are kept; so are the run that is followed, the
-- list that is read, the verdict, and the rule that is told
pub check_is : {M : Type 1} {𝓤 : Ura M} (𝓛 : Logic 𝓤) (at_mem : Memory → SProp 𝓤) (run : Routine → Fun 𝓤) (κs : Lfts 2)
    (records : Bor (List PhoneRecord)) (log : Columns) (r : Checked)
    → (check_contract.clauses 𝓛 at_mem run κs (records, (log, tt))).ensures tt r (records, (log, tt))
    ≡ fact 𝓤 (r ≡ check_of records.now (lent_by log))
check_is 𝓛 at_mem run κs records log r = checked.check_says records log 𝓛 at_mem run κs r

pub check_first_is : (κs : Lfts 1) (records : List PhoneRecord) (n : ℕ) (log : Columns) (r : Checked)
    → check_first_contract.Learnt κs (records, (n, (log, tt))) r (records, (n, (log, tt)))
    → r ≡ check_of (take n records) (lent_by log)
check_first_is κs records n log r e = e

pub follow_is : (κs : Lfts 1) (f : Following) (piece : Bor (List ℕ)) (r : Following) → follow_contract.Learnt κs (f, (piece, tt)) r (f, (piece, tt))
    → r ≡ followed_by f piece.now
follow_is κs f piece r e = e

pub follow_ends : (f : Following) (r : Run) → follow_finish_contract.Learnt tt (f, tt) r (f, tt) → r ≡ finished_run f
follow_ends f r e = e

pub list_is : (κs : Lfts 1) (l : Listing) (piece : Bor (List ℕ)) (r : Listing) → list_contract.Learnt κs (l, (piece, tt)) r (l, (piece, tt))
    → r ≡ listed_by l piece.now
list_is κs l piece r e = e

pub list_ends : (l : Listing) (r : Listed) → list_finish_contract.Learnt tt (l, tt) r (l, tt) → r ≡ finished_list l
list_ends l r e = e

pub judge_is : (run : Run) (s : Listed) (r : Verdict) → judge_contract.Learnt tt (run, (s, tt)) r (run, (s, tt)) → r ≡ verdict_of run s
judge_is run s r e = e

pub reason_is : (g : Log) (p : PhoneRecord) (r : Reason) → reason_contract.Learnt tt (g, (p, tt)) r (g, (p, tt)) → r ≡ why_of (live g) p
reason_is g p r e = e

-- each answer is given exactly where what it says holds: every record obeys, this one is the first that doesn't, or the refusal applies
pub the_check_says_what_holds : (g : Committed) (rs : List PhoneRecord) (a : Checked) → (check_of rs g ≡ a) ↔ CheckSays g rs a
the_check_says_what_holds g rs a = (exactly.given_only g rs a, exactly.given_when g rs a)

-- a log that is let through is one that a counted server of some well-formed record holds, and the other way round
pub a_log_is_let_through : (g : Committed) → (could_hold g ≡ true) ↔ LogFits g
a_log_is_let_through g = (judged.log_fits g, judged.fits_log g)

pub such_a_log_is_held : (g : Committed) → LogFits g → ((n : ℕ) → FitsEntry (entry_at (entries_of g) n)) → HeldBy (entries_of g)
such_a_log_is_held = holding.log_held

pub what_is_held_is_such_a_log : (g : Committed) → Together g → HeldBy (entries_of g) → LogFits g
what_is_held_is_such_a_log = holding.held_log

-- beginnings that were covered are comparable, so there is a longest one, and a log of it alone will do
pub there_is_a_longest_beginning : LongestPromised
there_is_a_longest_beginning = longest.longest_beginning

-- an honest phone is never accused
pub an_honest_phone_is_never_accused : HonestPromised
an_honest_phone_is_never_accused = honest.honest_phone

-- the program's verdict on any two texts, the step lines and the records, is what it has to be, and it never accuses an honest phone
pub the_verdict_is_right : VerdictPromised
the_verdict_is_right = verdicts.verdicts

-- what is told of a record that is named is a rule that it breaks
pub a_named_record_breaks_what_is_told : (g : Committed) (rs : List PhoneRecord) (n : ℕ) → check_of rs g ≡ checking.Breaks n
    → Because (entries_of g) (take n rs) (record_at rs n) (why_of (entries_of g) (record_at rs n))
a_named_record_breaks_what_is_told = reasons.named_because

-- a run of three phones with an election and a rollback; the report that was never acknowledged is named
pub three_phones : Made (fresh_cluster 3 0) phones.run [] [] phones.records × (check_of phones.records phones.committed ≡ checking.Accepted)
three_phones = (phones.made, phones.accepted)

pub the_report_of_40_is_named : check_of (phones.records ++ (record_of_write 3 phones.w40 ∷ [])) phones.committed ≡ checking.Breaks 5
the_report_of_40_is_named = phones.named

-- ---- what the definitions mean, beside document 01

-- times are ordered by p and then by l: no time is before itself, the order passes on, and two times that neither comes before are one; a
-- tick is later
pub no_time_before_itself : (s : Time) → is_before s s ≡ false
no_time_before_itself = order.before_itself

pub order_passes_on : (s t u : Time) → is_before s t ≡ true → is_before t u ≡ true → is_before s u ≡ true
order_passes_on = order.before_trans

pub neither_before_is_one : (s t : Time) → is_before s t ≡ false → is_before t s ≡ false → s ≡ t
neither_before_is_one = order.before_total

pub a_tick_is_later : (wall : ℕ) (t u : Time) → tick_of wall t ≡ Some u → is_before t u ≡ true
a_tick_is_later = ticks.tick_after

-- equal entries are equal in all four parts
pub equal_entries_are_one : (d e : Entry) → same_entry d e ≡ true → d ≡ e
equal_entries_are_one = equal.same_entry_eq

pub an_entry_equals_itself : (d : Entry) → same_entry d d ≡ true
an_entry_equals_itself = equal.same_entry_refl

-- the common beginning is common and the longest; what a rollback makes of it is the other log
pub common_beginning_is_common : (xs ys : List Entry) → take (common_beginning xs ys) xs ≡ take (common_beginning xs ys) ys
common_beginning_is_common = common.common_agrees

pub common_beginning_is_longest : (n : ℕ) (xs ys : List Entry) → n ≤ length xs → n ≤ length ys → take n xs ≡ take n ys → n ≤ common_beginning xs ys
common_beginning_is_longest = common.common_longest

pub a_rollback_gives_the_other_log : (a b : Log) → joined a b (common_beginning (live a) (live b)) ≡ b
a_rollback_gives_the_other_log = common.rolled_is

-- a read gives the value of the last entry for the key
pub latest_is_found : (key : ℕ) (es : List Entry) → latest_value key es ≡ (entry_at es (latest.found key es)).value
latest_is_found = latest.latest_found

pub found_is_in_the_log : (key : ℕ) (es : List Entry) → latest.found key es ≤ length es
found_is_in_the_log = latest.found_le

pub found_is_for_the_key : (key : ℕ) (es : List Entry) → 1 ≤ latest.found key es → (entry_at es (latest.found key es)).key ≡ key
found_is_for_the_key = latest.found_key

pub none_for_the_key_after : (key : ℕ) (es : List Entry) (n : ℕ) → latest.found key es < n → n ≤ length es → (entry_at es n).key ≡ key → ⊥
none_for_the_key_after = latest.found_last

-- kinds 10 and 11 answer from rows, which in a well-formed record have what a read finds, in the whole log and in the covered entries
pub the_row_has_the_latest : (c : Cluster) → Fits c → well_formed c ≡ true → (i key : ℕ) → i < c.count → key ≤ highest_key
    → value_for (server_at c i).rows.whole key ≡ latest_value key (live (server_at c i).log)
the_row_has_the_latest c f h i key l k = walks.local_walks ((facts.good c f h).counted i l) key k

pub the_committed_row_has_the_latest : (c : Cluster) → Fits c → well_formed c ≡ true → (i key : ℕ) → i < c.count → key ≤ highest_key
    → value_for (server_at c i).rows.committed key ≡ latest_value key (covered (server_at c i))
the_committed_row_has_the_latest c f h i key l k = walks.majority_walks ((facts.good c f h).counted i l) key k

-- all values of any server at once are those that kinds 10 and 11 would answer, with their times
pub listed_as_read_locally : (s : Server) (key : ℕ) → key ≤ highest_key → (asked : Time) → is_before (whole_list s).time asked ≡ false
    → (local_read_of s key asked).answer ≡ A.Value (value_for (whole_list s).latest key) (whole_list s).time
listed_as_read_locally = walks.whole_listed

pub listed_as_read_by_majority : (s : Server) (key : ℕ) → key ≤ highest_key → (asked : Time) → is_before (committed_list s).time asked ≡ false
    → (majority_read_of s key asked).answer ≡ A.Value (value_for (committed_list s).latest key) (committed_list s).time
listed_as_read_by_majority = walks.committed_listed

-- the ones of a mask are the set's members, and two majorities share a server that votes
pub ones_are_members : (m : ℕ) → m < 2 ^ bits → ones m ≡ members_of m
ones_are_members = masks.ones_members

pub majorities_meet : (n f : ℕ) (p q : ℕ → Bool) → most_of (voters n f) (voters_with n f p) ≡ true → most_of (voters n f) (voters_with n f q) ≡ true
    → (i : ℕ) × (i < n) × (votes f i ≡ true) × (p i ≡ true) × (q i ≡ true)
majorities_meet n f p q h k =
    let b = masks.majorities_meet n f p q h k in
    let v = votes f b.who in
    (b.who, b.below, and_left v _ b.left, and_right v _ b.left, and_right v _ b.right)

-- what kind 7 finds passes, and nothing above it does
pub found_passes : (size f : ℕ) (s : Server) (a : ℕ) → 1 ≤ highest_passing size f s a → passes size f s a (highest_passing size f s a) ≡ true
found_passes = passing.passing_passes

pub nothing_above_passes : (size f : ℕ) (s : Server) (a n : ℕ) → highest_passing size f s a < n → n ≤ length_of s.log → passes size f s a n ≡ false
nothing_above_passes = passing.passing_highest

-- a start that is allowed gives the fresh cluster; an election, agreeing clocks, and what pulls, rollbacks and taken reports send change no
-- more than their rows name
pub a_start_is_fresh : (c : Cluster) (n f : ℕ) → Clear (start_rules n f) → (step_of c (Start n f)).cluster ≡ fresh_cluster n f
a_start_is_fresh = keeps.start_fresh

pub an_election_changes_offices : (c : Cluster) (a m i : ℕ) → let t = server_at (step_of c (Elect a m)).cluster i in
    t ≡ with_mail (with_head (server_at c i) (with_primary (with_term (server_at c i).head t.head.term) t.head.primary))
    (cond (eqb i a) (with_notes (with_queue (server_at c i).mail t.mail.queue) t.mail.notes) (server_at c i).mail)
an_election_changes_offices = others.elect_changes

pub agreeing_changes_clocks : (c : Cluster) (i : ℕ) → let t = server_at (step_of c ClocksAgree).cluster i in
    t ≡ with_head (server_at c i) (with_wall (server_at c i).head t.head.wall)
agreeing_changes_clocks = others.agree_changes

pub a_pull_changes_others_queues : (c : Cluster) (a b i : ℕ) → i ≢ a → let t = server_at (step_of c (Pulls a b)).cluster i in
    t ≡ with_mail (server_at c i) (with_queue (server_at c i).mail t.mail.queue)
a_pull_changes_others_queues = others.pull_changes

pub a_rollback_changes_others_queues : (c : Cluster) (a b i : ℕ) → i ≢ a → let t = server_at (step_of c (RollsBack a b)).cluster i in
    t ≡ with_mail (server_at c i) (with_queue (server_at c i).mail t.mail.queue)
a_rollback_changes_others_queues = others.roll_changes

pub a_taken_report_changes_others_queues : (c : Cluster) (a i : ℕ) → i ≢ a → let t = server_at (step_of c (TakesReport a)).cluster i in
    t ≡ with_mail (server_at c i) (with_queue (server_at c i).mail t.mail.queue)
a_taken_report_changes_others_queues = others.take_changes

-- the test of a record and the facts that it stands for are one
pub well_formed_is_good : (c : Cluster) → Fits c → well_formed c ≡ true → facts.Good c
well_formed_is_good = facts.good

pub good_is_well_formed : (c : Cluster) → facts.Good c → well_formed c ≡ true
good_is_well_formed = facts.well_formed_lem

-- lines: a digit has one character, a number of two bytes its bytes, a frame its length; the table of masks says which bytes must be zero;
-- a length keeps its value in an answer; what is read of an answer is in range
pub a_digit_has_one_character : (c : ℕ) → digit_of c < radix → char_of (digit_of c) ≡ c
a_digit_has_one_character = values.char_digit

pub a_character_has_its_digit : (n : ℕ) → n < radix → digit_of (char_of n) ≡ n
a_character_has_its_digit = values.digit_char

pub a_number_is_its_bytes : (n : ℕ) → word_of (high_of n) (low_of n) ≡ n
a_number_is_its_bytes = bytes.word_parts

pub a_step_line_is_long : (s : Step) → length (write_step s) ≡ chars * step_bytes
a_step_line_is_long = step_lengths.step_line_length

pub an_answer_line_is_long : (t : Telling) → length (write_telling t) ≡ chars * answer_bytes
an_answer_line_is_long = answer_lengths.answer_line_length

pub a_table_says_its_rule : (masks : List ℕ) → is_table masks ≡ true → (kind i : ℕ) → kind < kinds → i < step_bytes
    → eqb (get_or masks kind 0 / 2 ^ i % 2) 1 ≡ must_be_zero kind i
a_table_says_its_rule = tables.table_says

pub a_length_is_kept : (n : ℕ) → n ≤ limit → number_of n ≡ n
a_length_is_kept = numbers.number_kept

pub what_is_read_fits : (line : List ℕ) (t : Telling) → read_answer line ≡ Some t → FitsTelling t
what_is_read_fits = tellings.read_telling_fits

-- demand 2's reason, as a run: build 41 is covered, build 40 is not and is rolled back, and 41 is kept
pub build_41_is_covered : ((server_at roof.moment 0).head.commit ≡ 1) × (first_of roof.moment 0 1 ≡ roof.build 1 41 0 ∷ [])
build_41_is_covered = (roof.covered, roof.build_41)

pub the_roof_is_kept : Kept roof.moment roof.end 0 1
the_roof_is_kept = roof.kept

pub build_40_was_there : live (server_at roof.between 0).log ≡ roof.build 1 41 0 ∷ roof.build 1 40 1 ∷ []
build_40_was_there = roof.not_covered

pub build_40_is_rolled_back : live (server_at roof.end 0).log ≡ roof.build 1 41 0 ∷ roof.build 2 42 1 ∷ []
build_40_is_rolled_back = roof.rolled_back

-- a run in which a primary covers build 41 by a note that is out of date, when nobody else is in its term any more: it is kept all the same
pub the_note_is_out_of_date : note_at (server_at stale.moment 0).mail 2 ≡ record { term = 1; last = 1; len = 1 }
the_note_is_out_of_date = stale.stale

pub nobody_else_is_in_its_term : count 3 (λ i. eqb (server_at stale.moment i).head.term 1) ≡ 1
nobody_else_is_in_its_term = stale.alone_in_its_term

pub it_covers_build_41 : ((server_at stale.moment 0).head.commit ≡ 1) × (first_of stale.moment 0 1 ≡ roof.build 1 41 0 ∷ [])
it_covers_build_41 = (stale.covered, stale.build_41)

pub what_it_covers_is_kept : Kept stale.moment stale.end 0 1
what_it_covers_is_kept = stale.kept

-- ---- a trace

-- what is kept of a text's last line, piece by piece, makes the pair of that line and an answer, whatever bytes it has and however long it is
pub keep_is : (κs : Lfts 1) (k : CutLine) (bytes : Bor (List ℕ)) (r : CutLine) → keep_contract.Learnt κs (k, (bytes, tt)) r (k, (bytes, tt)) → r ≡ kept_over k bytes.now
keep_is κs k bytes r e = e

pub pair_line_is : (k : CutLine) (a : Answer) (r : Pair) → pair_line_contract.Learnt tt (k, (a, tt)) r (k, (a, tt)) → r ≡ pair_made k a
pair_line_is k a r e = e

pub a_pair_is_the_line_and_its_answer : (text : List ℕ) (a : Answer) → text_in (pair_made (kept_over nothing_kept text) a) ≡ pair_line (rest_after [] text) a
a_pair_is_the_line_and_its_answer = traces.text_pair

-- a line's part of a trace, in any buffer: its pair, and the form of the record where that has changed
pub put_line_is : (κs : Lfts 1) (w : Wanted) (n : ℕ) (c : Cluster) (k : CutLine) (out o : MutBor (List ℕ)) (r : Lined)
    → put_line_contract.Learnt κs (w, (n, (c, (k, (out, tt))))) r (w, (n, (c, (k, (o, tt)))))
    → (r ≡ lined_of w n c k (length out.now)) × (o.now ≡ lined_out w n c k out.now)
put_line_is κs w n c k out o r e = e

-- however a text is cut, what is shown on the way is its trace, and the record is the one that it leaves
pub a_trace_is_the_same_in_pieces : (w : Wanted) (c : Cluster) (t : Trail) (e : End) (d : DrainsBy trail_over (begun_trail c) t e)
    → shown_over w (begun_trail c) (together d.pieces) ++ shown_last w t ≡ trace_of w c (together d.pieces)
a_trace_is_the_same_in_pieces w c t e d = trails.follows_trace c t e d w

pub a_traced_run_leaves_its_record : (c : Cluster) (t : Trail) (e : End) (d : DrainsBy trail_over (begun_trail c) t e) → ended_trail t ≡ leaves c (together d.pieces)
a_traced_run_leaves_its_record = trails.drained_record

-- the answers of its pairs are the answer lines of the text in order
pub the_pairs_have_the_answers : (w : Wanted) (c : Cluster) (text : List ℕ) → w.before ≡ 0 → w.last ≡ None → answers_in (lines (trace_of w c text)) ≡ answers c text
the_pairs_have_the_answers = read_back.read_back

-- a brief form is what the saved form of a well-formed record begins with
pub a_brief_form_is_the_first_frame : (c : Cluster) → well_formed c ≡ true → save_of c ≡ form_by true c ++ text_of (all_frames (newest).widths (take c.count c.servers))
a_brief_form_is_the_first_frame = trace_facts.brief_begins

-- a record's form stands after a line exactly where it differs from the one before, and never after a refusal
pub no_form_where_none_changed : (brief : Bool) (c d : Cluster) → form_by brief c ≡ form_by brief d → change_of brief c d ≡ []
no_form_where_none_changed = trace_facts.change_none

pub a_form_where_it_changed : (brief : Bool) (c d : Cluster) → (form_by brief c ≡ form_by brief d → ⊥) → change_of brief c d ≡ form_by brief d
a_form_where_it_changed = trace_facts.change_some

pub no_form_after_a_refusal : (brief : Bool) (c : Cluster) (line : List ℕ) (r : Refusal) → (answer_to c line).answer ≡ A.Refused r → change_of brief c (answer_to c line).cluster ≡ []
no_form_after_a_refusal = trace_facts.refused_none

-- ---- how to get going again

-- the plan that is made is the one of the seven lines: their frames, or one refusal and none
pub plan_is : (c : Cluster) (key value : ℕ) (r : Planned) → plan_contract.Learnt tt (c, (key, (value, tt))) r (c, (key, (value, tt))) → r ≡ planned_of c key value
plan_is c key value r e = e

-- from any record at all, frames that are given are refused nowhere when they are run, and a refusal has no frames
pub given_frames_are_done : (c : Cluster) (key value : ℕ) → (planned_of c key value).answer ≡ A.Done → NoneRefused c (plan_for c key value)
given_frames_are_done = plans.frames_done

pub a_refusal_has_no_frames : (c : Cluster) (key value : ℕ) → is_refused (planned_of c key value).answer ≡ true
    → planned_of c key value ≡ no_frames (planned_of c key value).answer
a_refusal_has_no_frames = plans.refused_empty

-- from every record of a run it gets the cluster going, and from every well-formed one its steps are done, or the first that is refused gets 9
pub a_cluster_gets_going : RecoveryPromised
a_cluster_gets_going = recovery.recovery

pub a_plan_is_refused_with_9_alone : OnlyNine
a_plan_is_refused_with_9_alone = recovery.only_nine

-- a bad night: two primaries, a log that has to be rolled back, and a follower that has nothing
pub the_night_left_two_primaries : ((server_at night.left 0).head.primary ≡ true) × ((server_at night.left 1).head.primary ≡ true)
the_night_left_two_primaries = night.two_primaries

pub twelve_frames_are_given : ((planned_of night.left 5 50).count ≡ 12) × ((planned_of night.left 5 50).answer ≡ A.Done)
twelve_frames_are_given = night.given

pub the_night_is_over : Recovers night.left 5 50
the_night_is_over = night.recovers

-- ---- a contract decides its result

-- any two results that a contract allows are equal, and so are the buffers that were lent: of the functions that a text goes through.
-- Each room's own proofs/Results.antt has this of every public function
pub step_decides : (c : Cluster) (s : Step) → OneResult (λ r. step_contract.Learnt tt (c, (s, tt)) r (c, (s, tt)))
step_decides = rules_results.step_lem

pub read_step_decides : (κs : Lfts 1) (line : Bor (List ℕ)) → OneResult (λ r. read_step_contract.Learnt κs (line, tt) r (line, tt))
read_step_decides = frames_results.read_step_lem

pub write_step_decides : (s : Step) → OneResult (λ r. write_step_contract.Learnt tt (s, tt) r (s, tt))
write_step_decides = frames_results.write_step_lem

pub read_answer_decides : (κs : Lfts 1) (line : Bor (List ℕ)) → OneResult (λ r. read_answer_contract.Learnt κs (line, tt) r (line, tt))
read_answer_decides = answers_results.read_answer_lem

pub write_answer_decides : (a : Answer) → OneResult (λ r. write_answer_contract.Learnt tt (a, tt) r (a, tt))
write_answer_decides = answers_results.write_answer_lem

pub pour_decides : (κs : Lfts 2) (s : Session) (text : Bor (List ℕ)) (out : MutBor (List ℕ))
    → OneOutcome (λ r o. pour_contract.Learnt κs (s, (text, (out, tt))) r (s, (text, (o, tt))))
pour_decides = replay_results.pour_lem

pub close_decides : (κs : Lfts 1) (s : Session) (out : MutBor (List ℕ)) → OneOutcome (λ r o. close_contract.Learnt κs (s, (out, tt)) r (s, (o, tt)))
close_decides = replay_results.close_lem

pub plan_decides : (c : Cluster) (key value : ℕ) → OneResult (λ r. plan_contract.Learnt tt (c, (key, (value, tt))) r (c, (key, (value, tt))))
plan_decides = plans_results.plan_lem
