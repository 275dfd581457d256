-- What the verdict on two texts is, in the words that the promise has; and an honest phone is never accused by it: the log that is checked
-- against is the longest beginning of the run since the last start. Assumes nothing.
use mathlib.Core.Path.{◌≡◌, refl, ap, ◌∙◌, subst}
use mathlib.Core.Bool.{Bool, true, false}
use mathlib.Core.Logic.{◌⊎◌, inl, inr}
use mathlib.Core.List.{List, [], ◌∷◌, map}
use Prim.Native.Nat.{ℕ, ◌≤◌}
use lib.ListN.{length}
use Rattle.base.proofs.Bools.{and_left, and_right, not_both}
use Rattle.server_log.specs.declared.Entry.{Entry}
use Rattle.cluster.specs.declared.Cluster.{Cluster}
use Rattle.cluster.specs.Servers.{zero_cluster, fresh_cluster}
use Rattle.steps.specs.declared.Answer.{Answer}
use Rattle.steps.specs.declared.Answer.TheVariants as A
use Rattle.rules.specs.Rules.{is_start}
use Rattle.steps.specs.declared.Step.{Step}
use Rattle.std.proofs.Common.{Option, Some, None}
use Rattle.frames.specs.Steps.{read_step}
use Rattle.lines.specs.Texts.{lines}
use Rattle.replay.specs.Texts.{answer_to, record_after, records_on}
use Rattle.histories.specs.declared.PhoneRecord.{PhoneRecord}
use Rattle.histories.specs.declared.Checked.TheVariants.{Accepted}
use Rattle.histories.specs.Checking.{most_records, check_of}
use Rattle.histories.specs.Longest.{longest_of, columns_of}
use Rattle.followed.specs.Follow.{is_done, begins, NoneStarts}
use Rattle.followed.proofs.Starts.{LastStart, last_or_none}
use Rattle.phones.specs.Listed.{Reads}
use Rattle.phones.proofs.Kept.{reads_or_bad}
use Rattle.verdicts.specs.declared.Verdict.TheVariants.{Judged}
use Rattle.verdicts.specs.Verdicts.{verdict_on}
use Rattle.verdicts.proofs.Judged.{bad_line, no_start, judged}
use Rattle.promises.specs.Runs.{Onward}
use Rattle.promises.specs.Texts.{a_line, Begins, NoneBegins, FreshOf}
use Rattle.promises.specs.Longest.{records_of, longest_covered}
use Rattle.promises.specs.Honest.{Made}
use Rattle.promises.specs.Verdicts.{SinceStart, run_since, VerdictPromised}
use Rattle.promises.proofs.Starts.{start_of, opening_of}
use Rattle.promises.proofs.Texts.{texts_are_runs}
use Rattle.promises.proofs.Longest.{longest_beginning}
use Rattle.promises.proofs.Honest.{honest_phone}
use Rattle.promises.proofs.SameLongest.{same_longest}

-- ---- a start that succeeds, said in two ways

done_is : (a : Answer) → is_done a ≡ true → a ≡ A.Done
done_is A.Done e = refl
done_is (A.Elected term) e = not_both false e refl
done_is (A.Reached n) e = not_both false e refl
done_is (A.Entry n term time) e = not_both false e refl
done_is (A.Value value time) e = not_both false e refl
done_is (A.Refused r) e = not_both false e refl

start_begins : (c : Cluster) (l : List ℕ) (n f : ℕ) → Begins c l n f → begins (read_step l) (answer_to c l).answer ≡ true
start_begins c l n f b = rw (b.reads, b.done)

begins_start : (c : Cluster) (l : List ℕ) → begins (read_step l) (answer_to c l).answer ≡ true → (n : ℕ) × (f : ℕ) × Begins c l n f
begins_start c l h = go (read_step l) refl h
  where
    go : (r : Option Step) → read_step l ≡ r → begins r (answer_to c l).answer ≡ true → (n : ℕ) × (f : ℕ) × Begins c l n f
    go (Some s) e h =
        let p = start_of s (and_left (is_start s) (is_done (answer_to c l).answer) h) in
        (p.0, p.1, record { reads = e ∙ ap Some p.2; done = done_is (answer_to c l).answer (and_right (is_start s) _ h) })
    go None e h = not_both false h refl

-- none of some lines does
none_starts : (c : Cluster) (ls : List (List ℕ)) → NoneBegins c (map a_line ls) → NoneStarts c ls
none_starts c [] h = tt
none_starts c (l ∷ ls) h = (go (begins (read_step l) (answer_to c l).answer) refl, none_starts (answer_to c l).cluster ls h.1)
  where
    go : (b : Bool) → begins (read_step l) (answer_to c l).answer ≡ b → begins (read_step l) (answer_to c l).answer ≡ false
    go true e = let p = begins_start c l e in absurd (h.0 p.0 p.1 p.2)
    go false e = e

none_begins : (c : Cluster) (ls : List (List ℕ)) → NoneStarts c ls → NoneBegins c (map a_line ls)
none_begins c [] h = tt
none_begins c (l ∷ ls) h = (λ n f b. not_both (begins (read_step l) (answer_to c l).answer) (start_begins c l n f b) h.0, none_begins (answer_to c l).cluster ls h.1)

-- ---- the last start

last_start : {text : List ℕ} → SinceStart text → LastStart zero_cluster (lines text)
last_start t =
    record {
      before = t.before;
      start = t.start;
      after = t.after;
      split = t.split;
      succeeds = start_begins (record_after zero_cluster t.before) t.start t.count t.followers t.begins;
      none_after = none_starts _ t.after t.none_after;
    }

some_run : (text : List ℕ) → LastStart zero_cluster (lines text) ⊎ NoneStarts zero_cluster (lines text)
    → SinceStart text ⊎ NoneBegins zero_cluster (map a_line (lines text))
some_run text (inr h) = inr (none_begins zero_cluster (lines text) h)
some_run text (inl s) =
    let p = begins_start (record_after zero_cluster s.before) s.start s.succeeds in
    inl (record {
      before = s.before;
      start = s.start;
      after = s.after;
      split = s.split;
      count = p.0;
      followers = p.1;
      begins = p.2;
      none_after = none_begins _ s.after s.none_after;
    })

-- ---- the run since then

module _ {steps : List ℕ} (t : SinceStart steps) where
  abbrev opened : Cluster
  opened = (answer_to (record_after zero_cluster t.before) t.start).cluster

  abbrev fresh : Cluster
  fresh = fresh_cluster t.count t.followers

  begun : FreshOf opened t.count t.followers
  begun = texts_are_runs.begun (record_after zero_cluster t.before) t.start t.count t.followers t.begins

  onward : Onward fresh (run_since t)
  onward = subst (λ (c : Cluster). Onward c (run_since t)) begun.is (texts_are_runs.goes_on opened (map a_line t.after) t.none_after).onward

  longest_is : longest_of [] (records_on opened t.after) ≡ longest_covered fresh (run_since t)
  longest_is = same_longest [] opened t.after ∙ ap (λ (c : Cluster). longest_of [] (records_of c (run_since t))) begun.is

  module _ (phones : List ℕ) (rs : List PhoneRecord) (reads : Reads (lines phones) rs) where
    checked : verdict_on steps phones ≡ Judged (check_of rs (columns_of (longest_covered fresh (run_since t))))
    unfolding last_start
    checked = judged steps phones rs reads (last_start t) ∙ ap (λ (es : List Entry). Judged (check_of rs (columns_of es))) longest_is

    -- the longest beginning is itself a log that holds it
    honest : Made fresh (run_since t) [] [] rs → length rs ≤ most_records → verdict_on steps phones ≡ Judged Accepted
    honest made few =
        checked
        ∙ ap Judged
        (honest_phone (opening_of begun) (run_since t) rs (columns_of (longest_covered fresh (run_since t))) onward made few
        (longest_beginning (opening_of begun) (run_since t) onward).own_log)

pub verdicts : VerdictPromised
verdicts steps phones =
    record {
      some_run = some_run steps (last_or_none zero_cluster (lines steps));
      some_list = reads_or_bad (lines phones);
      bad_line = bad_line steps phones;
      no_start = λ rs reads h. no_start steps phones rs reads (none_starts zero_cluster (lines steps) h);
      checked = λ t rs reads. checked t phones rs reads;
      honest = λ t rs reads made few. honest t phones rs reads made few;
    }
