-- What the verdict on two texts comes to. Assumes nothing.
use mathlib.Core.Path.{◌≡◌, sym, ap, subst, ◌∙◌}
use Rattle.std.specs.Prelude.{Some, None}
use mathlib.Core.Bool.{true}
use mathlib.Core.List.{List, [], ◌∷◌}
use Prim.Native.Nat.{ℕ, ◌<◌}
use native.Mathlib.Omega.{arith}
use borrow.Author.Tests.{ne_eqb}
use lib.ListN.{length}
use Rattle.server_log.specs.declared.Entry.{Entry}
use Rattle.server_log.specs.Logs.{live}
use Rattle.cluster.specs.declared.Cluster.{Cluster}
use Rattle.cluster.specs.Servers.{zero_cluster}
use Rattle.frames.specs.Steps.{read_step}
use Rattle.lines.specs.Texts.{lines}
use Rattle.replay.specs.Texts.{answer_to, record_after, records_on}
use Rattle.lines.specs.Folds.{over_lines}
use Rattle.lines.proofs.Folded.{lines_append}
use Rattle.histories.specs.declared.PhoneRecord.{PhoneRecord}
use Rattle.histories.specs.declared.Checked.{Checked}
use Rattle.histories.specs.Checking.{check_of}
use Rattle.histories.specs.Longest.{longest_of, columns_of}
use Rattle.followed.specs.declared.Run.{Run}
use Rattle.followed.specs.Follow.{begins, new_run, run_after_line, run_followed, NoneStarts}
use Rattle.followed.proofs.Followed.{text_record, since_last}
use Rattle.followed.proofs.Starts.{started_at, none_started, LastStart}
use Rattle.phones.specs.declared.Listed.{Listed}
use Rattle.phones.specs.Listed.{line_number, list_of, records_kept, Reads, FirstBad}
use Rattle.phones.proofs.Kept.{AllRead, all_read, first_bad}
use Rattle.verdicts.specs.declared.Verdict.TheVariants.{BadLine, NoStart, Judged}
use Rattle.verdicts.specs.Verdicts.{verdict_of, verdict_on}

-- ---- a law for each way that the verdict can go

pub verdict_bad : (run : Run) (s : Listed) (n : ℕ) → s.bad ≡ Some n → BadLine n ≡ verdict_of run s
unfolding verdict_of
verdict_bad run s n e = rw e

pub verdict_none : (run : Run) (s : Listed) → s.bad ≡ None → run.starts ≡ 0 → NoStart ≡ verdict_of run s
unfolding verdict_of
verdict_none run s e h = rw (e, h)

pub verdict_judged : (run : Run) (s : Listed) (a : Checked) → s.bad ≡ None → (run.starts ≡ 0 → ⊥) → a ≡ check_of (records_kept s) (columns_of (live run.longest))
    → Judged a ≡ verdict_of run s
unfolding verdict_of
verdict_judged run s a e h p =
    ap Judged p ∙ sym (rw (e, ne_eqb run.starts 0 h))

-- ---- two texts

module _ (steps phones : List ℕ) where
  -- a line of the phones' that is no record: the number of the first
  pub bad_line : (f : FirstBad (lines phones)) → verdict_on steps phones ≡ BadLine (line_number (length f.before))
  bad_line f =
      sym (verdict_bad (run_followed steps) (list_of phones) _ (first_bad phones f.before f.bad f.after f.records f.split f.reads f.none))

  module _ (rs : List PhoneRecord) (reads : Reads (lines phones) rs) where
    listed : AllRead rs (list_of phones)
    listed = all_read phones rs reads

    -- no step line is a start that succeeds
    pub no_start : NoneStarts zero_cluster (lines steps) → verdict_on steps phones ≡ NoStart
    no_start h = sym (verdict_none (run_followed steps) (list_of phones) listed.good (none_started new_run (lines steps) h))

    -- THE LAW: the records are checked against the longest beginning that was covered since the last start that succeeded
    module _ (s : LastStart zero_cluster (lines steps)) where
      abbrev pub opened : Cluster
      opened = (answer_to (record_after zero_cluster s.before) s.start).cluster

      started : (run_followed steps).starts ≡ 0 → ⊥
      started e =
          let r = over_lines run_after_line new_run s.before in
          let split : run_followed steps ≡ over_lines run_after_line r (s.start ∷ s.after) =
          ap (over_lines run_after_line new_run) s.split ∙ lines_append run_after_line new_run s.before (s.start ∷ s.after) in
          let some : 0 < (over_lines run_after_line r (s.start ∷ s.after)).starts =
          started_at r s.start s.after
          (subst (λ (c : Cluster). begins (read_step s.start) (answer_to c s.start).answer ≡ true) (sym (text_record new_run s.before)) s.succeeds) in
          omega (arith, ap (λ (x : Run). x.starts) split)

      pub judged : verdict_on steps phones ≡ Judged (check_of rs (columns_of (longest_of [] (records_on opened s.after))))
      judged =
          sym (verdict_judged (run_followed steps) (list_of phones) (check_of rs (columns_of (longest_of [] (records_on opened s.after)))) listed.good started
          (ap (λ (es : List Entry). check_of rs (columns_of es)) (sym (since_last steps s.before s.start s.after s.split s.succeeds s.none_after))
          ∙ sym (listed.checked (columns_of (live (run_followed steps).longest)))))
