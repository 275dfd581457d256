-- What following a run comes to: however the text is cut, and since the last start that succeeded the longest beginning of the records in
-- turn. Assumes nothing.
use mathlib.Core.Path.{◌≡◌, refl, sym, ap, subst, ◌∙◌}
use mathlib.Core.Bool.{Bool, true, false, cond}
use mathlib.Core.List.{List, [], ◌∷◌, ◌++◌}
use Prim.Native.Nat.{ℕ}
use native.Mathlib.Omega.{arith}
use Rattle.lines.proofs.Held.{held_framed}
use Rattle.server_log.specs.declared.Entry.{Entry}
use Rattle.server_log.specs.declared.Log.{Log}
use Rattle.server_log.specs.Logs.{empty_log, live}
use Rattle.cluster.specs.declared.Cluster.{Cluster}
use Rattle.cluster.specs.Servers.{zero_cluster}
use Rattle.steps.specs.declared.Outcome.{Outcome}
use Rattle.steps.specs.declared.Step.{Step}
use Rattle.std.proofs.Common.{Option, None}
use Rattle.frames.specs.Layout.{step_bytes}
use Rattle.frames.specs.Steps.{step_in, read_step}
use Rattle.histories.specs.Longest.{longer_of, longest_of}
use Rattle.lines.specs.Texts.{lines, one_more}
use Rattle.replay.specs.Texts.{respond, answer_to, record_after, records_on}
use Rattle.lines.specs.Readers.{Reader, width, line_held}
use Rattle.lines.specs.Folds.{over_lines}
use Rattle.lines.proofs.Readers.{StandsFor}
use Rattle.lines.proofs.Folded.{lines_append}
use Rattle.lines.proofs.Walked.{walked_text, walked_append}
use Rattle.followed.specs.declared.Run.{Run}
use Rattle.followed.specs.Longest.{kept_log}
use Rattle.followed.specs.Follow.{begins, new_run, run_after_read, run_after_line, run_followed, NoneStarts, Following, new_following, followed_by, finished_run}
use Rattle.followed.proofs.Covering.{kept_live}

-- ---- however the text is cut

-- a line that is held reads as the one that it stands for
same : (r : Run) (d : Reader) (p : List ℕ) → StandsFor d p → run_after_line r (line_held d) ≡ run_after_line r p
unfolding line_held
same r d p h = ap (run_after_read r) (held_framed step_bytes step_in None width (omega arith) d.held d.fill d.over h)

-- THE THEOREM: at the end, a text that was followed is its run
pub followed_text : (text : List ℕ) → finished_run (followed_by new_following text) ≡ run_followed text
followed_text text = walked_text run_after_line same new_run text

-- two pieces are followed like the text that they are
pub followed_append : (f : Following) (x y : List ℕ) → followed_by f (x ++ y) ≡ followed_by (followed_by f x) y
followed_append f x y = walked_append run_after_line f x y

-- ---- what a line does

pub line_record : (r : Run) (l : List ℕ) → (run_after_line r l).cluster ≡ (answer_to r.cluster l).cluster
unfolding run_after_read answer_to
line_record r l = go (begins (read_step l) (respond r.cluster (read_step l)).answer) _ _ _ _
  where
    c : Cluster
    c = (respond r.cluster (read_step l)).cluster

    go : (b : Bool) (g h : Log) (m n : ℕ) → (cond {A = Run} b (record { cluster = c; longest = g; starts = m }) (record { cluster = c; longest = h; starts = n })).cluster ≡ c
    go true g h m n = refl
    go false g h m n = refl

pub text_record : (r : Run) (ls : List (List ℕ)) → (over_lines run_after_line r ls).cluster ≡ record_after r.cluster ls
text_record r [] = refl
text_record r (l ∷ ls) = text_record (run_after_line r l) ls ∙ ap (λ (c : Cluster). record_after c ls) (line_record r l)

-- a start that succeeds begins anew
starts_anew : (r : Run) (l : List ℕ) → begins (read_step l) (answer_to r.cluster l).answer ≡ true
    → live (run_after_line r l).longest ≡ longer_of [] (answer_to r.cluster l).cluster
unfolding run_after_read answer_to
starts_anew r l e = rw e (kept_live empty_log (respond r.cluster (read_step l)).cluster)

-- any other line goes on
goes_on : (r : Run) (l : List ℕ) → begins (read_step l) (answer_to r.cluster l).answer ≡ false
    → live (run_after_line r l).longest ≡ longer_of (live r.longest) (answer_to r.cluster l).cluster
unfolding run_after_read answer_to
goes_on r l e = rw e (kept_live r.longest (respond r.cluster (read_step l)).cluster)

-- for the code
module _ (r : Run) (read : Option Step) (o : Outcome) (g : Log) (p : o ≡ respond r.cluster read) where
  pub after_start : (e : Log) (n : ℕ) → begins read o.answer ≡ true → e ≡ empty_log → g ≡ kept_log e o.cluster → n ≡ one_more r.starts
      → ◌≡◌ {A = Run} (record { cluster = o.cluster; longest = g; starts = n }) (run_after_read r read)
  unfolding run_after_read
  after_start e n b z q m =
      let b' : begins read (respond r.cluster read).answer ≡ true = rw p at b in
      rw (b', q, z, m, p)

  pub after_other : begins read o.answer ≡ false → g ≡ kept_log r.longest o.cluster
      → ◌≡◌ {A = Run} (record { cluster = o.cluster; longest = g; starts = r.starts }) (run_after_read r read)
  unfolding run_after_read
  after_other b q =
      let b' : begins read (respond r.cluster read).answer ≡ false = rw p at b in
      rw (b', q, p)

-- ---- since the last start that succeeded

since : (r : Run) (es : List Entry) (ls : List (List ℕ)) → live r.longest ≡ longer_of es r.cluster → NoneStarts r.cluster ls
    → live (over_lines run_after_line r ls).longest ≡ longest_of es (records_on r.cluster ls)
since r es [] e h = e
since r es (l ∷ ls) e h =
    since (run_after_line r l) (longer_of es r.cluster) ls
    (goes_on r l h.0 ∙ ap (λ (xs : List Entry). longer_of xs (answer_to r.cluster l).cluster) e
    ∙ sym (ap (longer_of (longer_of es r.cluster)) (line_record r l)))
    (subst (λ (c : Cluster). NoneStarts c ls) (sym (line_record r l)) h.1)
    ∙ ap (λ (c : Cluster). longest_of (longer_of es r.cluster) (records_on c ls)) (line_record r l)

-- THE LAW: in a text whose last start that succeeds is the line l, the log that is kept has the longest beginning of the records from there on
module _ (text : List ℕ) (before : List (List ℕ)) (l : List ℕ) (ls : List (List ℕ)) where
  abbrev opened : Cluster
  opened = (answer_to (record_after zero_cluster before) l).cluster

  pub since_last : lines text ≡ before ++ (l ∷ ls) → begins (read_step l) (answer_to (record_after zero_cluster before) l).answer ≡ true
      → NoneStarts opened ls → live (run_followed text).longest ≡ longest_of [] (records_on opened ls)
  since_last e b h =
      let r = over_lines run_after_line new_run before in
      let c : r.cluster ≡ record_after zero_cluster before = text_record new_run before in
      let d : (run_after_line r l).cluster ≡ opened = line_record r l ∙ ap (λ (x : Cluster). (answer_to x l).cluster) c in
      ap (λ (k : List (List ℕ)). live (over_lines run_after_line new_run k).longest) e
      ∙ ap (λ (x : Run). live x.longest) (lines_append run_after_line new_run before (l ∷ ls))
      ∙ since (run_after_line r l) [] ls
      (starts_anew r l (subst (λ (x : Cluster). begins (read_step l) (answer_to x l).answer ≡ true) (sym c) b)
      ∙ ap (λ (x : Cluster). longer_of [] x) (sym (line_record r l)))
      (subst (λ (x : Cluster). NoneStarts x ls) (sym d) h)
      ∙ ap (λ (x : Cluster). longest_of [] (records_on x ls)) d
