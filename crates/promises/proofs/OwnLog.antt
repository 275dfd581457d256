-- What a commit point covers, lent as a log, is one to check against: a well-formed record holds it, and no reached entry is at (0,0).
-- Assumes nothing.
use mathlib.Core.Path.{◌≡◌, refl, sym, ap, ◌∙◌}
use mathlib.Core.Bool.{true}
use mathlib.Core.Logic.{◌≢◌}
use mathlib.Core.List.{List, [], ◌∷◌, map}
use Prim.Native.Nat.{ℕ, ◌≤◌, ◌<◌}
use native.Mathlib.Omega.{arith}
use lib.Dec.{eqb}
use lib.ListN.{length, length-map}
use lib.Seq.{take-length}
use borrow.Author.Tests.{le-leb, eq-eqb}
use Rattle.base.proofs.Bools.{and_both}
use Rattle.clock.specs.Times.{limit, zero_time}
use Rattle.server_log.specs.declared.Entry.{Entry}
use Rattle.server_log.specs.Entries.{entry_at}
use Rattle.server_log.specs.Logs.{live}
use Rattle.server_log.proofs.Common.{is_beginning_lem}
use Rattle.server_log.proofs.Live.{entry_at_take}
use Rattle.server_log.proofs.Orderly.{Orderly, in_order_lem, orderly_first}
use Rattle.server_log.proofs.Tidy.{tidy_highest}
use Rattle.cluster.specs.declared.Cluster.{Cluster}
use Rattle.cluster.specs.Servers.{server_at}
use Rattle.cluster.proofs.Good.{ServerGood, good}
use Rattle.reads.specs.MajorityRead.{covered}
use Rattle.rules.proofs.Logs.{log_raised}
use Rattle.histories.specs.Committed.{committed_limit, entries_on, entries_of, same_lengths, could_hold}
use Rattle.histories.specs.Longest.{columns_of}
use Rattle.wholes.specs.Starts.{Opening}
use Rattle.safety.specs.Time.{stamp}
use Rattle.safety.proofs.Joins.{times_ordered}
use Rattle.safety.proofs.Views.{fresh_seen}
use Rattle.safety.proofs.Stepped.{Now}
use Rattle.promises.specs.Longest.{HoldsAll}
use Rattle.promises.proofs.Moments.{within, covered_long}

-- ---- columns

columns_same : (es : List Entry) → entries_of (columns_of es) ≡ es
unfolding entries_on
columns_same [] = refl
columns_same (e ∷ es) = ap (λ (fs : List Entry). e ∷ fs) (columns_same es)

columns_long : (es : List Entry) (f g : Entry → ℕ) → eqb (length (map f es)) (length (map g es)) ≡ true
columns_long es f g = eq-eqb _ _ (length-map es f ∙ sym (length-map es g))

columns_hold : (es : List Entry) → length es ≤ committed_limit → Orderly limit es → could_hold (columns_of es) ≡ true
unfolding could_hold same_lengths
columns_hold es short o =
    let terms : Entry → ℕ = λ e. e.term in
    and_both _ _
    (and_both _ _ (columns_long es (λ e. e.key) terms)
    (and_both _ _ (columns_long es (λ e. e.value) terms)
    (and_both _ _ (columns_long es (λ e. e.time.p) terms) (columns_long es (λ e. e.time.l) terms))))
    (and_both _ _ (le-leb (length (map terms es)) committed_limit (omega (arith, length-map es terms))) (rw (columns_same es) (in_order_lem o)))

-- ---- what is covered

module _ {z : Opening} {c : Cluster} (N : Now z c) (i : ℕ) (l : i < z.servers) where
  abbrev es : List Entry
  es = covered (server_at c i)

  one : ServerGood (server_at c i)
  one = (good c N.fits N.formed).counted i (omega (arith, N.counted))

  order : Orderly limit es
  order =
      orderly_first (log_raised (N.fits.each i (omega (arith, N.few))).head.term one.log).order (server_at c i).head.commit (within N i)

  short : length es ≤ committed_limit
  short = omega (arith, covered_long N i, one.commit_point, tidy_highest one.log.tidy)

  -- times rise from that of position 0, which is (0,0)
  not_zero : (k : ℕ) → 1 ≤ k → k ≤ length es → (entry_at es k).time ≢ zero_time
  unfolding entry_at
  not_zero k one h e =
      let later = times_ordered (fresh_seen z.servers z.followers) N.walk i 0 k one (omega (arith, covered_long N i, within N i)) in
      let same = ap (λ (e : Entry). stamp e.time) (entry_at_take (server_at c i).head.commit k (live (server_at c i).log) (omega (arith, covered_long N i))) in
      omega (arith, ap stamp e)

  pub held : HoldsAll es (columns_of es)
  held =
      record {
        could_hold = columns_hold es short order;
        begins = rw (columns_same es) (is_beginning_lem (record { long = omega arith; same = take-length es }));
        none_at_zero = rw (columns_same es) not_zero;
      }
