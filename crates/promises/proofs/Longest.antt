-- There is a longest beginning in every run: covered beginnings are comparable, and the fold finds the longest.
-- Assumes nothing.
use mathlib.Core.Path.{◌≡◌, refl, ap}
use mathlib.Core.Bool.{true}
use mathlib.Core.List.{List, [], ◌∷◌, Memᴰ as Among}
use Prim.Native.Nat.{ℕ, ◌≤◌}
use native.Mathlib.Omega.{arith}
use lib.ListN.{length, take}
use Rattle.server_log.specs.declared.Entry.{Entry}
use Rattle.server_log.specs.Entries.{is_beginning}
use Rattle.server_log.specs.Logs.{live}
use Rattle.cluster.specs.declared.Cluster.{Cluster}
use Rattle.cluster.specs.Servers.{server_count, server_at}
use Rattle.cluster.proofs.Good.{size_good}
use Rattle.wholes.specs.Starts.{Opening, fresh_of}
use Rattle.histories.specs.Longest.{columns_of}
use Rattle.safety.proofs.Views.{fresh_seen}
use Rattle.safety.proofs.Stepped.{Now, begun}
use Rattle.promises.specs.Runs.{Event, Onward}
use Rattle.promises.specs.Longest.{records_of, longest_covered, CoveredIn, HoldsAll, LongestPromised}
use Rattle.promises.proofs.Folds.{none_longer, is_one}
use Rattle.promises.proofs.Moments.{since, in_turn, all_counted, comparable}
use Rattle.promises.proofs.OwnLog.{held}

module _ (z : Opening) (run : List Event) (h : Onward (fresh_of z) run) where
  fresh : Now z (fresh_of z)
  fresh = begun z

  -- as many servers count at each moment
  counted : (c : Cluster) → Among c (records_of (fresh_of z) run) → server_count c ≡ z.servers
  counted c m = all_counted (since fresh run h c m).later

  compare : (xs ys : List Entry) → CoveredIn (fresh_of z) run xs → CoveredIn (fresh_of z) run ys → length xs ≤ length ys → is_beginning xs ys ≡ true
  compare xs ys a b l =
      rw (← a.is, ← b.is)
      (comparable (in_turn fresh run h a.moment b.moment a.of_the_run b.of_the_run) a.server b.server a.counted b.counted
      (rw (a.is, b.is) l))

  -- nothing is covered in the beginning
  nothing : CoveredIn (fresh_of z) run []
  nothing =
      record {
        moment = fresh_of z;
        of_the_run = first run;
        server = 0;
        counted = omega (arith, (size_good z.allowed).at_least_two);
        is = ap (λ (k : ℕ). take k (live (server_at (fresh_of z) 0).log)) ((fresh_seen z.servers z.followers).servers.commit 0);
      }
    where
      first : (es : List Event) → Among (fresh_of z) (records_of (fresh_of z) es)
      first [] = Among.head refl
      first (e ∷ es) = Among.head refl

  covered_once : CoveredIn (fresh_of z) run (longest_covered (fresh_of z) run)
  covered_once =
      is_one (CoveredIn (fresh_of z) run) [] (records_of (fresh_of z) run) nothing
      (λ c m i l. record { moment = c; of_the_run = m; server = i; counted = omega (arith, counted c m); is = refl })

  not_longer : (es : List Entry) → CoveredIn (fresh_of z) run es → length es ≤ length (longest_covered (fresh_of z) run)
  not_longer es a =
      rw (← a.is)
      (none_longer [] (records_of (fresh_of z) run) a.moment a.of_the_run a.server (omega (arith, a.counted, counted a.moment a.of_the_run)))

  -- what was covered once holds itself
  own : HoldsAll (longest_covered (fresh_of z) run) (columns_of (longest_covered (fresh_of z) run))
  own =
      let a = covered_once in
      let T = since fresh run h a.moment a.of_the_run in
      rw a.is at (held T.later a.server a.counted)

pub longest_beginning : LongestPromised
longest_beginning z run h =
    record {
      comparable = compare z run h;
      was_covered = covered_once z run h;
      begins_with = λ es a. compare z run h es (longest_covered (fresh_of z) run) a (covered_once z run h) (not_longer z run h es a);
      own_log = own z run h;
    }
