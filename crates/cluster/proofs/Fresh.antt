-- The fresh cluster of 2 to 7 servers, two of which vote: each counted server is fresh, the record is well formed and fits. Assumes nothing.
use mathlib.Core.Path.{◌≡◌, refl, ap, ◌∙◌}
use mathlib.Core.Logic.{⊎_elim}
use mathlib.Core.Bool.{true, false}
use mathlib.Core.List.{[]}
use Prim.Native.Nat.{ℕ, ◌<◌, ◌≤◌}
use native.Mathlib.Omega.{arith}
use lib.ListN.{length-replicate, get_or-replicate}
use borrow.Author.Tests.{lt-ltb, le-ltb}
use Rattle.base.specs.Numbers.{byte, every, count}
use Rattle.base.proofs.Bools.{not_both}
use Rattle.base.proofs.Each.{length_each_from}
use Rattle.base.proofs.Facts.{lt_or_le}
use Rattle.clock.specs.Ranges.{FitsTime}
use Rattle.clock.specs.Times.{zero_time}
use Rattle.clock.proofs.Order.{before_itself}
use Rattle.server_log.specs.Entries.{zero_entry, entry_at}
use Rattle.server_log.specs.Logs.{log_limit, empty_log}
use Rattle.server_log.specs.Ranges.{FitsLog}
use Rattle.server_log.proofs.Tidy.{tidy_empty}
use Rattle.server_log.proofs.Orderly.{Orderly}
use Rattle.server_log.proofs.Ranges.{fits_zero_rows}
use Rattle.server_log.proofs.Rowed.{rows_of_good}
use Rattle.cluster.specs.Sets.{member, is_within}
use Rattle.cluster.specs.Servers.{fewest_servers, most_servers, with_wall, with_head, zero_head, zero_server, fresh_server, past_server, server_at, started_of, fresh_cluster, zero_cluster}
use Rattle.mail.proofs.Kept.{zero_good}
use Rattle.mail.proofs.Ranges.{fits_zero_mail}
use Rattle.cluster.specs.Ranges.{FitsServer, Fits}
use Rattle.cluster.specs.WellFormed.{size_ok, well_formed}
use Rattle.cluster.proofs.Changed.{changed_at}
use Rattle.cluster.proofs.Good.{ServerGood, size_good, Good, well_formed_lem}

-- ---- its servers

started_at : (n f i : ℕ) → i < most_servers → server_at (fresh_cluster n f) i ≡ started_of n i zero_server
started_at n f i h = changed_at (started_of n) zero_cluster i h ∙ ap (started_of n i) (get_or-replicate most_servers i zero_server past_server h)

pub fresh_at : (n f i : ℕ) → i < n → i < most_servers → server_at (fresh_cluster n f) i ≡ fresh_server
unfolding started_of
fresh_at n f i h m = started_at n f i m ∙ rw (lt-ltb i n h)

pub fresh_past : (n f i : ℕ) → n ≤ i → i < most_servers → server_at (fresh_cluster n f) i ≡ zero_server
unfolding started_of
fresh_past n f i h m = started_at n f i m ∙ rw (le-ltb i n h)

-- ---- it is well formed

orderly_none : {term : ℕ} → Orderly term []
orderly_none = record { each = λ n h l. absurd (omega arith); terms = λ n h l. absurd (omega arith); times = λ n h l. absurd (omega arith) }

fresh_good : ServerGood fresh_server
unfolding entry_at
fresh_good =
    record {
      log = record { tidy = tidy_empty; order = orderly_none };
      last_time = before_itself zero_time;
      commit_point = omega arith;
      wall_clock = omega arith;
      primary_term = λ p. not_both false p refl;
      rows = rows_of_good empty_log 0;
    }

pub good_fresh : (n f : ℕ) → size_ok n f ≡ true → Good (fresh_cluster n f)
good_fresh n f h =
    let z = size_good h in
    let seven = z.at_most_seven in
    record {
      size = h;
      at_least_two = z.at_least_two;
      at_most_seven = seven;
      counted = λ i l. rw (fresh_at n f i l (omega arith)) fresh_good;
      mailed = λ i l. rw (fresh_at n f i l (omega arith)) zero_good;
      primaries_vote = λ i l p. not_both false (rw (fresh_at n f i l (omega arith)) at p) refl;
      past = λ i l m. fresh_past n f i l m;
    }

-- two servers that both vote are a cluster
pub two_vote : size_ok fewest_servers 0 ≡ true
unfolding every count member is_within size_ok
two_vote = refl

pub well_formed_fresh : (n f : ℕ) → size_ok n f ≡ true → well_formed (fresh_cluster n f) ≡ true
well_formed_fresh n f h = well_formed_lem (fresh_cluster n f) (good_fresh n f h)

-- ---- it fits

fits_zero_time : FitsTime zero_time
fits_zero_time = omega arith

fits_empty : FitsLog empty_log
fits_empty =
    record {
      slots = length-replicate log_limit zero_entry;
      len = omega arith;
      each = λ i h. rw (get_or-replicate log_limit i zero_entry zero_entry h) (record { term = omega arith; key = omega arith; value = omega arith; time = fits_zero_time });
    }

fits_started : (n i : ℕ) → FitsServer (started_of n i zero_server)
unfolding started_of
fits_started n i = ⊎_elim (λ l. rw (lt-ltb i n l) (plain 1 (omega arith))) (λ l. rw (le-ltb i n l) (plain 0 (omega arith))) (lt_or_le i n)
  where
    plain : (w : ℕ) → w ≤ 1 → FitsServer (with_head zero_server (with_wall zero_head w))
    plain w h = record { head = record { term = omega arith; commit = omega arith; wall = omega arith; time = fits_zero_time }; log = fits_empty; mail = fits_zero_mail; rows = fits_zero_rows }

pub fits_fresh : (n f : ℕ) → n ≤ most_servers → f < byte → Fits (fresh_cluster n f)
fits_fresh n f h k =
    record {
      count = omega arith;
      followers = k;
      slots = length_each_from (started_of n) 0 zero_cluster.servers;
      each = λ i l. rw (started_at n f i l) (fits_started n i);
    }
