-- A well-formed record as facts: one field for each clause of 01, and back. Assumes nothing.
use mathlib.Core.Path.{◌≡◌, refl, ap, ◌∙◌}
use mathlib.Core.Bool.{Bool, true, false, cond, not, ◌&&◌}
use mathlib.Core.Logic.{⊎_elim}
use Prim.Native.Nat.{ℕ, ◌<◌, ◌≤◌}
use native.Mathlib.Omega.{arith}
use lib.Dec.{eqb, leb}
use lib.ListN.{length}
use borrow.Author.Tests.{leb-true, le-leb, eqb-true, lt-ltb, le-ltb, not-true}
use Rattle.base.proofs.Bools.{and_both, and_left, and_right}
use Rattle.base.proofs.Every.{every_at, every_all}
use Rattle.base.proofs.Facts.{lt_or_le}
use Rattle.clock.specs.Times.{zero_time, is_before}
use Rattle.clock.proofs.Order.{same_time_eq, same_time_refl}
use Rattle.server_log.specs.Entries.{applied_time}
use Rattle.server_log.specs.Logs.{log_limit, empty_log, live, length_of}
use Rattle.server_log.specs.Order.{is_empty_log, log_ok}
use Rattle.server_log.specs.Rows.{rows_of, rows_ok}
use Rattle.server_log.proofs.Orderly.{LogGood, log_good, good_log, empty_log_is, is_empty_log_lem}
use Rattle.server_log.proofs.Rowed.{RowsGood, rows_good, good_rows, rows_of_good, rows_are}
use Rattle.mail.specs.Mails.{zero_mail}
use Rattle.mail.specs.Order.{mail_ok}
use Rattle.mail.proofs.Good.{MailGood, mail_good, good_mail}
use Rattle.mail.proofs.Kept.{zero_mail_is, zero_mail_ok}
use Rattle.cluster.specs.declared.Server.{Server}
use Rattle.cluster.specs.declared.Cluster.{Cluster}
use Rattle.cluster.specs.Servers.{fewest_servers, most_servers, fewest_voters, zero_server, server_at}
use Rattle.cluster.specs.Sets.{member, is_within, voters}
use Rattle.cluster.specs.WellFormed.{numbers_ok, counted_ok, zero_ok, role_ok, server_ok, size_ok, well_formed}
use Rattle.cluster.specs.Ranges.{FitsServer, Fits}

-- ---- a counted server

pub record ServerGood (s : Server) : Type 0 where
  -- it keeps at most as many entries as a log may, slots past them are zero, its entries' terms, keys, values and times are in order and range
  pub log : LogGood s.head.term s.log
  pub last_time : is_before s.head.time (applied_time (live s.log)) ≡ false
  pub commit_point : s.head.commit ≤ length_of s.log
  pub wall_clock : 1 ≤ s.head.wall
  pub primary_term : s.head.primary ≡ true → 1 ≤ s.head.term
  -- both its rows have what a walk finds
  pub rows : RowsGood s.rows s.log s.head.commit

not_is_true : (b : Bool) → b ≡ false → not b ≡ true
not_is_true b e = rw e

pub server_good : (s : Server) → length s.log.entries ≡ log_limit → rows_ok s.rows s.log s.head.commit ≡ true → counted_ok s ≡ true → ServerGood s
unfolding counted_ok numbers_ok
server_good s slots r h =
    let h2 = and_right (log_ok s.head.term s.log) _ h in
    let n = and_right (not (is_before s.head.time (applied_time (live s.log)))) _ h2 in
    let n2 = and_right (leb s.head.commit (length_of s.log)) _ n in
    record {
      log = log_good slots (and_left _ _ h);
      last_time = not-true _ (and_left _ _ h2);
      commit_point = leb-true s.head.commit (length_of s.log) (and_left _ _ n);
      wall_clock = leb-true 1 s.head.wall (and_left _ _ n2);
      primary_term = λ p. leb-true 1 s.head.term (rw p at (and_right (leb 1 s.head.wall) _ n2));
      rows = rows_good r;
    }

pub good_server : (s : Server) → ServerGood s → counted_ok s ≡ true
unfolding counted_ok numbers_ok
good_server s g =
    and_both _ _ (good_log g.log)
    (and_both _ _ (not_is_true _ g.last_time)
    (and_both _ _ (le-leb s.head.commit (length_of s.log) g.commit_point)
    (and_both _ _ (le-leb 1 s.head.wall g.wall_clock) (role s.head.primary refl))))
  where
    role : (b : Bool) → s.head.primary ≡ b → cond b (leb 1 s.head.term) true ≡ true
    role true e = le-leb 1 s.head.term (g.primary_term e)
    role false e = refl

-- ---- a server past the count

pub zero_is : (s : Server) → FitsServer s → rows_ok s.rows s.log s.head.commit ≡ true → zero_ok s ≡ true → s.mail ≡ zero_mail → s ≡ zero_server
unfolding zero_ok
zero_is s f rows h told =
    let h2 = and_right (is_empty_log s.log) _ h in
    let h3 = and_right (eqb s.head.term 0) _ h2 in
    let h4 = and_right (not s.head.primary) _ h3 in
    let h5 = and_right (eqb s.head.commit 0) _ h4 in
    let l = empty_log_is s.log f.log.slots (and_left _ _ h) in
    let t = eqb-true s.head.term 0 (and_left _ _ h2) in
    let p = not-true s.head.primary (and_left _ _ h3) in
    let k = eqb-true s.head.commit 0 (and_left _ _ h4) in
    let w = eqb-true s.head.wall 0 (and_left _ _ h5) in
    let m = same_time_eq s.head.time zero_time (and_right (eqb s.head.wall 0) _ h5) in
    let r = rows_are f.rows (rows_good rows) ∙ (λ i. rows_of (l i) (k i)) in
    λ i. record { head = record { term = t i; primary = p i; commit = k i; wall = w i; time = m i }; log = l i; mail = told i; rows = r i }

pub is_zero : (s : Server) → s ≡ zero_server → zero_ok s ≡ true
unfolding zero_ok
is_zero s e = ap zero_ok e ∙ rw (is_empty_log_lem, same_time_refl zero_time)

past_good : (i : ℕ) (s : Server) → FitsServer s → rows_ok s.rows s.log s.head.commit ≡ true → (zero_ok s && mail_ok 0 i s.mail) ≡ true → s ≡ zero_server
past_good i s f r h = zero_is s f r (and_left _ _ h) (zero_mail_is i f.mail (and_right (zero_ok s) _ h))

good_past : (i : ℕ) (s : Server) → s ≡ zero_server → (zero_ok s && mail_ok 0 i s.mail) ≡ true
good_past i s e = and_both _ _ (is_zero s e) (ap (λ (x : Server). mail_ok 0 i x.mail) e ∙ zero_mail_ok i)

zero_rows_lem : (s : Server) → s ≡ zero_server → rows_ok s.rows s.log s.head.commit ≡ true
zero_rows_lem s e = ap (λ (x : Server). rows_ok x.rows x.log x.head.commit) e ∙ good_rows (rows_of_good empty_log 0)

-- ---- how many servers, and which of them are followers

pub record SizeGood (n f : ℕ) : Type 0 where
  pub at_least_two : fewest_servers ≤ n
  pub at_most_seven : n ≤ most_servers
  pub within : is_within f n ≡ true
  pub two_vote : fewest_voters ≤ voters n f

pub size_good : {n f : ℕ} → size_ok n f ≡ true → SizeGood n f
unfolding size_ok
size_good {n} {f} h =
    let h2 = and_right (leb fewest_servers n) _ h in
    let h3 = and_right (leb n most_servers) _ h2 in
    record {
      at_least_two = leb-true fewest_servers n (and_left _ _ h);
      at_most_seven = leb-true n most_servers (and_left _ _ h2);
      within = and_left _ _ h3;
      two_vote = leb-true fewest_voters (voters n f) (and_right (is_within f n) _ h3);
    }

-- ---- the record

-- no follower is primary
no_follower : (f i : ℕ) (s : Server) → role_ok f i s ≡ true → s.head.primary ≡ true → member f i ≡ false
no_follower f i s h p = not-true (member f i) (rw p at h)

a_voter : (f i : ℕ) (s : Server) → (s.head.primary ≡ true → member f i ≡ false) → role_ok f i s ≡ true
a_voter f i s h = go s.head.primary refl
  where
    go : (b : Bool) → s.head.primary ≡ b → not (b && member f i) ≡ true
    go true e = not_is_true _ (h e)
    go false e = refl

pub record Good (c : Cluster) : Type 0 where
  pub size : size_ok c.count c.followers ≡ true
  pub at_least_two : fewest_servers ≤ c.count
  pub at_most_seven : c.count ≤ most_servers
  pub counted : (i : ℕ) → i < c.count → ServerGood (server_at c i)
  pub mailed : (i : ℕ) → i < c.count → MailGood c.count i (server_at c i).mail
  pub primaries_vote : (i : ℕ) → i < c.count → (server_at c i).head.primary ≡ true → member c.followers i ≡ false
  pub past : (i : ℕ) → c.count ≤ i → i < most_servers → server_at c i ≡ zero_server

pub good : (c : Cluster) → Fits c → well_formed c ≡ true → Good c
unfolding well_formed server_ok
good c f h =
    let z = size_good (and_left _ _ h) in
    let seven = z.at_most_seven in
    record {
      size = and_left _ _ h;
      at_least_two = z.at_least_two;
      at_most_seven = seven;
      counted = λ i l. server_good (server_at c i) (f.each i (omega arith)).log.slots (rowed i (omega arith)) (and_left _ _ (inside i l (omega arith)));
      mailed = λ i l. mail_good (f.each i (omega arith)).mail (and_left _ _ (beside i l (omega arith)));
      primaries_vote = λ i l. no_follower c.followers i (server_at c i) (and_right (mail_ok c.count i (server_at c i).mail) _ (beside i l (omega arith)));
      past = λ i l m. past_good i (server_at c i) (f.each i m) (rowed i m) (rw (le-ltb i c.count l) at (and_right (rows_at i) _ (each i m)));
    }
  where
    rows_at : ℕ → Bool
    rows_at i = rows_ok (server_at c i).rows (server_at c i).log (server_at c i).head.commit

    each : (i : ℕ) → i < most_servers → server_ok c.count c.followers i (server_at c i) ≡ true
    each i l = every_at _ most_servers i (and_right (size_ok c.count c.followers) _ h) l

    rowed : (i : ℕ) → i < most_servers → rows_ok (server_at c i).rows (server_at c i).log (server_at c i).head.commit ≡ true
    rowed i m = and_left _ _ (each i m)

    inside : (i : ℕ) → i < c.count → i < most_servers
        → (counted_ok (server_at c i) && (mail_ok c.count i (server_at c i).mail && role_ok c.followers i (server_at c i))) ≡ true
    inside i l m = rw (lt-ltb i c.count l) at (and_right (rows_at i) _ (each i m))

    beside : (i : ℕ) → i < c.count → i < most_servers → (mail_ok c.count i (server_at c i).mail && role_ok c.followers i (server_at c i)) ≡ true
    beside i l m = and_right (counted_ok (server_at c i)) _ (inside i l m)

pub well_formed_lem : (c : Cluster) → Good c → well_formed c ≡ true
unfolding well_formed server_ok
well_formed_lem c g =
    and_both _ _ g.size
    (every_all _ most_servers (λ i m. ⊎_elim (λ l. in_place i l) (λ l. past_place i l m) (lt_or_le i c.count)))
  where
    in_place : (i : ℕ) → i < c.count → server_ok c.count c.followers i (server_at c i) ≡ true
    in_place i l =
        rw (lt-ltb i c.count l)
        (and_both _ _ (good_rows (g.counted i l).rows)
        (and_both _ _ (good_server (server_at c i) (g.counted i l))
        (and_both _ _ (good_mail (g.mailed i l)) (a_voter c.followers i (server_at c i) (g.primaries_vote i l)))))

    past_place : (i : ℕ) → c.count ≤ i → i < most_servers → server_ok c.count c.followers i (server_at c i) ≡ true
    past_place i l m = rw (le-ltb i c.count l) (and_both _ _ (zero_rows_lem (server_at c i) (g.past i l m)) (good_past i (server_at c i) (g.past i l m)))
