-- The chosen server is elected by all that vote, and writes: from then on it leads. Assumes nothing.
use mathlib.Core.Path.{◌≡◌, refl, ap, sym, ◌∙◌, subst}
use mathlib.Core.Bool.{Bool, true, false, cond, not}
use mathlib.Core.List.{List, [], ◌∷◌, ◌++◌}
use mathlib.Core.Logic.{◌≢◌, ⊎_elim}
use Prim.Native.Nat.{ℕ, suc, ◌+◌, ◌≤◌, ◌<◌}
use native.Mathlib.Omega.{arith}
use lib.Dec.{eqb, leb}
use lib.ListN.{length}
use borrow.Author.Tests.{lt-ltb, le-leb, eq-eqb, ne_eqb}
use Rattle.base.proofs.Bools.{and_both, or_left, or_right, not_both}
use Rattle.base.proofs.Every.{every_all}
use Rattle.base.proofs.Facts.{lt_or_le}
use Rattle.clock.specs.declared.Time.{Time}
use Rattle.std.specs.declared.option.Option.TheVariants.{Some}
use Rattle.clock.specs.Times.{limit, zero_time, tick_of}
use Rattle.clock.proofs.Order.{later_zero}
use Rattle.server_log.specs.declared.Entry.{Entry}
use Rattle.server_log.specs.Entries.{entry_at, last_term}
use Rattle.server_log.specs.Logs.{live, has_room}
use Rattle.server_log.specs.Order.{highest_key}
use Rattle.server_log.proofs.Live.{entry_at_zero}
use Rattle.server_log.proofs.Orderly.{Orderly}
use Rattle.server_log.proofs.Positions.{length_more, last_more}
use Rattle.server_log.proofs.Tidy.{Tidy, tidy_length, room_below, live_appended}
use Rattle.mail.specs.Reports.{zero_note}
use Rattle.mail.specs.Mails.{note_at}
use Rattle.mail.proofs.Held.{emptied_note_at}
use Rattle.cluster.specs.declared.Server.{Server}
use Rattle.cluster.specs.declared.Cluster.{Cluster}
use Rattle.cluster.specs.Servers.{server_count, server_at, voted_of, with_server}
use Rattle.cluster.specs.Sets.{member, votes}
use Rattle.cluster.proofs.Changed.{changed_at, replaced_here, replaced_others}
use Rattle.steps.specs.declared.Step.TheVariants.{Elect, Writes}
use Rattle.steps.specs.Reasons.{Clear}
use Rattle.singles.specs.Appends.{ticks, tick_time, new_entry, stamped_of}
use Rattle.singles.specs.Writes.{most_ahead, write_from}
use Rattle.wholes.specs.Elects.{not_behind, may_vote, vote_ok, all_may_vote, are_voters, new_term}
use Rattle.rules.specs.Rules.{delivered, row_of, rules_of, done_of}
use Rattle.rules.proofs.Others.{office_of, voted_inside, voted_outside}
use Rattle.plans.specs.Moves.{set_from, other}
use Rattle.recovery.specs.Promise.{held_by}
use Rattle.recovery.proofs.Getting.{Steps, other_not, other_below}
use Rattle.recovery.proofs.Sets.{voting_small, voting_member, voting_within, voting_apart, voting_most}
use Rattle.recovery.proofs.Standing.{Stands, steps_clear, some_vote, no_primary, counts_n, in_count, place, put_each}
use Rattle.recovery.proofs.Leading.{Task}
use Rattle.recovery.proofs.Copying.{Copying}

-- ---- before the election: none has a higher term, and of those that vote none is ahead; there is room, and numbers may grow

pub record Ready (n f : ℕ) (a : ℕ) (c : Cluster) : Type 0 where
  pub stands : Stands n f c
  pub below : a < n
  pub voter : votes f a ≡ true
  pub top : (i : ℕ) → i < n → (server_at c i).head.term ≤ (server_at c a).head.term
  pub ahead : (i : ℕ) → i < n → votes f i ≡ true → not_behind (server_at c a) (server_at c i) ≡ true
  pub term : (server_at c a).head.term < limit
  pub room : has_room (server_at c a).log ≡ true
  pub l : (server_at c a).head.time.l < limit

-- ---- after it: a follower keeps its term, which is lower

pub record Won (n f : ℕ) (a t : ℕ) (c : Cluster) : Type 0 where
  pub stands : Stands n f c
  pub below : a < n
  pub from_one : 1 ≤ t
  pub primary : (server_at c a).head.primary ≡ true
  pub own : (server_at c a).head.term ≡ t
  pub terms : (i : ℕ) → i < n → (server_at c i).head.term ≤ t
  pub secondary : (i : ℕ) → i < n → i ≢ a → (server_at c i).head.primary ≡ false
  pub lasts : (i : ℕ) → i < n → last_term (held_by c i) < t
  pub len : (server_at c a).mail.queue.len ≡ 0
  pub notes : (i : ℕ) → note_at (server_at c a).mail i ≡ zero_note
  pub room : has_room (server_at c a).log ≡ true
  pub l : (server_at c a).head.time.l < limit

-- a server's last term is not above its term
pub last_below : {n f : ℕ} {c : Cluster} → Stands n f c → (i : ℕ) → i < n → last_term (held_by c i) ≤ (server_at c i).head.term
last_below {c = c} h i l = ⊎_elim (λ k. (g.each (length (held_by c i)) k (omega arith)).not_above) empty (lt_or_le 0 (length (held_by c i)))
  where
    g : Orderly (server_at c i).head.term (held_by c i)
    g = (h.good.counted i (omega (arith, h.counted))).log.order

    empty : length (held_by c i) ≤ 0 → last_term (held_by c i) ≤ (server_at c i).head.term
    empty k = omega (arith, ap (λ (e : Entry). e.term) (entry_at_zero (held_by c i) (length (held_by c i)) (omega arith)))

module _ {n f : ℕ} {a : ℕ} {c : Cluster} (h : Ready n f a c) where
  abbrev set : ℕ
  set = set_from (votes f) 0 n

  few : n ≤ 7
  few = h.stands.few

  all_may : all_may_vote c (server_at c a) set ≡ true
  unfolding all_may_vote may_vote
  all_may =
      every_all _ (server_count c)
      (λ i l. let k : i < n = omega (arith, counts_n h.stands) in by_vote i k (votes f i) refl)
    where
      by_vote : (i : ℕ) → i < n → (b : Bool) → votes f i ≡ b → vote_ok (server_at c a) (server_at c i) set i ≡ true
      by_vote i k true v = or_right (not (member set i)) _ (and_both _ _ (le-leb (server_at c i).head.term (server_at c a).head.term (h.top i k)) (h.ahead i k v))
      by_vote i k false v = or_left _ _ (ap not (voting_member n f few i k ∙ v))

  are_voters_lem : are_voters c a set ≡ true
  unfolding are_voters
  are_voters_lem =
      rw (counts_n h.stands, h.stands.follows)
      (and_both _ _ (lt-ltb a n h.below) (and_both _ _ h.voter (and_both _ _ (voting_within n f few) (voting_apart n f few))))

  elect_clear : Clear (rules_of c (Elect a set))
  unfolding row_of
  elect_clear = (
    are_voters_lem,
    (
      rw (counts_n h.stands, h.stands.follows) (voting_most n f few (some_vote h.stands)),
      (voting_member n f few a h.below ∙ h.voter, (all_may, (lt-ltb (server_at c a).head.term limit h.term, tt))),
    ),
  )

  abbrev d : Cluster
  d = (done_of c (Elect a set)).cluster

  -- what holds of voters in office, and of followers as they were, holds of each
  either : (i : ℕ) → i < n → (P : Server → Type 0) → (votes f i ≡ true → P (office_of (server_at c i) (new_term c a) (eqb i a))) → (votes f i ≡ false → P (server_at c i))
      → P (server_at d i)
  unfolding row_of
  either i l P x y = go (votes f i) refl
    where
      at : server_at d i ≡ voted_of a set (new_term c a) i (server_at c i)
      at = changed_at (voted_of a set (new_term c a)) c i (place h.stands i l)

      go : (b : Bool) → votes f i ≡ b → P (server_at d i)
      go true v = subst P (sym (at ∙ voted_inside a set (new_term c a) i (server_at c i) (voting_member n f few i l ∙ v))) (x v)
      go false v = subst P (sym (at ∙ voted_outside a set (new_term c a) i (server_at c i) (voting_member n f few i l ∙ v))) (y v)

  at_a : server_at d a ≡ office_of (server_at c a) (new_term c a) true
  at_a =
      either a h.below (λ x. x ≡ office_of (server_at c a) (new_term c a) true)
      (λ v. ap (office_of (server_at c a) (new_term c a)) (eq-eqb a a refl)) (λ v. not_both (votes f a) h.voter v)

  pub elect_steps : Steps (Won n f a (new_term c a)) c (Elect a set)
  elect_steps =
      steps_clear h.stands (Elect a set) (omega (arith, few, h.below, voting_small n f few)) refl elect_clear
      (λ stands.
      record {
        stands = stands;
        below = h.below;
        from_one = omega arith;
        primary = ap (λ (x : Server). x.head.primary) at_a;
        own = ap (λ (x : Server). x.head.term) at_a;
        terms = λ i l. either i l (λ x. x.head.term ≤ new_term c a) (λ v. omega arith) (λ v. omega (arith, h.top i l));
        secondary = λ i l ne. either i l (λ x. x.head.primary ≡ false) (λ v. ne_eqb i a ne) (no_primary h.stands i l);
        lasts = λ i l. let low : last_term (held_by c i) < new_term c a = omega (arith, last_below h.stands i l, h.top i l) in
            either i l (λ x. last_term (live x.log) < new_term c a) (λ v. low) (λ v. low);
        len = ap (λ (x : Server). x.mail.queue.len) at_a;
        notes = λ i. ap (λ (x : Server). note_at x.mail i) at_a ∙ emptied_note_at (server_at c a).mail i;
        room = rw at_a h.room;
        l = rw at_a h.l;
      })

-- ---- the write

-- l may grow where it has to
may_tick : (w : ℕ) (t : Time) → t.l < limit → ticks (tick_of w t) ≡ true
unfolding tick_of
may_tick w t h = rw (lt-ltb t.l limit h) (go (leb w t.p))
  where
    go : (b : Bool) → ticks (cond b (Some (record { p = t.p; l = t.l + 1 })) (Some (record { p = w; l = 0 }))) ≡ true
    go true = refl
    go false = refl

module _ {m f : ℕ} {a t : ℕ} {c : Cluster} (h : Won (suc m) f a t c) (key value : ℕ) (small : key ≤ highest_key) (from_one : 1 ≤ value) (fits : value ≤ limit) where
  abbrev s : Server
  s = server_at c a

  abbrev entry : Entry
  entry = new_entry s key value (tick_time (tick_of s.head.wall (write_from s zero_time)))

  -- what the chosen one holds from now on
  abbrev pub written : List Entry
  written = held_by c a ++ (entry ∷ [])

  ticks_on : ticks (tick_of s.head.wall (write_from s zero_time)) ≡ true
  ticks_on = rw (later_zero s.head.time) (may_tick s.head.wall s.head.time h.l)

  write_clear : Clear (rules_of c (Writes a key value zero_time))
  unfolding row_of
  write_clear = (
    in_count h.stands a h.below,
    (le-leb key highest_key small, (le-leb 1 value from_one, (le-leb 0 (s.head.wall + most_ahead) (omega arith), (h.primary, (h.room, (ticks_on, tt)))))),
  )

  tidy : Tidy s.log
  tidy = (h.stands.good.counted a (omega (arith, h.stands.counted, h.below))).log.tidy

  pub task : Task m a t written
  task =
      record {
        below = h.below;
        from_one = h.from_one;
        last = ap (λ (e : Entry). e.term) (last_more (held_by c a) entry) ∙ h.own;
        some = omega (arith, length_more (held_by c a) entry);
        few = omega (arith, length_more (held_by c a) entry, room_below s.log h.room, tidy_length tidy);
      }

  pub last_written : entry_at written (length written) ≡ entry
  last_written = last_more (held_by c a) entry

  abbrev after : Cluster
  after = with_server c a (stamped_of s key value (tick_time (tick_of s.head.wall (write_from s zero_time))))

  pa : a < length c.servers
  pa = place h.stands a h.below

  pub writes_steps : Steps (Copying m f a t written 0) c (Writes a key value zero_time)
  unfolding row_of delivered stamped_of
  writes_steps =
      steps_clear h.stands (Writes a key value zero_time) (omega (arith, h.stands.few, h.below, small, fits)) refl write_clear
      (λ stands.
      let here = replaced_here c a (stamped_of s key value (tick_time (tick_of s.head.wall (write_from s zero_time)))) pa in
      record {
        leads = record {
          stands = stands;
          primary = ap (λ (x : Server). x.head.primary) here ∙ h.primary;
          held = ap (λ (x : Server). live x.log) here ∙ live_appended tidy entry h.room;
          own = ap (λ (x : Server). x.head.term) here ∙ h.own;
          terms = put_each c a _ pa (λ k x. k < suc m → x.head.term ≤ t) (λ l. omega (arith, h.terms a l)) (λ k ne l. omega (arith, h.terms k l));
          secondary = put_each c a _ pa (λ k x. k < suc m → k ≢ a → x.head.primary ≡ false) (h.secondary a) (λ k ne. h.secondary k);
        };
        commit = omega (
          arith,
          ap (λ (x : Server). x.head.commit) here,
          length_more (held_by c a) entry,
          (h.stands.good.counted a (omega (arith, h.stands.counted, h.below))).commit_point,
          tidy_length tidy,
        );
        served = λ k l. absurd (omega arith);
        waiting = λ k l lk. rw (replaced_others c a (stamped_of s key value (tick_time (tick_of s.head.wall (write_from s zero_time)))) (other a k) (other_not a k)) (h.lasts (other a k) (other_below a k m lk));
        len = ap (λ (x : Server). x.mail.queue.len) here ∙ h.len;
        reports = λ k l. absurd (omega arith);
        notes = λ i. ap (λ (x : Server). note_at x.mail i) here ∙ h.notes i;
      })
