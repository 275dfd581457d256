-- The chosen server hears the greatest term if it has to: then it is ready to be elected. Assumes nothing.
use mathlib.Core.Path.{◌≡◌, refl, ap, sym, ◌∙◌}
use mathlib.Core.Bool.{Bool, true, false, cond, not}
use mathlib.Core.List.{[], ◌∷◌}
use mathlib.Core.Logic.{◌≢◌, inl}
use Prim.Native.Nat.{ℕ, ◌≤◌, ◌<◌}
use native.Mathlib.Omega.{arith}
use lib.Dec.{ltb}
use lib.ListN.{length}
use borrow.Author.Tests.{ltb-true, ltb-false, leb-true, ne_eqb}
use Rattle.base.proofs.Bools.{and_left, and_right}
use Rattle.base.proofs.Every.{every_at}
use Rattle.clock.specs.declared.Time.{Time}
use Rattle.clock.specs.Times.{limit}
use Rattle.clock.proofs.Order.{later_either}
use Rattle.server_log.specs.Logs.{has_room}
use Rattle.cluster.specs.declared.Server.{Server}
use Rattle.cluster.specs.declared.Cluster.{Cluster}
use Rattle.cluster.specs.Servers.{server_count, server_at, with_server}
use Rattle.cluster.specs.Sets.{votes}
use Rattle.cluster.proofs.Changed.{replaced_here}
use Rattle.steps.specs.declared.Step.TheVariants.{Hears}
use Rattle.steps.specs.Reasons.{Clear}
use Rattle.wholes.specs.Elects.{not_behind}
use Rattle.pairs.specs.Hears.{heard_of}
use Rattle.rules.specs.Rules.{delivered, row_of, rules_of}
use Rattle.plans.specs.Plan.{others, may_lead, not_older, chosen, newest_server, hearing}
use Rattle.plans.specs.Making.{is_low, all_room, all_low}
use Rattle.plans.proofs.Best.{best_within}
use Rattle.recovery.proofs.Getting.{Steps, GetsOr9, gets_none, gets_more}
use Rattle.recovery.proofs.Best.{best_of, by_term, by_log, Before, leads_before, is_not_behind}
use Rattle.recovery.proofs.Sets.{some_passes}
use Rattle.recovery.proofs.Standing.{Stands, steps_clear, some_vote, counts_n, in_count, place, put_each}
use Rattle.recovery.proofs.Winning.{Ready}

-- both are servers
module _ {n f : ℕ} {c : Cluster} (h : Stands n f c) where
  two : 2 ≤ n
  two = omega (arith, h.good.at_least_two, h.counted)

  pub chosen_below : chosen c < n
  chosen_below = omega (arith, best_within (may_lead c) (others c), counts_n h, two)

  pub newest_below : newest_server c < n
  newest_below = omega (arith, best_within (not_older c) (others c), counts_n h, two)

-- ---- what may be asked for, server by server

module _ (c : Cluster) (i : ℕ) (l : i < server_count c) where
  pub room_at : all_room c ≡ true → has_room (server_at c i).log ≡ true
  unfolding all_room
  room_at h = every_at _ (server_count c) i h l

  pub low_term : all_low c ≡ true → (server_at c i).head.term < limit
  unfolding all_low is_low
  low_term h = ltb-true (server_at c i).head.term limit (and_left _ _ (every_at _ (server_count c) i h l))

  pub low_l : all_low c ≡ true → (server_at c i).head.time.l < limit
  unfolding all_low is_low
  low_l h =
      let s = (server_at c i).head in
      let x = and_right (ltb s.term limit) _ (every_at _ (server_count c) i h l) in
      ltb-true s.time.l limit (and_right (ltb s.time.p limit) _ (and_right (ltb s.wall limit) _ x))

module _ {n f : ℕ} {c : Cluster} (h : Stands n f c) (room : all_room c ≡ true) (low : all_low c ≡ true) where
  abbrev a : ℕ
  a = chosen c

  abbrev b : ℕ
  b = newest_server c

  within : (i : ℕ) → i < n → i ≤ others c
  within i l = omega (arith, counts_n h)

  in_all : (i : ℕ) → i < n → i < server_count c
  in_all i l = omega (arith, counts_n h)

  a_below : a < n
  a_below = chosen_below h

  b_below : b < n
  b_below = newest_below h

  before : (i : ℕ) → i < n → votes f i ≡ true → Before c a i
  before i l v = leads_before c a i (best_of (by_log c) (others c) i (within i l)) (rw h.follows v)

  ahead : (i : ℕ) → i < n → votes f i ≡ true → not_behind (server_at c a) (server_at c i) ≡ true
  ahead i l v = is_not_behind (server_at c a) (server_at c i) (before i l v).not_ahead

  -- somebody votes, so it does
  voter : votes f a ≡ true
  voter = let s = some_passes (votes f) n (some_vote h) in ap (λ (x : ℕ). votes x a) (sym h.follows) ∙ (before s.0 s.1 s.2).votes_too

  newer : (i : ℕ) → i < n → (server_at c i).head.term ≤ (server_at c b).head.term
  unfolding not_older
  newer i l = leb-true (server_at c i).head.term (server_at c b).head.term (best_of (by_term c) (others c) i (within i l))

  -- it has the greatest term
  has_it : (server_at c b).head.term ≤ (server_at c a).head.term → Ready n f a c
  has_it l =
      record {
        stands = h;
        below = a_below;
        voter = voter;
        top = λ i k. omega (arith, newer i k);
        ahead = ahead;
        term = low_term c a (in_all a a_below) low;
        room = room_at c a (in_all a a_below) room;
        l = low_l c a (in_all a a_below) low;
      }

  -- it hears who has it
  module _ (up : (server_at c a).head.term < (server_at c b).head.term) where
    apart : a ≢ b
    apart e = omega (arith, ap (λ (k : ℕ). (server_at c k).head.term) e)

    clear : Clear (rules_of c (Hears a b))
    unfolding row_of
    clear = (in_count h a a_below, (in_count h b b_below, (ap not (ne_eqb a b apart), tt)))

    pa : a < length c.servers
    pa = place h a a_below

    abbrev heard : Cluster
    heard = with_server c a (heard_of (server_at c a) (server_at c b))

    hears_it : Steps (Ready n f a) c (Hears a b)
    unfolding row_of delivered heard_of not_behind
    hears_it =
        steps_clear h (Hears a b) (omega (arith, h.few, a_below, b_below)) refl clear
        (λ stands.
        let here = replaced_here c a (heard_of (server_at c a) (server_at c b)) pa in
        let e : (server_at heard a).head.term ≡ (server_at c b).head.term = ap (λ (z : Server). z.head.term) here ∙ omega arith in
        record {
          stands = stands;
          below = a_below;
          voter = voter;
          top = put_each c a _ pa (λ k z. k < n → z.head.term ≤ (server_at heard a).head.term) (λ k. omega (arith, e)) (λ k ne lk. omega (arith, e, newer k lk));
          ahead = rw here (put_each c a _ pa (λ k z. k < n → votes f k ≡ true → not_behind (server_at c a) z ≡ true) (ahead a) (λ k ne. ahead k));
          term = omega (arith, e, low_term c b (in_all b b_below) low);
          room = rw here (room_at c a (in_all a a_below) room);
          l = rw here
              (later_either (server_at c a).head.time (server_at c b).head.time (λ (z : Time). z.l < limit) (low_l c a (in_all a a_below) low)
              (low_l c b (in_all b b_below) low));
        })

  pub gets_ready : GetsOr9 (Ready n f a) c (hearing c a)
  unfolding hearing
  gets_ready = go (ltb (server_at c a).head.term (server_at c b).head.term) refl
    where
      go : (x : Bool) → ltb (server_at c a).head.term (server_at c b).head.term ≡ x → GetsOr9 (Ready n f a) c (cond x ((λ d. Hears a b) ∷ []) [])
      go true e = gets_more {m = λ d. Hears a b} (inl (hears_it (ltb-true (server_at c a).head.term (server_at c b).head.term e))) (λ d p. gets_none p)
      go false e = gets_none (has_it (ltb-false (server_at c a).head.term (server_at c b).head.term e))
