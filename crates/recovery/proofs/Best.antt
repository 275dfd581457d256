-- The best of numbers holds its own against each of them; and servers are so compared, by term, and, of those that vote, by last term and length.
-- Assumes nothing.
use mathlib.Core.Path.{◌≡◌, refl, sym}
use mathlib.Core.Bool.{Bool, true, false, cond, not, ◌&&◌, ◌||◌}
use mathlib.Core.Logic.{◌⊎◌, inl, inr, ⊎_elim}
use Prim.Native.Nat.{ℕ, zero, suc, ◌≤◌, ◌<◌}
use native.Mathlib.Omega.{arith}
use native.Mathlib.Nat.{eq-or-lt_of_le, le_of_suc-le-suc}
use lib.Dec.{eqb, ltb, leb}
use borrow.Author.Tests.{ltb-true, ltb-false, leb-true, leb-false, eqb-true, eqb-false, lt-ltb, le-leb, eq-eqb}
use Rattle.base.proofs.Bools.{and_left, and_right, and_both, or_left, or_right, or_cases}
use Rattle.base.proofs.Facts.{lt_or_le}
use Rattle.server_log.specs.Entries.{last_term}
use Rattle.server_log.specs.Logs.{live, length_of}
use Rattle.cluster.specs.declared.Server.{Server}
use Rattle.cluster.specs.declared.Cluster.{Cluster}
use Rattle.cluster.specs.Servers.{server_at}
use Rattle.cluster.specs.Sets.{votes}
use Rattle.wholes.specs.Elects.{not_behind}
use Rattle.plans.specs.Moves.{best}
use Rattle.plans.specs.Plan.{may_lead, not_older}

-- how numbers are compared: each with itself, one with the other where not the other with it, and so on from one to the next
pub record Order (holds_own : ℕ → ℕ → Bool) : Type 0 where
  pub itself : (i : ℕ) → holds_own i i ≡ true
  pub total : (i j : ℕ) → holds_own i j ≡ false → holds_own j i ≡ true
  pub along : (i j k : ℕ) → holds_own i j ≡ true → holds_own j k ≡ true → holds_own i k ≡ true

module _ {holds_own : ℕ → ℕ → Bool} (o : Order holds_own) where
  pub best_of : (k i : ℕ) → i ≤ k → holds_own (best holds_own k) i ≡ true
  unfolding best
  best_of zero i l = let z : i ≡ 0 = omega arith in rw z (o.itself 0)
  best_of (suc k) i l = go (holds_own (best holds_own k) (suc k)) refl (best_of k i) (eq-or-lt_of_le l)
    where
      go : (b : Bool) → holds_own (best holds_own k) (suc k) ≡ b → (i ≤ k → holds_own (best holds_own k) i ≡ true) → (i ≡ suc k) ⊎ (i < suc k)
          → holds_own (cond b (best holds_own k) (suc k)) i ≡ true
      go true e ih (inl q) = rw q e
      go true e ih (inr h) = ih (le_of_suc-le-suc h)
      go false e ih (inl q) = rw q (o.itself (suc k))
      go false e ih (inr h) = o.along (suc k) (best holds_own k) i (o.total _ _ e) (ih (le_of_suc-le-suc h))

-- ---- by term

pub by_term : (c : Cluster) → Order (not_older c)
unfolding not_older
by_term c =
    record {
      itself = λ i. le-leb (term i) (term i) (omega arith);
      total = λ i j e. le-leb (term i) (term j) (omega (arith, leb-false (term j) (term i) e));
      along = λ i j k p q. le-leb (term k) (term i) (omega (arith, leb-true (term j) (term i) p, leb-true (term k) (term j) q));
    }
  where
    term : ℕ → ℕ
    term i = (server_at c i).head.term

-- ---- by last term and length

abbrev pub last_of : Server → ℕ
last_of s = last_term (live s.log)

-- t is not ahead of s
pub record NotAhead (s t : Server) : Type 0 where
  pub le : last_of t ≤ last_of s
  pub eq : last_of s ≡ last_of t → length_of t.log ≤ length_of s.log

pub not_behind_lem : (s t : Server) → not_behind s t ≡ true → NotAhead s t
unfolding not_behind
not_behind_lem s t e = go (or_cases (ltb (last_of t) (last_of s)) _ e)
  where
    go : (ltb (last_of t) (last_of s) ≡ true) ⊎ ((eqb (last_of t) (last_of s) && leb (length_of t.log) (length_of s.log)) ≡ true) → NotAhead s t
    go (inl h) = let l = ltb-true (last_of t) (last_of s) h in record { le = omega arith; eq = λ x. absurd (omega arith) }
    go (inr h) =
        let l = eqb-true (last_of t) (last_of s) (and_left _ _ h) in
        let k = leb-true (length_of t.log) (length_of s.log) (and_right (eqb (last_of t) (last_of s)) _ h) in
        record { le = omega arith; eq = λ x. k }

pub is_not_behind : (s t : Server) → NotAhead s t → not_behind s t ≡ true
unfolding not_behind
is_not_behind s t h =
    ⊎_elim (λ l. or_left _ _ (lt-ltb (last_of t) (last_of s) l))
    (λ l. let e : last_of s ≡ last_of t = omega (arith, h.le) in
    or_right (ltb (last_of t) (last_of s)) _ (and_both _ _ (eq-eqb (last_of t) (last_of s) (sym e)) (le-leb (length_of t.log) (length_of s.log) (h.eq e))))
    (lt_or_le (last_of t) (last_of s))

not_ahead_trans : {s t u : Server} → NotAhead s t → NotAhead t u → NotAhead s u
not_ahead_trans {s} {t} {u} p q =
    record {
      le = omega (arith, p.le, q.le);
      eq = λ e. let x = p.eq (omega (arith, p.le, q.le)) in let y = q.eq (omega (arith, p.le, q.le)) in omega arith;
    }

-- one of two is not ahead of the other
either : (s t : Server) → not_behind s t ≡ false → NotAhead t s
unfolding not_behind
either s t e = go (ltb (last_of t) (last_of s)) refl (eqb (last_of t) (last_of s)) refl (leb (length_of t.log) (length_of s.log)) refl e
  where
    go : (x : Bool) → ltb (last_of t) (last_of s) ≡ x → (y : Bool) → eqb (last_of t) (last_of s) ≡ y → (z : Bool) → leb (length_of t.log) (length_of s.log) ≡ z
        → (x || (y && z)) ≡ false → NotAhead t s
    go true p y q z r e = let w : ◌≡◌ {A = ℕ} 0 1 = cc in absurd (omega arith)
    go false p true q true r e = let w : ◌≡◌ {A = ℕ} 0 1 = cc in absurd (omega arith)
    go false p true q false r e =
        record { le = ltb-false (last_of t) (last_of s) p; eq = λ x. omega (arith, leb-false (length_of t.log) (length_of s.log) r) }
    go false p false q z r e = record { le = ltb-false (last_of t) (last_of s) p; eq = λ x. absurd (eqb-false (last_of t) (last_of s) q x) }

-- ---- of those that vote

-- i may lead before k, where k votes: i does too, and k is not ahead of it
pub record Before (c : Cluster) (i k : ℕ) : Type 0 where
  pub votes_too : votes c.followers i ≡ true
  pub not_ahead : NotAhead (server_at c i) (server_at c k)

pub leads_before : (c : Cluster) (i k : ℕ) → may_lead c i k ≡ true → votes c.followers k ≡ true → Before c i k
unfolding may_lead
leads_before c i k e v =
    let both : (votes c.followers i && not_behind (server_at c i) (server_at c k)) ≡ true = rw v at e in
    record { votes_too = and_left _ _ both; not_ahead = not_behind_lem _ _ (and_right (votes c.followers i) _ both) }

may_lead_lem : (c : Cluster) (i k : ℕ) → (votes c.followers k ≡ true → Before c i k) → may_lead c i k ≡ true
unfolding may_lead
may_lead_lem c i k h = go (votes c.followers k) refl
  where
    go : (b : Bool) → votes c.followers k ≡ b → (not b || (votes c.followers i && not_behind (server_at c i) (server_at c k))) ≡ true
    go true e = and_both _ _ (h e).votes_too (is_not_behind _ _ (h e).not_ahead)
    go false e = refl

-- k votes, and i doesn't or is behind it
behind : (c : Cluster) (i k : ℕ) → may_lead c i k ≡ false → votes c.followers i ≡ true → Before c k i
unfolding may_lead
behind c i k e v = go (votes c.followers k) refl (not_behind (server_at c i) (server_at c k)) refl (rw v at e)
  where
    go : (x : Bool) → votes c.followers k ≡ x → (y : Bool) → not_behind (server_at c i) (server_at c k) ≡ y → (not x || (true && y)) ≡ false → Before c k i
    go true p true q f = let w : ◌≡◌ {A = ℕ} 0 1 = cc in absurd (omega arith)
    go true p false q f = record { votes_too = p; not_ahead = either _ _ q }
    go false p y q f = let w : ◌≡◌ {A = ℕ} 0 1 = cc in absurd (omega arith)

pub by_log : (c : Cluster) → Order (may_lead c)
by_log c =
    record {
      itself = λ i. may_lead_lem c i i (λ v. record { votes_too = v; not_ahead = record { le = omega arith; eq = λ e. omega arith } });
      total = λ i j e. may_lead_lem c j i (behind c i j e);
      along = λ i j k p q. may_lead_lem c i k
          (λ v. let y = leads_before c j k q v in
          let x = leads_before c i j p y.votes_too in
          record { votes_too = x.votes_too; not_ahead = not_ahead_trans x.not_ahead y.not_ahead });
    }
