-- The moments of a run in turn: what two of them have covered agrees, and a position and a term are one entry at both.
-- Assumes nothing.
use mathlib.Core.Path.{◌≡◌, sym, ◌∙◌}
use mathlib.Core.Bool.{true}
use mathlib.Core.Logic.{◌⊎◌, inl, inr}
use mathlib.Core.List.Memᴰ
use mathlib.Core.List.{List, [], ◌∷◌, Memᴰ as Among}
use Prim.Native.Nat.{ℕ, ◌≤◌, ◌<◌}
use native.Mathlib.Omega.{arith}
use lib.ListN.{length, take}
use lib.Seq.{length-take-le, take-take}
use Rattle.server_log.specs.Entries.{is_beginning}
use Rattle.server_log.specs.Logs.{live, length_of}
use Rattle.server_log.specs.Ranges.{FitsLog}
use Rattle.server_log.proofs.Common.{first_beginning}
use Rattle.cluster.specs.declared.Cluster.{Cluster}
use Rattle.cluster.specs.Servers.{server_count, server_at}
use Rattle.reads.specs.MajorityRead.{covered}
use Rattle.wholes.specs.Starts.{Opening}
use Rattle.safety.proofs.Joins.{commit_within, matching_later}
use Rattle.safety.proofs.Demand3.{demand3}
use Rattle.safety.proofs.Views.{fresh_seen, fits_time, same_entry_lem, first_same}
use Rattle.safety.proofs.Stepped.{Now}
use Rattle.promises.specs.Runs.{Event, happens, Onward}
use Rattle.promises.specs.Demand3.{entry_of}
use Rattle.promises.specs.Longest.{records_of}
use Rattle.promises.proofs.Turns.{InTurn, itself, then, next}

-- ---- one moment after another

module _ {z : Opening} where
  -- every moment of a run comes after its beginning
  pub since : {c : Cluster} → Now z c → (es : List Event) → Onward c es → (y : Cluster) → Among y (records_of c es) → InTurn z c y
  since {c} N [] h y m = go (Memᴰ.cases_cons m)
    where
      go : (y ≡ c) ⊎ Among y [] → InTurn z c y
      go (inl q) = rw q (itself N)
      go (inr k) = absurd (Memᴰ.not-nil k)
  since {c} N (e ∷ es) h y m = go (Memᴰ.cases_cons m) (λ k. since {c = happens c e} (next N e h.0).later es h.1 y k)
    where
      go : (y ≡ c) ⊎ Among y (records_of (happens c e) es) → (Among y (records_of (happens c e) es) → InTurn z (happens c e) y)
          → InTurn z c y
      go (inl q) later = rw q (itself N)
      go (inr k) later = then (next N e h.0) (later k)

  -- of two moments one comes after the other
  pub in_turn : {c : Cluster} → Now z c → (es : List Event) → Onward c es → (x y : Cluster) → Among x (records_of c es) → Among y (records_of c es)
      → InTurn z x y ⊎ InTurn z y x
  in_turn {c} N [] h x y mx my = go (Memᴰ.cases_cons mx)
    where
      go : (x ≡ c) ⊎ Among x [] → InTurn z x y ⊎ InTurn z y x
      go (inl q) = inl (rw q (since N [] h y my))
      go (inr k) = absurd (Memᴰ.not-nil k)
  in_turn {c} N (e ∷ es) h x y mx my =
      go (Memᴰ.cases_cons mx) (Memᴰ.cases_cons my) (in_turn {c = happens c e} (next N e h.0).later es h.1 x y)
    where
      rest : List Cluster
      rest = records_of (happens c e) es

      go : (x ≡ c) ⊎ Among x rest → (y ≡ c) ⊎ Among y rest → (Among x rest → Among y rest → InTurn z x y ⊎ InTurn z y x)
          → InTurn z x y ⊎ InTurn z y x
      go (inl q) w later = inl (rw q (since N (e ∷ es) h y my))
      go (inr k) (inl q) later = inr (rw q (since N (e ∷ es) h x mx))
      go (inr k) (inr l) later = later k l

  -- ---- what holds at one moment

  module _ {c : Cluster} (N : Now z c) where
    pub all_counted : server_count c ≡ z.servers
    all_counted = omega (arith, N.counted, N.few)

    log_fits : (i : ℕ) → i < z.servers → FitsLog (server_at c i).log
    log_fits i h = (N.fits.each i (omega (arith, N.few))).log

    pub within : (i : ℕ) → (server_at c i).head.commit ≤ length_of (server_at c i).log
    within i = commit_within (fresh_seen z.servers z.followers) N.walk i

    -- as many entries are covered as the commit point says
    pub covered_long : (i : ℕ) → length (covered (server_at c i)) ≡ (server_at c i).head.commit
    covered_long i = length-take-le (server_at c i).head.commit (live (server_at c i).log) (within i)

  -- ---- at two moments

  module _ {x y : Cluster} (T : InTurn z x y) (s q : ℕ) (hs : s < z.servers) (hq : q < z.servers) where
    -- the first j entries are the same where both commit points cover them
    agree : (j : ℕ) → j ≤ (server_at x s).head.commit → j ≤ (server_at y q).head.commit → take j (live (server_at x s).log) ≡ take j (live (server_at y q).log)
    agree j hx hy =
        first_same (server_at x s) (server_at y q) (log_fits T.earlier s hs) (log_fits T.later q hq) (omega (arith, within T.earlier s))
        ((demand3 (fresh_seen z.servers z.followers) T.earlier.walk T.walk s j hx).commits q hy)

    -- a position and a term are one entry
    pub one_entry : (k : ℕ) → k ≤ length_of (server_at x s).log → k ≤ length_of (server_at y q).log → (entry_of x s k).term ≡ (entry_of y q k).term
        → entry_of x s k ≡ entry_of y q k
    one_entry k hx hy e =
        same_entry_lem (entry_of x s k) (entry_of y q k) (fits_time (server_at x s).log (log_fits T.earlier s hs) k)
        (fits_time (server_at y q).log (log_fits T.later q hq) k)
        (matching_later (fresh_seen z.servers z.followers) T.earlier.walk T.walk s q k hx hy e k (omega arith))

  begins : {x y : Cluster} → Now z x → Now z y → (s q : ℕ) → length (covered (server_at x s)) ≤ length (covered (server_at y q))
      → ((j : ℕ) → j ≤ (server_at x s).head.commit → j ≤ (server_at y q).head.commit → take j (live (server_at x s).log) ≡ take j (live (server_at y q).log))
      → is_beginning (covered (server_at x s)) (covered (server_at y q)) ≡ true
  begins {x} {y} X Y s q l same =
      let k = (server_at x s).head.commit in
      let m = (server_at y q).head.commit in
      let le : k ≤ m = omega (arith, covered_long X s, covered_long Y q) in
      first_beginning k (live (server_at x s).log) (covered (server_at y q)) (within X s) (omega (arith, covered_long Y q))
      (same k (omega arith) le ∙ sym (take-take k m (live (server_at y q).log) le))

  -- what is covered at one moment is a beginning of what is covered at another, earlier or later, where that is not shorter
  pub comparable : {x y : Cluster} → InTurn z x y ⊎ InTurn z y x → (s q : ℕ) → s < z.servers → q < z.servers
      → length (covered (server_at x s)) ≤ length (covered (server_at y q)) → is_beginning (covered (server_at x s)) (covered (server_at y q)) ≡ true
  comparable {x} {y} (inl T) s q hs hq l = begins T.earlier T.later s q l (agree T s q hs hq)
  comparable {x} {y} (inr T) s q hs hq l = begins T.later T.earlier s q l (λ j a b. sym (agree T q s hq hs j b a))
