-- Laws for the loops: a search from the newest end for the last entry that passes a test.
-- Assumes nothing.
use mathlib.Core.Path.{◌≡◌, ap, sym, ◌∙◌}
use mathlib.Core.List.{List}
use mathlib.Core.Bool.{Bool, true, false}
use Prim.Native.Nat.{ℕ, ◌+◌, ◌-◌, ◌<◌, ◌≤◌}
use native.Mathlib.Omega.{arith}
use lib.Dec.{leb}
use lib.ListN.{length}
use borrow.Author.Tests.{le-leb}
use Rattle.base.specs.Numbers.{highest}
use Rattle.base.proofs.Bools.{or_left, or_right}
use Rattle.base.proofs.Highest.{highest_here, highest_down}
use Rattle.clock.specs.declared.Time.{Time}
use Rattle.clock.specs.Times.{zero_time, same_time}
use Rattle.server_log.specs.declared.Entry.{Entry}
use Rattle.server_log.specs.Entries.{entry_at}
use Rattle.histories.specs.Rules.{last_where, known_time, readable, value_at}

-- the entry looked for is among the first n
pub record LastWithin (p : Entry → Bool) (es : List Entry) (n : ℕ) : Type 0 where
  pub within : n ≤ length es
  pub none_above : last_where p es ≡ highest (λ m. p (entry_at es m)) n

pub last_all : {p : Entry → Bool} {es : List Entry} {n : ℕ} → n ≡ length es → LastWithin p es n
last_all {p} {es} h = record { within = omega arith; none_above = ap (highest (λ m. p (entry_at es m))) (sym h) }

module _ {p : Entry → Bool} {es : List Entry} {n : ℕ} (u : LastWithin p es n) where
  module _ (some : 0 < n) (e : Entry) (q : e ≡ entry_at es (n - 1 + 1)) where
    stands : p e ≡ p (entry_at es n)
    stands = let k : n - 1 + 1 ≡ n = omega arith in ap p (q ∙ ap (entry_at es) k)

    -- the search ends at the first entry that passes
    pub last_here : p e ≡ true → last_where p es ≡ n
    last_here h = u.none_above ∙ highest_here (λ m. p (entry_at es m)) n (λ z. omega arith) (sym stands ∙ h)

    pub last_below : p e ≡ false → LastWithin p es (n - 1)
    last_below h =
        record {
          within = omega (arith, u.within);
          none_above = u.none_above ∙ highest_down (λ m. p (entry_at es m)) n (sym stands ∙ h);
        }

  pub last_none : n ≤ 0 → last_where p es ≡ 0
  unfolding highest
  last_none h = let z : n ≡ 0 = omega arith in u.none_above ∙ ap (highest (λ m. p (entry_at es m))) z

-- ---- a time that is looked for

module _ (t : Time) {es : List Entry} {n : ℕ} (u : LastWithin (λ e. same_time e.time t) es n) where
  pub time_found : 0 < n → (e : Entry) → e ≡ entry_at es (n - 1 + 1) → same_time e.time t ≡ true → true ≡ known_time es t
  unfolding known_time
  time_found some e q h = sym (or_right (same_time t zero_time) _ (ap (leb 1) (last_here u some e q h) ∙ le-leb 1 n some))

  pub time_missing : n ≤ 0 → same_time t zero_time ≡ false → false ≡ known_time es t
  unfolding known_time
  time_missing h f = sym (rw (f, last_none u h))

pub time_zero : (t : Time) (es : List Entry) → same_time t zero_time ≡ true → true ≡ known_time es t
unfolding known_time
time_zero t es h = sym (or_left _ _ h)

-- ---- an entry that a read looks for

module _ (key : ℕ) (t : Time) {es : List Entry} {n : ℕ} (u : LastWithin (readable key t) es n) where
  pub value_found : 0 < n → (e : Entry) → e ≡ entry_at es (n - 1 + 1) → readable key t e ≡ true → e.value ≡ value_at es key t
  unfolding value_at
  value_found some e q h =
      let k : n - 1 + 1 ≡ n = omega arith in
      ap (λ (d : Entry). d.value) (q ∙ ap (entry_at es) (k ∙ sym (last_here u some e q h)))

  pub value_missing : n ≤ 0 → 0 ≡ value_at es key t
  unfolding value_at entry_at
  value_missing h = sym (ap (λ (m : ℕ). (entry_at es m).value) (last_none u h))
