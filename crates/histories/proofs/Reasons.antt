-- The reason that is given for a record that breaks a rule is a rule that it breaks. Assumes nothing.
use mathlib.Core.Path.{◌≡◌, refl, subst}
use mathlib.Core.Logic.{◌≢◌}
use mathlib.Core.List.{List}
use mathlib.Core.Bool.{Bool, true, false, cond}
use Prim.Native.Nat.{ℕ}
use native.Mathlib.Omega.{arith}
use lib.Dec.{eqb, leb}
use lib.ListN.{length, take}
use borrow.Author.Tests.{eqb-true, eqb-false}
use Rattle.base.proofs.Bools.{and_left, and_right}
use Rattle.steps.specs.declared.Refusal.TheVariants.{IllFormed, OutOfRange}
use Rattle.server_log.specs.declared.Entry.{Entry}
use Rattle.server_log.specs.Entries.{entry_at}
use Rattle.histories.specs.declared.PhoneRecord.{PhoneRecord}
use Rattle.histories.specs.declared.Checked.{Checked}
use Rattle.histories.specs.declared.Checked.TheVariants.{Accepted, Breaks, Refused}
use Rattle.histories.specs.declared.why.Reason.TheVariants.{NoSuchPosition, OtherEntry, NoSuchTime, OtherValue, TooEarly}
use Rattle.histories.specs.Committed.{Committed, entries_of, could_hold}
use Rattle.histories.specs.Rules.{write_kind, write_obeys, known_time, value_at, read_obeys, obeys}
use Rattle.histories.specs.Checking.{record_at, obeys_at, first_breaker, list_ok, checked_of, check_of}
use Rattle.histories.specs.Reasons.{has_position, why_write, why_read, why_of, Because}
use Rattle.histories.proofs.Breakers.{Found, breaker_found}

module _ (es : List Entry) (earlier : List PhoneRecord) (r : PhoneRecord) where
  write_because : r.kind ≡ write_kind → write_obeys es r ≡ false → Because es earlier r (why_write es r)
  unfolding write_obeys why_write
  write_because k h = go (has_position es r) refl
    where
      go : (b : Bool) → has_position es r ≡ b → Because es earlier r (cond b (OtherEntry (entry_at es r.position)) NoSuchPosition)
      go true e =
          let from_one = and_left (leb 1 r.position) _ e in
          let within = and_right (leb 1 r.position) _ e in
          (k, e, refl, rw (from_one, within) at h)
      go false e = (k, e)

  read_because : r.kind ≢ write_kind → read_obeys es earlier r ≡ false → Because es earlier r (why_read es r)
  unfolding read_obeys why_read
  read_because k h = go (known_time es r.time) (eqb (value_at es r.key r.time) r.value) refl refl
    where
      go : (a b : Bool) → known_time es r.time ≡ a → eqb (value_at es r.key r.time) r.value ≡ b
          → Because es earlier r (cond a (cond b TooEarly (OtherValue (value_at es r.key r.time))) NoSuchTime)
      go false b e f = (k, e)
      go true false e f = (k, refl, eqb-false _ _ f)
      go true true e f = (k, rw (e, f) at h)

  -- whatever breaks a rule
  pub because : obeys es earlier r ≡ false → Because es earlier r (why_of es r)
  unfolding obeys why_of
  because h = go (eqb r.kind write_kind) refl h
    where
      go : (b : Bool) → eqb r.kind write_kind ≡ b → cond b (write_obeys es r) (read_obeys es earlier r) ≡ false
          → Because es earlier r (cond b (why_write es r) (why_read es r))
      go true e h = write_because (eqb-true _ _ e) h
      go false e h = read_because (eqb-false _ _ e) h

-- the record that the check names
module _ (g : Committed) (rs : List PhoneRecord) (n : ℕ) where
  breaks : (a : Checked) → Found (length rs) (obeys_at (entries_of g) rs) a → a ≡ Breaks n → obeys_at (entries_of g) rs n ≡ false
  breaks Accepted f e = let z : ◌≡◌ {A = ℕ} 0 1 = cc in absurd (omega arith)
  breaks (Breaks m) f e = let k : m ≡ n = cc in subst (λ (i : ℕ). obeys_at (entries_of g) rs i ≡ false) k f.fails
  breaks (Refused x) f e = absurd f

  named_breaks : check_of rs g ≡ Breaks n → obeys_at (entries_of g) rs n ≡ false
  unfolding checked_of
  named_breaks h = go (could_hold g) (list_ok rs (length rs)) h
    where
      go : (a b : Bool) → cond a (cond b (first_breaker (length rs) (obeys_at (entries_of g) rs)) (Refused OutOfRange)) (Refused IllFormed) ≡ Breaks n
          → obeys_at (entries_of g) rs n ≡ false
      go true true e = breaks (first_breaker (length rs) (obeys_at (entries_of g) rs)) (breaker_found (length rs) (obeys_at (entries_of g) rs)) e
      go true false e = let z : ◌≡◌ {A = ℕ} 0 1 = cc in absurd (omega arith)
      go false b e = let z : ◌≡◌ {A = ℕ} 0 1 = cc in absurd (omega arith)

  pub named_because : check_of rs g ≡ Breaks n → Because (entries_of g) (take n rs) (record_at rs n) (why_of (entries_of g) (record_at rs n))
  named_because h = because (entries_of g) (take n rs) (record_at rs n) (named_breaks h)
