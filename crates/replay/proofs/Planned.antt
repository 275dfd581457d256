-- A plan that is carried out gives what the line gives, and names only servers of the record. Assumes nothing.
use Rattle.std.proofs.Common.{None}
use mathlib.Core.Path.{◌≡◌, refl, ap, sym, ◌∙◌}
use mathlib.Core.List.{[], ◌∷◌}
use mathlib.Core.Bool.{Bool, true, false, cond, not, ◌||◌}
use Prim.Native.Nat.{ℕ, ◌<◌}
use lib.Dec.{eqb, ltb}
use borrow.Author.Tests.{ltb-true}
use Rattle.cluster.specs.declared.Cluster.{Cluster}
use Rattle.cluster.specs.declared.Server.{Server as ServerOf}
use Rattle.cluster.specs.Servers.{server_at, server_count, with_server}
use Rattle.cluster.specs.WellFormed.{well_formed}
use Rattle.steps.specs.declared.Refusal.{Refusal}
use Rattle.steps.specs.declared.Refusal.TheVariants.{IllFormed, OutOfRange}
use Rattle.steps.specs.declared.Step.{Step}
use Rattle.steps.specs.declared.Step.TheVariants as S
use Rattle.steps.specs.declared.Outcome.{Outcome}
use Rattle.steps.specs.declared.Stepped.{Stepped}
use Rattle.steps.specs.Refusals.{Rules, decided}
use Rattle.steps.specs.Answers.{refusing, refusing_all}
use Rattle.singles.specs.StepsDown.{down_rules}
use Rattle.singles.specs.WallClock.{clock_rules}
use Rattle.singles.specs.WritesNothing.{nothing_rules}
use Rattle.singles.specs.Writes.{write_rules}
use Rattle.reads.specs.Acknowledged.{acknowledge_rules}
use Rattle.reads.specs.LocalRead.{local_rules}
use Rattle.reads.specs.MajorityRead.{majority_rules}
use Rattle.reads.specs.NewestRead.{newest_rules}
use Rattle.std.proofs.Common.{Option, Some, None, Result, Ok, Err}
use Rattle.rules.specs.Rules.{delivered, is_start, core_of, step_of, put_back}
use Rattle.rules.specs.One.{one_of, single_of, pair_of}
use Rattle.rules.proofs.Parts.{core_down, core_hears, core_writes, core_clock, core_restarts, core_local, core_majority, core_acknowledged, core_nothing, core_newest}
use Rattle.replay.specs.declared.Plan.{Plan}
use Rattle.replay.specs.declared.Plan.TheVariants.{Server, Record}
use Rattle.replay.specs.Texts.{respond}
use Rattle.replay.specs.Plans.{plan_alone, plan_apart, place_of, plan_of, carried_out}

-- ---- what is carried out

-- what is decided between a refusal and what sends nothing sends nothing
decided_sends : (s : ServerOf) (d : Stepped) (rs : Rules) → d.sends ≡ None → (decided (refusing s) d rs).sends ≡ None
decided_sends s d [] e = e
decided_sends s d (r ∷ rs) e = go r.0 (decided_sends s d rs e)
  where
    go : (b : Bool) → (decided (refusing s) d rs).sends ≡ None → (cond b (decided (refusing s) d rs) (refusing s r.1)).sends ≡ None
    go true x = x
    go false x = refl

-- a step that sends nothing leaves the others as they are
put_back_is : (c : Cluster) (a : ℕ) (o : Stepped) → o.sends ≡ None → ◌≡◌ {A = Outcome} (record { cluster = with_server c a o.server; answer = o.answer }) (put_back c a o)
unfolding delivered
put_back_is c a o e i = record { cluster = sym (ap (delivered (with_server c a o.server)) e) i; answer = o.answer }

alone_does : (c : Cluster) (a : ℕ) (s : Step) → (one_of (server_count c) (server_at c a) (server_at c a) s).sends ≡ None → carried_out c (plan_alone (server_count c) a s) ≡ single_of c a s
unfolding carried_out plan_alone single_of
alone_does c a s e = go (ltb a (server_count c))
  where
    go : (t : Bool) → carried_out c (cond t (Ok (Server a a s)) (Err OutOfRange)) ≡ cond t (put_back c a (one_of (server_count c) (server_at c a) (server_at c a) s)) (refusing_all c OutOfRange)
    go true = put_back_is c a (one_of (server_count c) (server_at c a) (server_at c a) s) e
    go false = refl

apart_does : (c : Cluster) (a b : ℕ) (s : Step) → (one_of (server_count c) (server_at c a) (server_at c b) s).sends ≡ None → carried_out c (plan_apart (server_count c) a b s) ≡ pair_of c a b s
unfolding carried_out plan_apart pair_of
apart_does c a b s e = go (ltb a (server_count c)) (ltb b (server_count c)) (eqb a b)
  where
    go : (t u v : Bool)
        → carried_out c (cond t (cond u (cond v (Err OutOfRange) (Ok (Server a b s))) (Err OutOfRange)) (Err OutOfRange))
        ≡ cond t (cond u (cond (not v) (put_back c a (one_of (server_count c) (server_at c a) (server_at c b) s)) (refusing_all c OutOfRange)) (refusing_all c OutOfRange)) (refusing_all c OutOfRange)
    go true true true = refl
    go true true false = put_back_is c a (one_of (server_count c) (server_at c a) (server_at c b) s) e
    go true false v = refl
    go false u v = refl

place_does : (c : Cluster) (s : Step) → carried_out c (place_of (server_count c) s) ≡ core_of c s
unfolding carried_out place_of one_of
place_does c (S.Start n f) = refl
place_does c (S.Elect a m) = refl
place_does c (S.StepDown a) = alone_does c a (S.StepDown a) (decided_sends _ _ (down_rules (server_at c a).head) refl) ∙ core_down c a
place_does c (S.Hears a b) = apart_does c a b (S.Hears a b) refl ∙ core_hears c a b
place_does c (S.Pulls a b) = refl
place_does c (S.RollsBack a b) = refl
place_does c (S.Writes a key value client) =
    alone_does c a (S.Writes a key value client) (decided_sends _ _ (write_rules (server_at c a) key value client) refl) ∙ core_writes c a key value client
place_does c (S.Advances a) = refl
place_does c (S.WallClock a) = alone_does c a (S.WallClock a) (decided_sends _ _ (clock_rules (server_at c a).head) refl) ∙ core_clock c a
place_does c (S.Restarts a) = alone_does c a (S.Restarts a) refl ∙ core_restarts c a
place_does c (S.LocalRead a key asked) = alone_does c a (S.LocalRead a key asked) (decided_sends _ _ (local_rules (server_at c a) key asked) refl) ∙ core_local c a key asked
place_does c (S.MajorityRead a key asked) = alone_does c a (S.MajorityRead a key asked) (decided_sends _ _ (majority_rules (server_at c a) key asked) refl) ∙ core_majority c a key asked
place_does c (S.Acknowledged a k n term) = alone_does c a (S.Acknowledged a k n term) (decided_sends _ _ (acknowledge_rules (server_count c) (server_at c a) k n term) refl) ∙ core_acknowledged c a k n term
place_does c S.ClocksAgree = refl
place_does c (S.WritesNothing a) = alone_does c a (S.WritesNothing a) (decided_sends _ _ (nothing_rules (server_at c a)) refl) ∙ core_nothing c a
place_does c (S.NewestRead a key n term) = alone_does c a (S.NewestRead a key n term) (decided_sends _ _ (newest_rules (server_at c a) key n term) refl) ∙ core_newest c a key n term
place_does c (S.TakesReport a) = refl

pub plan_does : (c : Cluster) (r : Option Step) → carried_out c (plan_of (server_count c) (well_formed c) r) ≡ respond c r
unfolding plan_of respond step_of carried_out
plan_does c (Some s) = go (is_start s || well_formed c)
  where
    go : (t : Bool) → carried_out c (cond t (place_of (server_count c) s) (Err IllFormed)) ≡ cond t (core_of c s) (refusing_all c IllFormed)
    go true = place_does c s
    go false = refl
plan_does c None = refl

-- ---- whom it names

pub record Inside (size : ℕ) (a b : ℕ) : Type 0 where
  pub first : a < size
  pub second : b < size

abbrev Names : ℕ → Result Plan Refusal → Type 0
Names size (Err r) = Unit {0}
Names size (Ok (Server a b s)) = Inside size a b
Names size (Ok (Record s)) = Unit {0}

alone_names : (size a : ℕ) (s : Step) → Names size (plan_alone size a s)
unfolding plan_alone
alone_names size a s = go (ltb a size) refl
  where
    go : (t : Bool) → ltb a size ≡ t → Names size (cond t (Ok (Server a a s)) (Err OutOfRange))
    go true e = record { first = ltb-true a size e; second = ltb-true a size e }
    go false e = tt

apart_names : (size a b : ℕ) (s : Step) → Names size (plan_apart size a b s)
unfolding plan_apart
apart_names size a b s = go (ltb a size) (ltb b size) (eqb a b) refl refl
  where
    go : (t u v : Bool) → ltb a size ≡ t → ltb b size ≡ u
        → Names size (cond t (cond u (cond v (Err OutOfRange) (Ok (Server a b s))) (Err OutOfRange)) (Err OutOfRange))
    go true true true e f = tt
    go true true false e f = record { first = ltb-true a size e; second = ltb-true b size f }
    go true false v e f = tt
    go false u v e f = tt

place_names : (size : ℕ) (s : Step) → Names size (place_of size s)
unfolding place_of
place_names size (S.Start n f) = tt
place_names size (S.Elect a m) = tt
place_names size (S.StepDown a) = alone_names size a (S.StepDown a)
place_names size (S.Hears a b) = apart_names size a b (S.Hears a b)
place_names size (S.Pulls a b) = tt
place_names size (S.RollsBack a b) = tt
place_names size (S.Writes a key value client) = alone_names size a (S.Writes a key value client)
place_names size (S.Advances a) = tt
place_names size (S.WallClock a) = alone_names size a (S.WallClock a)
place_names size (S.Restarts a) = alone_names size a (S.Restarts a)
place_names size (S.LocalRead a key asked) = alone_names size a (S.LocalRead a key asked)
place_names size (S.MajorityRead a key asked) = alone_names size a (S.MajorityRead a key asked)
place_names size (S.Acknowledged a k n term) = alone_names size a (S.Acknowledged a k n term)
place_names size S.ClocksAgree = tt
place_names size (S.WritesNothing a) = alone_names size a (S.WritesNothing a)
place_names size (S.NewestRead a key n term) = alone_names size a (S.NewestRead a key n term)
place_names size (S.TakesReport a) = tt

plan_names : (size : ℕ) (formed : Bool) (r : Option Step) → Names size (plan_of size formed r)
unfolding plan_of
plan_names size formed (Some s) = go (is_start s || formed)
  where
    go : (t : Bool) → Names size (cond t (place_of size s) (Err IllFormed))
    go true = place_names size s
    go false = tt
plan_names size formed None = tt

pub plan_inside : (size : ℕ) (formed : Bool) (r : Option Step) (a b : ℕ) (s : Step) → plan_of size formed r ≡ Ok (Server a b s) → Inside size a b
plan_inside size formed r a b s e = rw e at (plan_names size formed r)
