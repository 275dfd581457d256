-- The step in parts: where a kind changes one server, the record's step is that server's, put back. Assumes nothing.
use mathlib.Core.Path.{◌≡◌, refl, ap}
use mathlib.Core.List.{[]}
use mathlib.Core.Bool.{cond}
use Prim.Native.Nat.{ℕ}
use lib.Dec.{ltb}
use Rattle.clock.specs.declared.Time.{Time}
use Rattle.cluster.specs.declared.Cluster.{Cluster}
use Rattle.cluster.specs.Servers.{server_count, server_at}
use Rattle.steps.specs.declared.Outcome.{Outcome}
use Rattle.steps.specs.declared.Stepped.{Stepped}
use Rattle.steps.specs.declared.Answer.TheVariants.{Refused}
use Rattle.steps.specs.declared.Refusal.TheVariants.{OutOfRange}
use Rattle.steps.specs.declared.Step.TheVariants.{StepDown, Hears, Pulls, RollsBack, Writes, WallClock, Restarts, LocalRead, MajorityRead, Acknowledged, WritesNothing, NewestRead, TakesReport}
use Rattle.steps.specs.Refusals.{Rules, decided}
use Rattle.steps.specs.Answers.{refusing, refusing_all}
use Rattle.steps.proofs.Decided.{decided_map}
use Rattle.pairs.specs.Pulls.{pull_rules, pull_done}
use Rattle.pairs.specs.RollsBack.{roll_rules, roll_done}
use Rattle.singles.specs.StepsDown.{down_rules, down_done}
use Rattle.singles.specs.WallClock.{clock_rules, clock_done}
use Rattle.singles.specs.Writes.{write_rules, write_done}
use Rattle.singles.specs.WritesNothing.{nothing_rules, nothing_done}
use Rattle.reads.specs.Acknowledged.{acknowledge_rules, acknowledge_done}
use Rattle.reads.specs.LocalRead.{local_rules, local_done}
use Rattle.reads.specs.MajorityRead.{majority_rules, majority_done}
use Rattle.reads.specs.NewestRead.{newest_rules, newest_done}
use Rattle.singles.specs.TakesReport.{take_rules, take_done}
use Rattle.rules.specs.Rules.{delivered, row_of, both_in_range, put_back, core_of}
use Rattle.rules.specs.One.{one_of, single_of, pair_of}
use Rattle.rules.proofs.Others.{put_same}

-- what one server decides, put back, is what the record decides
placed : (c : Cluster) (a : ℕ) (done : Stepped) (rs : Rules)
    → put_back c a (decided (refusing (server_at c a)) done rs) ≡ decided (refusing_all c) (put_back c a done) rs
unfolding delivered
placed c a done rs =
    decided_map (put_back c a) (refusing (server_at c a)) (refusing_all c) done (λ r i. record { cluster = put_same c a i; answer = Refused r }) rs

module _ (c : Cluster) (a : ℕ) where
  -- behind the test of the server's number
  in_place : (x y : Outcome) → x ≡ y → cond (ltb a (server_count c)) x (refusing_all c OutOfRange) ≡ cond (ltb a (server_count c)) y (refusing_all c OutOfRange)
  in_place x y e = ap (λ (o : Outcome). cond (ltb a (server_count c)) o (refusing_all c OutOfRange)) e

  pub core_down : single_of c a (StepDown a) ≡ core_of c (StepDown a)
  unfolding single_of one_of core_of row_of
  core_down = in_place _ _ (placed c a (down_done (server_at c a)) (down_rules (server_at c a).head))

  pub core_writes : (key value : ℕ) (client : Time) → single_of c a (Writes a key value client) ≡ core_of c (Writes a key value client)
  unfolding single_of one_of core_of row_of
  core_writes key value client = in_place _ _ (placed c a (write_done (server_at c a) key value client) (write_rules (server_at c a) key value client))

  pub core_nothing : single_of c a (WritesNothing a) ≡ core_of c (WritesNothing a)
  unfolding single_of one_of core_of row_of
  core_nothing = in_place _ _ (placed c a (nothing_done (server_at c a)) (nothing_rules (server_at c a)))

  pub core_clock : single_of c a (WallClock a) ≡ core_of c (WallClock a)
  unfolding single_of one_of core_of row_of
  core_clock = in_place _ _ (placed c a (clock_done (server_at c a)) (clock_rules (server_at c a).head))

  pub core_restarts : single_of c a (Restarts a) ≡ core_of c (Restarts a)
  unfolding single_of one_of core_of row_of
  core_restarts = refl

  pub core_local : (key : ℕ) (asked : Time) → single_of c a (LocalRead a key asked) ≡ core_of c (LocalRead a key asked)
  unfolding single_of one_of core_of row_of
  core_local key asked = in_place _ _ (placed c a (local_done (server_at c a) key) (local_rules (server_at c a) key asked))

  pub core_majority : (key : ℕ) (asked : Time) → single_of c a (MajorityRead a key asked) ≡ core_of c (MajorityRead a key asked)
  unfolding single_of one_of core_of row_of
  core_majority key asked = in_place _ _ (placed c a (majority_done (server_at c a) key) (majority_rules (server_at c a) key asked))

  pub core_acknowledged : (k n term : ℕ) → single_of c a (Acknowledged a k n term) ≡ core_of c (Acknowledged a k n term)
  unfolding single_of one_of core_of row_of
  core_acknowledged k n term = in_place _ _ (placed c a (acknowledge_done (server_at c a) n) (acknowledge_rules (server_count c) (server_at c a) k n term))

  pub core_newest : (key n term : ℕ) → single_of c a (NewestRead a key n term) ≡ core_of c (NewestRead a key n term)
  unfolding single_of one_of core_of row_of
  core_newest key n term = in_place _ _ (placed c a (newest_done (server_at c a) key n) (newest_rules (server_at c a) key n term))

  pub core_takes_report : single_of c a (TakesReport a) ≡ core_of c (TakesReport a)
  unfolding single_of one_of core_of row_of
  core_takes_report = in_place _ _ (placed c a (take_done (server_at c a)) (take_rules (server_at c a)))

  module _ (b : ℕ) where
    apart_place : (x y : Outcome) → x ≡ y → decided (refusing_all c) x (both_in_range c a b []) ≡ decided (refusing_all c) y (both_in_range c a b [])
    apart_place x y e = ap (λ (o : Outcome). decided (refusing_all c) o (both_in_range c a b [])) e

    pub core_hears : pair_of c a b (Hears a b) ≡ core_of c (Hears a b)
    unfolding pair_of one_of core_of row_of
    core_hears = refl

    pub core_pulls : pair_of c a b (Pulls a b) ≡ core_of c (Pulls a b)
    unfolding pair_of one_of core_of row_of
    core_pulls = apart_place _ _ (placed c a (pull_done (server_at c a) (server_at c b) a b) (pull_rules (server_at c a) (server_at c b)))

    pub core_rolls_back : pair_of c a b (RollsBack a b) ≡ core_of c (RollsBack a b)
    unfolding pair_of one_of core_of row_of
    core_rolls_back = apart_place _ _ (placed c a (roll_done (server_at c a) (server_at c b) a b) (roll_rules (server_at c a) (server_at c b)))

-- of each kind that changes one server
pub ruleset placed_kinds = (
  core_down,
  core_hears,
  core_pulls,
  core_rolls_back,
  core_writes,
  core_clock,
  core_restarts,
  core_local,
  core_majority,
  core_acknowledged,
  core_nothing,
  core_newest,
  core_takes_report,
)
