-- The refusal that is given is the first of those that apply, by one order for all kinds. Assumes nothing.
use mathlib.Core.Path.{◌≡◌, refl, sym, ◌∙◌}
use mathlib.Core.Bool.{Bool, true, ◌&&◌, true≢false}
use mathlib.Core.List.{[], ◌∷◌}
use Prim.Native.Nat.{ℕ, ◌≤◌}
use native.Mathlib.Omega.{arith}
use lib.Dec.{leb}
use borrow.Author.Tests.{leb-true}
use Rattle.base.proofs.Bools.{and_left, and_right}
use Rattle.cluster.specs.declared.Cluster.{Cluster}
use Rattle.steps.specs.declared.Answer.TheVariants as A
use Rattle.steps.specs.declared.Refusal.{Refusal}
use Rattle.steps.specs.declared.Step.{Step}
use Rattle.steps.specs.declared.Step.TheVariants.{Start, Elect, StepDown, Hears, Pulls, RollsBack, Writes, Advances, WallClock, Restarts, LocalRead, MajorityRead, Acknowledged, ClocksAgree, WritesNothing, NewestRead, TakesReport}
use Rattle.steps.specs.Refusals.{Rules}
use Rattle.steps.specs.Reasons.{Broken, here, later, Applies, first, among, rank_of}
use Rattle.rules.specs.Rules.{row_of, rules_of, step_of}
use Rattle.rules.specs.Statements.{Why, ill_formed, broken}
use Rattle.rules.proofs.Outcomes.{refused_why}

-- the refusals' ranks begin at n and don't fall
abbrev rises : ℕ → Rules → Bool
rises n [] = true
rises n (p ∷ rs) = leb n (rank_of p.1) && rises (rank_of p.1) rs

module _ (n : ℕ) (b : Bool) (m : Refusal) (rs : Rules) (e : rises n ((b, m) ∷ rs) ≡ true) where
  begins : n ≤ rank_of m
  begins = leb-true n (rank_of m) (and_left (leb n (rank_of m)) (rises (rank_of m) rs) e)

  goes_on : rises (rank_of m) rs ≡ true
  goes_on = and_right (leb n (rank_of m)) (rises (rank_of m) rs) e

at_least : (n : ℕ) (rs : Rules) {q : Refusal} → rises n rs ≡ true → Applies rs q → n ≤ rank_of q
at_least n [] {q = q} e x = elim x [ ]
at_least n ((b, m) ∷ rs) e (first f) = begins n b m rs e
at_least n ((b, m) ∷ rs) e (among a) =
    omega (arith, begins n b m rs e, at_least (rank_of m) rs (goes_on n b m rs e) a)

foremost : (n : ℕ) (rs : Rules) {r q : Refusal} → rises n rs ≡ true → Broken rs r → Applies rs q → rank_of r ≤ rank_of q
foremost n [] {r = r} {q = q} e x _ = elim x [ ]
foremost n ((b, m) ∷ rs) e (here t) (first f) = omega arith
foremost n ((b, m) ∷ rs) e (here t) (among a) = at_least (rank_of m) rs (goes_on n b m rs e) a
foremost n ((b, m) ∷ rs) e (later t k) (first f) = absurd (true≢false (sym t ∙ f))
foremost n ((b, m) ∷ rs) e (later t k) (among a) = foremost (rank_of m) rs (goes_on n b m rs e) k a

-- every kind's rules rise, from refusal 3 on
rules_rise : (c : Cluster) (s : Step) → rises 3 (rules_of c s) ≡ true
unfolding row_of
rules_rise c (Start n f) = refl
rules_rise c (Elect a m) = refl
rules_rise c (StepDown a) = refl
rules_rise c (Hears a b) = refl
rules_rise c (Pulls a b) = refl
rules_rise c (RollsBack a b) = refl
rules_rise c (Writes a key value client) = refl
rules_rise c (Advances a) = refl
rules_rise c (WallClock a) = refl
rules_rise c (Restarts a) = refl
rules_rise c (LocalRead a key asked) = refl
rules_rise c (MajorityRead a key asked) = refl
rules_rise c (Acknowledged a k n term) = refl
rules_rise c ClocksAgree = refl
rules_rise c (WritesNothing a) = refl
rules_rise c (NewestRead a key n term) = refl
rules_rise c (TakesReport a) = refl

pub first_given : (c : Cluster) (s : Step) → (r : Refusal) → (step_of c s).answer ≡ A.Refused r → (q : Refusal) → Applies (rules_of c s) q
    → rank_of r ≤ rank_of q
first_given c s r e q a = go r (refused_why c s r e)
  where
    go : (r : Refusal) → Why c s r → rank_of r ≤ rank_of q
    go r (ill_formed f) = omega (arith, at_least 3 (rules_of c s) (rules_rise c s) a)
    go r (broken t b) = foremost 3 (rules_of c s) (rules_rise c s) b a
