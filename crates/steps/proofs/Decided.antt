-- Laws of `decided`: refused exactly where a test fails, and by the first one that does. Assumes nothing.
use mathlib.Core.Path.{◌≡◌, refl}
use mathlib.Core.List.{[], ◌∷◌}
use mathlib.Core.Bool.{Bool, true, false, cond}
use mathlib.Core.Logic.{◌⊎◌, inl, inr}
use Rattle.steps.specs.declared.Refusal.{Refusal}
use Rattle.steps.specs.Refusals.{Rules, decided}
use Rattle.steps.specs.Reasons.{Clear, Broken, here, later}

-- a list of rules is clear, or one of them is the first that is broken
pub clear_or_broken : (rs : Rules) → Clear rs ⊎ ((r : Refusal) × Broken rs r)
clear_or_broken [] = inl tt
clear_or_broken (p ∷ rs) = go p.0 refl (clear_or_broken rs)
  where
    go : (b : Bool) → p.0 ≡ b → Clear rs ⊎ ((r : Refusal) × Broken rs r) → Clear (p ∷ rs) ⊎ ((r : Refusal) × Broken (p ∷ rs) r)
    go false e w = inr (p.1, here e)
    go true e (inl c) = inl (e, c)
    go true e (inr b) = inr (b.0, later e b.1)

module _ {A : Type 0} (refuse : Refusal → A) (done : A) where
  pub decided_clear : (rs : Rules) → Clear rs → decided refuse done rs ≡ done
  decided_clear [] c = refl
  decided_clear (p ∷ rs) c = rw c.0 (decided_clear rs c.1)

  pub decided_broken : {rs : Rules} {r : Refusal} → Broken rs r → decided refuse done rs ≡ refuse r
  decided_broken (here e) = rw e
  decided_broken (later e b) = rw e (decided_broken b)

-- a function of what is decided
pub decided_map : {A B : Type 0} (f : A → B) (refuse : Refusal → A) (refuse' : Refusal → B) (done : A) → ((r : Refusal) → f (refuse r) ≡ refuse' r)
    → (rs : Rules) → f (decided refuse done rs) ≡ decided refuse' (f done) rs
decided_map f refuse refuse' done h [] = refl
decided_map f refuse refuse' done h (p ∷ rs) = go p.0 (decided_map f refuse refuse' done h rs)
  where
    go : (b : Bool) → f (decided refuse done rs) ≡ decided refuse' (f done) rs
        → f (cond b (decided refuse done rs) (refuse p.1)) ≡ cond b (decided refuse' (f done) rs) (refuse' p.1)
    go true e = e
    go false e = h p.1
