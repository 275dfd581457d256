-- What a contract allows is one value: any two results that it lets through are equal, and so is what is in a lent buffer afterwards.
-- Assumes nothing.
use mathlib.Core.Path.{◌≡◌, refl, sym, ◌∙◌}
use denote.MutBor.{MutBor}

abbrev pub OneResult : {R : Type 0} → (R → Type 0) → Type 0
OneResult {R} P = (x y : R) → P x → P y → x ≡ y

pub one_result : {R : Type 0} (v : R) → OneResult (λ x. x ≡ v)
one_result v x y p q = p ∙ sym q

abbrev pub OneOutcome : {R B : Type 0} → (R → MutBor B → Type 0) → Type 0
OneOutcome {R} {B} P = (x y : R) (o p : MutBor B) → P x o → P y p → (x ≡ y) × (o.now ≡ p.now)

pub one_outcome : {R B : Type 0} (v : R) (b : B) → OneOutcome (λ x o. (x ≡ v) × (o.now ≡ b))
one_outcome v b x y o p (f, g) (h, k) = (f ∙ sym h, g ∙ sym k)

-- a function that returns nothing promises the buffer alone
pub one_buffer : {B : Type 0} (b : B) → OneOutcome {R = Unit {0}} (λ x o. o.now ≡ b)
one_buffer b x y o p f g = (refl, f ∙ sym g)
