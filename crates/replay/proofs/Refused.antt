-- A line that is refused leaves the record bit for bit, whether or not it is a frame. Assumes nothing.
use mathlib.Core.Path.{◌≡◌, refl}
use mathlib.Core.List.{List}
use Prim.Native.Nat.{ℕ}
use Rattle.cluster.specs.declared.Cluster.{Cluster}
use Rattle.steps.specs.declared.Answer.TheVariants.{Refused}
use Rattle.steps.specs.declared.Refusal.{Refusal}
use Rattle.steps.specs.declared.Step.{Step}
use Rattle.std.proofs.Common.{Option, Some, None}
use Rattle.frames.specs.Steps.{read_step}
use Rattle.rules.proofs.Outcomes.{refused_unchanged}
use Rattle.replay.specs.Texts.{respond, answer_to}

pub refused_line : (c : Cluster) (line : List ℕ) (r : Refusal) → (answer_to c line).answer ≡ Refused r → (answer_to c line).cluster ≡ c
unfolding respond answer_to
refused_line c line r = go (read_step line)
  where
    go : (read : Option Step) → (respond c read).answer ≡ Refused r → (respond c read).cluster ≡ c
    go (Some s) e = refused_unchanged c s r e
    go None e = refl
