-- Kind 2: a steps down. Assumes nothing.
use Rattle.std.specs.Prelude.{[], ◌∷◌, false}
use Rattle.cluster.specs.declared.Head.{Head}
use Rattle.cluster.specs.declared.Server.{Server}
use Rattle.cluster.specs.Servers.{with_primary, with_head}
use Rattle.steps.specs.declared.Stepped.{Stepped}
use Rattle.steps.specs.declared.Answer.TheVariants.{Done}
use Rattle.steps.specs.declared.Refusal.TheVariants.{WrongRole}
use Rattle.steps.specs.Refusals.{Rules, decided}
use Rattle.steps.specs.Answers.{refusing, answering}

-- a primary becomes secondary
abbrev pub down_rules : Head → Rules
down_rules h = (h.primary, WrongRole) ∷ []

abbrev pub down_done : Server → Stepped
down_done s = answering (with_head s (with_primary s.head false)) Done

abbrev pub steps_down_of : Server → Stepped
steps_down_of s = decided (refusing s) (down_done s) (down_rules s.head)
