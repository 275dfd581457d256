-- Kind 8: a's wall clock. Assumes nothing.
use Rattle.std.specs.Prelude.{[], ◌∷◌, ◌+◌, ltb}
use Rattle.clock.specs.Times.{limit}
use Rattle.cluster.specs.declared.Head.{Head}
use Rattle.cluster.specs.declared.Server.{Server}
use Rattle.cluster.specs.Servers.{with_wall, with_head}
use Rattle.steps.specs.declared.Stepped.{Stepped}
use Rattle.steps.specs.declared.Answer.TheVariants.{Done}
use Rattle.steps.specs.declared.Refusal.TheVariants.{AtLimit}
use Rattle.steps.specs.Refusals.{Rules, decided}
use Rattle.steps.specs.Answers.{refusing, answering}

-- a wall clock below 65,535 grows by 1
abbrev pub clock_rules : Head → Rules
clock_rules h = (ltb h.wall limit, AtLimit) ∷ []

abbrev pub clock_done : Server → Stepped
clock_done s = answering (with_head s (with_wall s.head (s.head.wall + 1))) Done

abbrev pub wall_clock_of : Server → Stepped
wall_clock_of s = decided (refusing s) (clock_done s) (clock_rules s.head)
