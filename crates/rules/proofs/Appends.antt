-- An append whose rules are clear: the tick is made, past the time that it starts from, and the new entry is the log's last. Assumes nothing.
use mathlib.Core.Path.{◌≡◌, refl, ap, ◌∙◌}
use mathlib.Core.Bool.{true, false}
use mathlib.Core.List.{List, [], ◌∷◌, ◌++◌}
use Rattle.base.proofs.Bools.{not_both}
use Rattle.clock.specs.declared.Time.{Time}
use Rattle.std.specs.declared.option.Option.{Option}
use Rattle.std.specs.declared.option.Option.TheVariants.{Some, None}
use Rattle.clock.specs.Times.{is_before, tick_of}
use Rattle.clock.proofs.Order.{then_before}
use Rattle.clock.proofs.Ticks.{tick_after}
use Rattle.server_log.specs.declared.Entry.{Entry}
use Rattle.server_log.specs.Entries.{applied_time}
use Rattle.server_log.specs.Logs.{live, has_room, appended}
use Rattle.server_log.proofs.Positions.{last_more}
use Rattle.server_log.proofs.Tidy.{Tidy, live_appended}
use Rattle.cluster.specs.declared.Server.{Server}
use Rattle.steps.specs.Reasons.{Clear}
use Rattle.singles.specs.Appends.{ticks, tick_time, append_rules}

-- the time that a server stamps, from this time on
abbrev pub stamp_from : Server → Time → Time
stamp_from s from = tick_time (tick_of s.head.wall from)

ticked_to : (k : Option Time) → ticks k ≡ true → k ≡ Some (tick_time k)
ticked_to (Some t) e = refl
ticked_to None e = not_both false e refl

module _ (s : Server) (from : Time) (c : Clear (append_rules s from)) where
  pub ticked : tick_of s.head.wall from ≡ Some (stamp_from s from)
  ticked = ticked_to (tick_of s.head.wall from) c.1.1.0

  -- whatever the start is not before is before the stamp
  pub stamp_after : (t : Time) → is_before from t ≡ false → is_before t (stamp_from s from) ≡ true
  stamp_after t h = then_before t from _ h (tick_after s.head.wall from _ ticked)

  pub room : has_room s.log ≡ true
  room = c.1.0

  module _ (t : Tidy s.log) where
    pub live_more : (e : Entry) → live (appended s.log e) ≡ live s.log ++ (e ∷ [])
    live_more e = live_appended t e room

    pub applied_more : (e : Entry) → applied_time (live (appended s.log e)) ≡ e.time
    applied_more e = ap (λ (es : List Entry). applied_time es) (live_more e) ∙ ap (λ (e : Entry). e.time) (last_more (live s.log) e)
