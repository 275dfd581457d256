-- Kind 14: a appends an entry that writes nothing. Assumes nothing.
use Rattle.server_log.specs.Order.{no_key}
use Rattle.cluster.specs.declared.Server.{Server}
use Rattle.steps.specs.declared.Stepped.{Stepped}
use Rattle.steps.specs.Refusals.{Rules}
use Rattle.singles.specs.Appends.{append_rules, append_done, appends_of}

-- the tick starts from the cluster time: no client carries a time here
abbrev pub nothing_rules : Server → Rules
nothing_rules s = append_rules s s.head.time

-- its key is 255 and its value 0; it is stamped and answered as a write is
abbrev pub nothing_done : Server → Stepped
nothing_done s = append_done s no_key 0 s.head.time

abbrev pub writes_nothing_of : Server → Stepped
writes_nothing_of s = appends_of s no_key 0 s.head.time
