-- What the loop of `saved::put_servers` keeps. Assumes nothing.
use Prim.Native.Nat.{◌+◌, ◌*◌, ◌≤◌}
use lib.ListN.{take, drop}
use Rattle.saved.specs.Editions.{widths1}
use Rattle.saved.specs.Saved.{all_frames}
use Rattle.saved.specs.Written.{longest_server}
use Rattle.saved.proofs.Going.{Going}
use Rattle.saved.proofs.put_servers.Given as goal

abbrev pub invariant-loop-i : goal.invariant-loop-i
invariant-loop-i l =
    (l.i ≤ l.c.count) × (l.w ≤ l.at + l.i * longest_server) × Going l.initial.out l.at l.out l.w (all_frames widths1 (take l.c.count l.c.servers)) (all_frames widths1 (drop l.i (take l.c.count l.c.servers)))
