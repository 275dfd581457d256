-- `saved::put_servers` meets its contract. Assumes nothing.
use mathlib.Core.Path.{◌≡◌, ap}
use Prim.Native.Nat.{ℕ, ◌+◌, ◌<◌, ◌≤◌}
use Rattle.cluster.specs.declared.Cluster.{Cluster}
use native.Mathlib.Omega.{arith}
use lib.ListN.{length, take, drop}
use borrow.Author.Rules.{rules}
use Rattle.base.proofs.Facts.{mapped_long}
use Rattle.cluster.specs.Servers.{most_servers, past_server, server_at}
use Rattle.saved.specs.Editions.{widths1}
use Rattle.saved.specs.Saved.{server_frames, all_frames}
use Rattle.saved.proofs.Frames.{at_most_seven, small}
use Rattle.saved.proofs.Going.{Next, going_start, going_more, going_end, going_length, next_of, none_left}
use Rattle.saved.proofs.put_servers.Goals as goal

next : (d : Cluster) (i : ℕ) → i < d.count → d.count ≤ length d.servers
    → Next (all_frames widths1 (drop i (take d.count d.servers))) (server_frames widths1 (server_at d i)) (all_frames widths1 (drop (i + 1) (take d.count d.servers)))
next d i h l = record { parts = ap (all_frames widths1) (next_of d.count d.servers i past_server h l) }

pub loop-i-init : goal.loop-i-init
loop-i-init c = (search rules, search rules, going_start (omega arith))

pub offset_bounds-c-i : goal.offset_bounds-c-i
offset_bounds-c-i c = let h : c.args.c.count ≤ most_servers = at_most_seven c.args.c c.requires.c_value in search rules

pub bounds-c-i : goal.bounds-c-i
bounds-c-i c = let h : c.args.c.count ≤ most_servers = at_most_seven c.args.c c.requires.c_value in search rules

pub put_server-w-requires : goal.put_server-w-requires
put_server-w-requires c =
    record {
      small = small c.args.c c.requires.c_value c.loop-i.i (omega arith);
      longest_server_in_bounds = omega (arith, at_most_seven c.args.c c.requires.c_value, going_length c.loop-i.invariant.2);
    }

pub loop-i-preserved : goal.loop-i-preserved
loop-i-preserved c =
    let all : length c.args.c.servers ≡ most_servers = search (rules, mapped_long) in
    let seven : c.args.c.count ≤ most_servers = at_most_seven c.args.c c.requires.c_value in
    (search rules, omega (arith, c.put_server-w.ensures.short), going_more c.loop-i.invariant.2 (next c.args.c c.loop-i.i (omega arith) (omega arith)) c.put_server-w.ensures.frames)

pub shape_of-out : goal.shape_of-out
shape_of-out c = going_length c.loop-i.invariant.2

pub returns : goal.returns
returns c =
    going_end c.loop-i.invariant.2 (ap (all_frames widths1) (none_left c.args.c.count c.args.c.servers c.loop-i.i (omega arith)))
