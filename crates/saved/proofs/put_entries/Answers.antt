-- `saved::put_entries` meets its contract. Assumes nothing.
use mathlib.Core.Path.{◌≡◌}
use native.Mathlib.Omega.{arith}
use lib.ListN.{length}
use borrow.Author.Rules.{rules}
use Rattle.base.proofs.Facts.{mapped_long}
use Rattle.server_log.specs.Entries.{zero_entry}
use Rattle.server_log.specs.Logs.{log_limit}
use Rattle.saved.proofs.Going.{each_room, each_more}
use Rattle.saved.proofs.put_entries.Goals as goal

pub put_line-w-requires : goal.put_line-w-requires
put_line-w-requires c =
    let all : length c.args.g.entries ≡ log_limit = search (rules, mapped_long) in
    each_room c.loop-i.invariant zero_entry (omega arith) (omega (arith, all)) c.entry_frame-f.ensures c.requires.g_in_bounds

pub loop-i-preserved : goal.loop-i-preserved
loop-i-preserved c =
    let all : length c.args.g.entries ≡ log_limit = search (rules, mapped_long) in
    each_more c.loop-i.invariant zero_entry (omega arith) (omega (arith, all)) c.entry_frame-f.ensures c.put_line-w.ensures
