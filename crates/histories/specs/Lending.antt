-- The log that five slices lend together. Assumes nothing.
use Rattle.std.specs.Prelude.{List}
use Rattle.server_log.specs.declared.Entry.{Entry}
use Rattle.histories.specs.declared.committed.Columns.{Columns}
use Rattle.histories.specs.Committed.{Committed, lent, entries_of}

abbrev pub lent_by : Columns → Committed
lent_by c = lent c.terms.now c.keys.now c.values.now c.ps.now c.ls.now

-- its entries
abbrev pub lent_log : Columns → List Entry
lent_log c = entries_of (lent_by c)
