-- The entries from the first to the last are the whole log. Assumes nothing.
use mathlib.Core.Path.{◌≡◌}
use lib.Seq.{take-length}
use Rattle.server_log.specs.declared.Log.{Log}
use Rattle.server_log.specs.Logs.{live, length_of}
use Rattle.server_log.specs.Rows.{between}

pub all_between : (g : Log) → between g 0 (length_of g) ≡ live g
all_between g = take-length (live g)
