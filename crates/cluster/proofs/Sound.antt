-- A record, and a counted server of one, that fits and is well formed: all that a step has to keep. Assumes nothing.
use Prim.Native.Nat.{ℕ, ◌<◌}
use native.Mathlib.Omega.{arith}
use mathlib.Core.Logic.{⊎_elim}
use Rattle.base.proofs.Facts.{lt_or_le}
use Rattle.server_log.specs.Logs.{empty_log}
use Rattle.server_log.proofs.Rowed.{RowsGood, rows_of_good}
use Rattle.mail.proofs.Good.{MailGood}
use Rattle.cluster.specs.declared.Server.{Server}
use Rattle.cluster.specs.declared.Cluster.{Cluster}
use Rattle.cluster.specs.Ranges.{FitsServer, Fits}
use Rattle.cluster.specs.Servers.{most_servers, server_at}
use Rattle.cluster.proofs.Good.{ServerGood, Good}

-- as every counted server i of a well-formed record of n that fits
pub record ServerSound (n i : ℕ) (s : Server) : Type 0 where
  pub fits : FitsServer s
  pub good : ServerGood s
  pub mailed : MailGood n i s.mail

-- a record that fits and is well formed
pub record Sound (c : Cluster) : Type 0 where
  pub fits : Fits c
  pub good : Good c

module _ {c : Cluster} (h : Sound c) where
  pub counted_sound : (i : ℕ) → i < c.count → ServerSound c.count i (server_at c i)
  counted_sound i l = record { fits = h.fits.each i (omega (arith, h.good.at_most_seven)); good = h.good.counted i l; mailed = h.good.mailed i l }

  -- the rows of every server, counted or not, have what a walk finds
  pub sound_rows : (i : ℕ) → i < most_servers → RowsGood (server_at c i).rows (server_at c i).log (server_at c i).head.commit
  sound_rows i m = ⊎_elim (λ l. (h.good.counted i l).rows) (λ l. rw (h.good.past i l m) (rows_of_good empty_log 0)) (lt_or_le i c.count)
