-- One server replaced and the others unchanged; all servers changed at once; a server with another head, log, mail or rows fits. Assumes nothing.
use mathlib.Core.Path.{◌≡◌, ◌∙◌}
use mathlib.Core.Logic.{◌≢◌}
use Prim.Native.Nat.{ℕ, ◌<◌}
use native.Mathlib.Omega.{arith}
use lib.ListN.{length}
use lib.Seq.{get_or-set_same, get_or-set_other}
use Rattle.base.proofs.Each.{each_at, length_each_from}
use Rattle.base.specs.Lists.{each}
use Rattle.server_log.specs.declared.Log.{Log}
use Rattle.server_log.specs.declared.rows.Rows.{Rows}
use Rattle.server_log.specs.Ranges.{FitsLog, FitsRows}
use Rattle.server_log.proofs.Ranges.{fits_rows_of}
use Rattle.mail.specs.declared.Mail.{Mail}
use Rattle.mail.specs.Ranges.{FitsMail}
use Rattle.cluster.specs.declared.Head.{Head}
use Rattle.cluster.specs.declared.Server.{Server}
use Rattle.cluster.specs.declared.Cluster.{Cluster}
use Rattle.cluster.specs.Ranges.{FitsHead, FitsServer, Fits}
use Rattle.cluster.specs.Servers.{with_head, with_log, with_mail, with_rows, past_server, server_at, with_server, rowed_of, rowed_all}

module _ (c : Cluster) (a : ℕ) (s : Server) where
  pub replaced_here : a < length c.servers → server_at (with_server c a s) a ≡ s
  replaced_here h = get_or-set_same c.servers a s past_server h

  pub replaced_others : (i : ℕ) → i ≢ a → server_at (with_server c a s) i ≡ server_at c i
  replaced_others i ne = get_or-set_other c.servers a i s past_server ne

-- every server is what the change makes of it
pub changed_at : (f : ℕ → Server → Server) (c : Cluster) (i : ℕ) → i < length c.servers
    → server_at (record { count = c.count; followers = c.followers; servers = each f c.servers }) i ≡ f i (server_at c i)
changed_at f c i h = each_at f c.servers i past_server h

module _ {s : Server} (f : FitsServer s) where
  pub fits_head : {h : Head} → FitsHead h → FitsServer (with_head s h)
  fits_head k = record { head = k; log = f.log; mail = f.mail; rows = f.rows }

  pub fits_log : {g : Log} → FitsLog g → FitsServer (with_log s g)
  fits_log k = record { head = f.head; log = k; mail = f.mail; rows = f.rows }

  pub fits_mail : {m : Mail} → FitsMail m → FitsServer (with_mail s m)
  fits_mail k = record { head = f.head; log = f.log; mail = k; rows = f.rows }

  pub fits_rows : {r : Rows} → FitsRows r → FitsServer (with_rows s r)
  fits_rows k = record { head = f.head; log = f.log; mail = f.mail; rows = k }

-- and a record with its rows worked out afresh
pub fits_rowed : {c : Cluster} → Fits c → Fits (rowed_all c)
unfolding rowed_of
fits_rowed {c} f =
    record {
      count = f.count;
      followers = f.followers;
      slots = length_each_from (λ i. rowed_of) 0 c.servers ∙ f.slots;
      each = λ i l. rw (changed_at (λ i. rowed_of) c i (omega (arith, f.slots))) (fits_rows (f.each i l) (fits_rows_of (f.each i l).log (server_at c i).head.commit));
    }
