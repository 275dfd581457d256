-- A well-formed record stays one where a counted server is replaced by one that may stand there, and where every server is changed. Assumes nothing.
use mathlib.Core.Path.{◌≡◌, ap, sym, ◌∙◌, subst}
use mathlib.Core.Bool.{true, false}
use mathlib.Core.Logic.{⊎_elim}
use Prim.Native.Nat.{ℕ, ◌<◌, ◌≤◌}
use native.Mathlib.Omega.{arith}
use lib.ListN.{length-set}
use Rattle.base.proofs.Each.{length_each_from}
use Rattle.base.proofs.Facts.{lt_or_le}
use Rattle.cluster.specs.declared.Server.{Server}
use Rattle.cluster.specs.declared.Cluster.{Cluster}
use Rattle.cluster.specs.Ranges.{FitsServer}
use Rattle.cluster.specs.Servers.{most_servers, zero_server, past_server, server_at, with_server}
use Rattle.cluster.specs.Sets.{member}
use Rattle.cluster.proofs.Changed.{replaced_others, changed_at}
use Rattle.cluster.proofs.Good.{ServerGood}
use Rattle.mail.proofs.Good.{MailGood}
use Rattle.base.proofs.Replaced.{all_set, all_at}
use Rattle.rules.proofs.Others.{changed_by}
use Rattle.cluster.proofs.Sound.{ServerSound, Sound}

module _ {c : Cluster} (h : Sound c) where
  -- the new server is no follower where it is primary
  pub replaced_sound : (a : ℕ) (s : Server) → a < c.count → ServerSound c.count a s → (s.head.primary ≡ true → member c.followers a ≡ false) → Sound (with_server c a s)
  replaced_sound a s l new votes =
      record {
        fits = record {
          count = h.fits.count;
          followers = h.fits.followers;
          slots = length-set c.servers a s ∙ h.fits.slots;
          each = all_set FitsServer c.servers past_server most_servers (omega (arith, h.fits.slots)) h.fits.each a s new.fits;
        };
        good = record {
          size = h.good.size;
          at_least_two = h.good.at_least_two;
          at_most_seven = h.good.at_most_seven;
          counted = all_set ServerGood c.servers past_server c.count (omega (arith, h.fits.slots, h.good.at_most_seven)) h.good.counted a s new.good;
          mailed = all_at (λ i x. MailGood c.count i x.mail) c.servers past_server c.count (omega (arith, h.fits.slots, h.good.at_most_seven)) h.good.mailed a s new.mailed;
          primaries_vote = all_at (λ i x. x.head.primary ≡ true → member c.followers i ≡ false) c.servers past_server c.count (omega (arith, h.fits.slots, h.good.at_most_seven)) h.good.primaries_vote a s votes;
          past = λ i k m. replaced_others c a s i (omega arith) ∙ h.good.past i k m;
        };
      }

  -- the changes have to leave counted servers as they should be, followers secondary, and servers past the count zero
  module _ (f : ℕ → Server → Server) (new : (i : ℕ) → i < c.count → ServerSound c.count i (f i (server_at c i))) (votes : (i : ℕ) → i < c.count → (f i (server_at c i)).head.primary ≡ true → member c.followers i ≡ false) (zero : (i : ℕ) → c.count ≤ i → f i zero_server ≡ zero_server) where
    each_counted : (i : ℕ) → i < c.count → ServerSound c.count i (server_at (changed_by f c) i)
    each_counted i l = rw (changed_at f c i (omega (arith, h.fits.slots, h.good.at_most_seven))) (new i l)

    each_past : (i : ℕ) → c.count ≤ i → i < most_servers → server_at (changed_by f c) i ≡ zero_server
    each_past i l m = changed_at f c i (omega (arith, h.fits.slots)) ∙ ap (f i) (h.good.past i l m) ∙ zero i l

    pub changed_sound : Sound (changed_by f c)
    changed_sound =
        record {
          fits = record {
            count = h.fits.count;
            followers = h.fits.followers;
            slots = length_each_from f 0 c.servers ∙ h.fits.slots;
            each = λ i m. ⊎_elim (λ l. (each_counted i l).fits)
                (λ l. subst FitsServer (h.good.past i l m ∙ sym (each_past i l m)) (h.fits.each i m)) (lt_or_le i c.count);
          };
          good = record {
            size = h.good.size;
            at_least_two = h.good.at_least_two;
            at_most_seven = h.good.at_most_seven;
            counted = λ i l. (each_counted i l).good;
            mailed = λ i l. (each_counted i l).mailed;
            primaries_vote = λ i l. rw (changed_at f c i (omega (arith, h.fits.slots, h.good.at_most_seven))) (votes i l);
            past = each_past;
          };
        }
