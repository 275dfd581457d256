-- Whatever a text is, the record that it decodes to fits its types. Assumes nothing.
use Rattle.std.specs.Option.{IfSome}
use mathlib.Core.Path.{◌≡◌, ◌∙◌, refl, subst}
use mathlib.Core.Bool.{Bool, true, false, cond, ◌&&◌}
use mathlib.Core.List.{List, [], ◌∷◌, map}
use mathlib.Core.Logic.{⊎_elim}
use Prim.Native.Nat.{ℕ, zero, suc, ◌+◌, ◌-◌, ◌^◌, ◌<◌, ◌≤◌, min}
use native.Mathlib.Omega.{arith}
use lib.Dec.{eqb, ltb, leb}
use lib.ListN.{length, get_or, replicate, length-set, get_or-replicate, get_or-eq_default}
use borrow.Author.Tests.{leb-true}
use Rattle.base.specs.Numbers.{byte}
use Rattle.base.proofs.Bools.{and_left, and_right}
use Rattle.base.proofs.Facts.{lt_or_le}
use Rattle.base.proofs.Joined.{joined_low, joined_high}
use Rattle.clock.specs.Times.{limit}
use Rattle.hex_text.specs.Lines.{bytes_of}
use Rattle.hex_text.proofs.Trips.{byte_below, bytes_below}
use Rattle.words.specs.Words.{byte_at}
use Rattle.server_log.specs.Logs.{appended}
use Rattle.server_log.specs.Ranges.{FitsEntry}
use Rattle.mail.specs.Mails.{noted, received}
use Rattle.mail.specs.Ranges.{FitsReport}
use Rattle.mail.proofs.Ranges.{fits_received, fits_noted, fits_sourced}
use Rattle.cluster.specs.declared.Server.{Server}
use Rattle.cluster.specs.declared.Cluster.{Cluster}
use Rattle.cluster.specs.Ranges.{FitsHead, FitsServer, Fits}
use Rattle.cluster.specs.Servers.{most_servers, zero_server, zero_cluster, past_server, server_at, with_log, with_mail, with_server}
use Rattle.cluster.proofs.Changed.{fits_head, fits_log, fits_mail, fits_rowed}
use Rattle.cluster.proofs.Fresh.{fresh_past, fits_fresh}
use Rattle.base.proofs.Replaced.{all_set}
use Rattle.server_log.proofs.Ranges.{fits_appended}
use Rattle.lines.specs.Texts.{lines}
use Rattle.saved.specs.declared.Sort.{Sort}
use Rattle.saved.specs.declared.Sort.TheVariants as S
use Rattle.saved.specs.Layout.{Widths, numbers_in, said_at}
use Rattle.saved.specs.Written.{most_bytes}
use Rattle.saved.proofs.Fields.{said_below}
use Rattle.saved.proofs.Lawful.{BytesAt, ToldLawful, Lawful}
use Rattle.loads.specs.declared.Draft.{Draft}
use Rattle.loads.specs.Decoded.{head_said, source_said, server_said, entry_said, report_said, told_by, counting, beginning, telling, with_frame, roomy, decoded_by, fresh_draft, drafted_in, decoded_in}

-- ---- records

-- as past the count of a fresh cluster
fits_zero : FitsServer zero_server
fits_zero = subst FitsServer (fresh_past 2 0 6 (omega arith) (omega arith)) ((fits_fresh 2 0 (omega arith) (omega arith)).each 6 (omega arith))

fits_zero_cluster : Fits zero_cluster
fits_zero_cluster = record { count = omega arith; followers = omega arith; slots = refl; each = λ i l. rw (get_or-replicate most_servers i zero_server past_server l) fits_zero }

fits_put : {c : Cluster} → Fits c → (i : ℕ) (s : Server) → FitsServer s → Fits (with_server c i s)
fits_put {c} f i s new =
    record {
      count = f.count;
      followers = f.followers;
      slots = length-set c.servers i s ∙ f.slots;
      each = all_set FitsServer c.servers past_server most_servers (omega (arith, f.slots)) f.each i s new;
    }

fits_source_said : (n : ℕ) → n < 2 ^ 64 → IfSome (source_said n) (λ b. b < 2 ^ 64)
fits_source_said zero h = tt
fits_source_said (suc n) h = omega arith

-- ---- the fields of a frame

roomy_bytes : (line : List ℕ) → BytesAt (roomy (bytes_of line))
roomy_bytes line i =
    ⊎_elim (λ l. rw (joined_low 0 k bs (replicate most_bytes 0) (omega arith) i l) (byte_below bs (bytes_below line) i))
    (λ l. rw (joined_high 0 k bs (replicate most_bytes 0) (omega arith) i l) zero_below) (lt_or_le i k)
  where
    bs : List ℕ
    bs = bytes_of line

    k : ℕ
    k = min (length bs) most_bytes

    zero_below : get_or (replicate most_bytes 0) i 0 < byte
    zero_below =
        ⊎_elim (λ l. rw (get_or-replicate {A = ℕ} most_bytes i 0 0 l) (omega arith))
        (λ l. rw (get_or-eq_default {A = ℕ} (replicate most_bytes 0) 0 {n = i} l) (omega arith)) (lt_or_le i most_bytes)

module _ {w : Widths} (l : Lawful w) (bs : List ℕ) (b : BytesAt bs) where
  -- every number has room in two bytes
  number_at : (k : Sort) (i : ℕ) → said_at w k bs i ≤ limit
  number_at k i = said_below (w k) bs b 1 i

  fits_head_said : FitsHead (head_said (numbers_in w S.Server bs))
  fits_head_said =
      record {
        term = number_at S.Server 5;
        commit = omega (arith, number_at S.Server 6);
        wall = number_at S.Server 7;
        time = record { p = number_at S.Server 8; l = number_at S.Server 9 };
      }

  fits_entry_said : FitsEntry (entry_said (numbers_in w S.Entry bs))
  fits_entry_said =
      record { term = number_at S.Entry 0; key = l.key bs b; value = number_at S.Entry 2; time = record { p = number_at S.Entry 3; l = number_at S.Entry 4 } }

  fits_report_said : (k : Sort) → ToldLawful w k → FitsReport (report_said (numbers_in w k bs))
  fits_report_said k t = record { who = t.who bs b; note = record { term = number_at k 1; last = number_at k 2; len = number_at k 3 } }

  -- ---- what a frame does

  fits_told : {s : Server} → FitsServer s → FitsServer (told_by w s bs)
  unfolding told_by
  fits_told {s} f = go (eqb (byte_at bs 0) 2) (eqb (byte_at bs 0) 3) (eqb (byte_at bs 0) 4)
    where
      go : (x y z : Bool)
          → FitsServer
          (cond x (with_log s (appended s.log (entry_said (numbers_in w S.Entry bs))))
          (cond y (with_mail s (noted s.mail (report_said (numbers_in w S.Note bs))))
          (cond z (with_mail s (received s.mail (report_said (numbers_in w S.Report bs)))) s)))
      go true y z = fits_log f (fits_appended f.log fits_entry_said)
      go false true z = fits_mail f (fits_noted f.mail (fits_report_said S.Note l.note))
      go false false true = fits_mail f (fits_received f.mail (fits_report_said S.Report l.report))
      go false false false = f

  fits_begun : (d : Draft) → Fits d.cluster → Fits (beginning d (server_said (numbers_in w S.Server bs))).cluster
  unfolding beginning
  fits_begun d f = go (ltb d.begun most_servers)
    where
      new : Server
      new = server_said (numbers_in w S.Server bs)

      go : (x : Bool) → Fits (cond x (record { cluster = with_server d.cluster d.begun new; begun = d.begun + 1 }) d).cluster
      go true = fits_put f d.begun new (fits_mail (fits_head fits_zero fits_head_said) (fits_sourced fits_zero.mail (fits_source_said _ (omega (arith, number_at S.Server 3)))))
      go false = f

  fits_telling : (d : Draft) → Fits d.cluster → Fits (telling w d bs).cluster
  unfolding telling
  fits_telling d f = go (leb 1 d.begun && leb d.begun most_servers) refl
    where
      i : ℕ
      i = d.begun - 1

      go : (x : Bool) → (leb 1 d.begun && leb d.begun most_servers) ≡ x
          → Fits (cond x (record { cluster = with_server d.cluster i (told_by w (server_at d.cluster i) bs); begun = d.begun }) d).cluster
      go true e =
          let n = leb-true 1 d.begun (and_left _ _ e) in
          let m = leb-true d.begun most_servers (and_right (leb 1 d.begun) _ e) in
          fits_put f i (told_by w (server_at d.cluster i) bs) (fits_told (f.each i (omega arith)))
      go false e = f

  fits_frame : (d : Draft) → Fits d.cluster → Fits (with_frame w d bs).cluster
  unfolding with_frame
  fits_frame d f = go (eqb (byte_at bs 0) 0) (eqb (byte_at bs 0) 1)
    where
      go : (x y : Bool) → Fits (cond x (counting d (said_at w S.First bs 1) (said_at w S.First bs 2)) (cond y (beginning d (server_said (numbers_in w S.Server bs))) (telling w d bs))).cluster
      go true y = record { count = omega (arith, number_at S.First 1); followers = l.first.followers bs b; slots = f.slots; each = f.each }
      go false true = fits_begun d f
      go false false = fits_telling d f

-- ---- one frame after the other

module _ {w : Widths} (l : Lawful w) where
  fits_decoded_by : (d : Draft) (ls : List (List ℕ)) → Fits d.cluster → Fits (decoded_by w d (map bytes_of ls)).cluster
  fits_decoded_by d [] f = f
  fits_decoded_by d (x ∷ ls) f =
      fits_decoded_by (with_frame w d (roomy (bytes_of x))) ls (fits_frame l (roomy (bytes_of x)) (roomy_bytes x) d f)

  pub fits_decoded : (text : List ℕ) → Fits (decoded_in w text)
  unfolding drafted_in decoded_in
  fits_decoded text = fits_rowed (fits_decoded_by fresh_draft (lines text) fits_zero_cluster)
