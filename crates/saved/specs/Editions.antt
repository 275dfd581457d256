-- The editions of the saved form, as data: an edition's number, what its records may hold, and the fields of its frames. Assumes nothing.
use Rattle.std.specs.Prelude.{Bool, false, cond, ◌&&◌, ◌||◌, List, [], ◌∷◌, ℕ, eqb, ltb, leb, length}
use Rattle.base.specs.Numbers.{every}
use Rattle.server_log.specs.Logs.{log_limit, highest_position, kept}
use Rattle.mail.specs.declared.Queue.{Queue}
use Rattle.mail.specs.declared.Mail.{Mail}
use Rattle.mail.specs.Queues.{queue_limit, report_at}
use Rattle.mail.specs.Mails.{note_slots, note_at}
use Rattle.cluster.specs.declared.Server.{Server}
use Rattle.cluster.specs.declared.Cluster.{Cluster}
use Rattle.cluster.specs.Servers.{most_servers, server_at}
use Rattle.cluster.specs.WellFormed.{well_formed}
use Rattle.saved.specs.declared.Limits.{Limits}
use Rattle.saved.specs.declared.Sort.TheVariants as S
use Rattle.saved.specs.Layout.{Width, one, two, Widths}

-- entries: how many a log may have; positions: the greatest length in notes and reports
pub record Edition : Type 0 where
  pub number : ℕ
  pub entries : ℕ
  pub positions : ℕ
  pub widths : Widths

-- ---- the editions

-- the fields of the frames: those of the first are the edition's own
abbrev pub widths_by : List Width → Widths
widths_by first S.First = first
widths_by first S.Server = two ∷ one ∷ one ∷ one ∷ one ∷ two ∷ two ∷ two ∷ two ∷ two ∷ []
widths_by first S.Entry = two ∷ one ∷ two ∷ two ∷ two ∷ []
widths_by first S.Note = one ∷ two ∷ two ∷ two ∷ []
widths_by first S.Report = one ∷ two ∷ two ∷ two ∷ []

-- of editions 1 and 2
abbrev pub widths1 : Widths
widths1 = widths_by (one ∷ one ∷ [])

-- of edition 3, whose first frame has the followers too
abbrev pub widths3 : Widths
widths3 = widths_by (one ∷ one ∷ one ∷ [])

abbrev pub edition1 : Edition
edition1 = record { number = 1; entries = 32; positions = 32; widths = widths1 }

abbrev pub edition2 : Edition
edition2 = record { number = 2; entries = log_limit; positions = highest_position; widths = widths1 }

abbrev pub edition3 : Edition
edition3 = record { number = 3; entries = log_limit; positions = highest_position; widths = widths3 }

-- those that the program knows; it writes the newest
abbrev pub editions : List Edition
editions = edition1 ∷ edition2 ∷ edition3 ∷ []

abbrev pub newest : Edition
newest = edition3

-- ---- by their numbers

-- a reader knows an edition of this number
abbrev pub is_known : List Edition → ℕ → Bool
is_known [] n = false
is_known (e ∷ es) n = eqb n e.number || is_known es n

-- the edition of this number among those that are known
abbrev pub edition_numbered : List Edition → ℕ → Edition
edition_numbered [] n = newest
edition_numbered (e ∷ es) n = cond (eqb n e.number) e (edition_numbered es n)

-- ---- what they allow

-- the first frame has a field for the followers
abbrev pub tells_followers : Widths → Bool
tells_followers w = ltb 2 (length (w S.First))

abbrev pub limits_of : Edition → Limits
limits_of e = record { entries = e.entries; positions = e.positions; followers = tells_followers e.widths }

unfoldable pub notes_within : ℕ → Mail → Bool
notes_within n m = every note_slots (λ i. leb (note_at m i).len n)

unfoldable pub reports_within : ℕ → Queue → Bool
reports_within n q = every queue_limit (λ i. leb (report_at q i).len n)

unfoldable pub allows_server : Edition → Server → Bool
allows_server e s =
    leb (length (kept s.log)) e.entries && (notes_within e.positions s.mail && reports_within e.positions s.mail.queue)

abbrev pub allows_followers : Widths → ℕ → Bool
allows_followers w f = tells_followers w || eqb f 0

-- a record without followers, unless the edition has them; with no more entries in a log, and no greater lengths in notes and reports, than it has
unfoldable pub allows : Edition → Cluster → Bool
allows e c = allows_followers e.widths c.followers && every most_servers (λ i. allows_server e (server_at c i))

-- a record that the edition has a form for
unfoldable pub has_form : Edition → Cluster → Bool
has_form e c = well_formed c && allows e c
