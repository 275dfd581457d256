-- The frames of a saved form, byte by byte, as docs/SAVED.md draws them: a byte that says which sort a frame is, and then its numbers in order, in
-- fields of the widths that an edition gives them. Assumes nothing.
use Rattle.std.specs.Prelude.{◌≡◌, ◌<◌, cond, not, List, [], ◌∷◌, ℕ, suc, ◌+◌, Option, Some, None, Result, MatchResult}
use Rattle.base.specs.Numbers.{count}
use Rattle.words.specs.Words.{high_of, low_of, byte_at, word_at}
use Rattle.server_log.specs.declared.Entry.{Entry}
use Rattle.mail.specs.declared.Report.{Report}
use Rattle.mail.specs.declared.Note.{Note}
use Rattle.mail.specs.declared.Mail.{Mail}
use Rattle.mail.specs.Reports.{note_of}
use Rattle.mail.specs.Mails.{note_slots, note_at}
use Rattle.mail.specs.Order.{is_unused}
use Rattle.cluster.specs.declared.Server.{Server}
use Rattle.saved.specs.declared.NoSort.{NoSort}
use Rattle.saved.specs.declared.Sort.{Sort}
use Rattle.saved.specs.declared.Sort.TheVariants as S

-- ---- fields

-- a field has one byte, or two, high byte first
pub data Width : Type 0 where
  one : Width
  two : Width

-- the bytes of numbers, a field each; a number past the fields is left out
abbrev pub field_bytes : List Width → List ℕ → List ℕ
field_bytes [] ns = []
field_bytes (w ∷ ws) [] = []
field_bytes (one ∷ ws) (n ∷ ns) = n ∷ field_bytes ws ns
field_bytes (two ∷ ws) (n ∷ ns) = high_of n ∷ low_of n ∷ field_bytes ws ns

-- the numbers that bytes say, the first of which begins at place i
abbrev pub said_from : List Width → List ℕ → ℕ → List ℕ
said_from [] bs i = []
said_from (one ∷ ws) bs i = byte_at bs i ∷ said_from ws bs (i + 1)
said_from (two ∷ ws) bs i = word_at bs i ∷ said_from ws bs (i + 2)

abbrev pub size_by : List Width → ℕ
size_by [] = 0
size_by (one ∷ ws) = 1 + size_by ws
size_by (two ∷ ws) = 2 + size_by ws

-- ---- frames

-- the fields of each sort of frames
abbrev pub Widths : Type 0
Widths = Sort → List Width

abbrev pub sort_number : Sort → ℕ
sort_number S.First = 0
sort_number S.Server = 1
sort_number S.Entry = 2
sort_number S.Note = 3
sort_number S.Report = 4

-- the sort that has the number n, or n itself where none has it
abbrev pub NamesSort : ℕ → Result Sort NoSort → Type 0
NamesSort n named = MatchResult named (λ s. sort_number s ≡ n) (λ e. (e.0 ≡ n) × (4 < n))

abbrev pub frame : Widths → Sort → List ℕ → List ℕ
frame w s ns = sort_number s ∷ field_bytes (w s) ns

-- how many bytes a frame of each sort has, whatever it says
abbrev pub size_of : Widths → Sort → ℕ
size_of w s = suc (size_by (w s))

-- the numbers that a frame's bytes say, and the one at place i; 0 where there is no such field
abbrev pub numbers_in : Widths → Sort → List ℕ → List ℕ
numbers_in w s bs = said_from (w s) bs 1

abbrev pub said_at : Widths → Sort → List ℕ → ℕ → ℕ
said_at w s bs i = byte_at (numbers_in w s bs) i

-- ---- what they say

-- the edition, the server count, and the followers where there is a field for them
abbrev pub first_frame : Widths → ℕ → ℕ → ℕ → List ℕ
first_frame w edition size followers = frame w S.First (edition ∷ size ∷ followers ∷ [])

-- how many notes are used
abbrev pub used_notes : Mail → ℕ
used_notes m = count note_slots (λ i. not (is_unused (note_at m i)))

-- a source is 0 for none, and n + 1 for server n
abbrev pub source_number : Option ℕ → ℕ
source_number None = 0
source_number (Some n) = suc n

-- what follows it: entries, used notes, reports; then the source, the role (1 is primary), term, commit point, wall clock, cluster time
abbrev pub server_numbers : Server → List ℕ
server_numbers s =
    s.log.len ∷ used_notes s.mail ∷ s.mail.queue.len ∷ source_number s.mail.source ∷ cond s.head.primary 1 0
    ∷ s.head.term ∷ s.head.commit ∷ s.head.wall ∷ s.head.time.p ∷ s.head.time.l ∷ []

abbrev pub server_frame : Widths → Server → List ℕ
server_frame w s = frame w S.Server (server_numbers s)

-- term, key, value, time
abbrev pub entry_numbers : Entry → List ℕ
entry_numbers e = e.term ∷ e.key ∷ e.value ∷ e.time.p ∷ e.time.l ∷ []

abbrev pub entry_frame : Widths → Entry → List ℕ
entry_frame w e = frame w S.Entry (entry_numbers e)

-- whose it is, term, last term, length
abbrev pub told_numbers : ℕ → Note → List ℕ
told_numbers who n = who ∷ n.term ∷ n.last ∷ n.len ∷ []

abbrev pub note_frame : Widths → ℕ → Note → List ℕ
note_frame w who n = frame w S.Note (told_numbers who n)

abbrev pub report_frame : Widths → Report → List ℕ
report_frame w r = frame w S.Report (told_numbers r.who (note_of r))
