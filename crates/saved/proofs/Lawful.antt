-- What the fields of an edition have to meet for its saved forms to be read back: each frame has room in the longest, each number of a record in its
-- field, and each field its number. The fields of all editions meet it. Assumes nothing.
use mathlib.Core.Path.{◌≡◌, refl, sym}
use mathlib.Core.Bool.{Bool, true, false, cond, not, ◌||◌}
use mathlib.Core.List.{List, [], ◌∷◌}
use mathlib.Core.Logic.{◌≢◌}
use Prim.Native.Nat.{ℕ, ◌<◌, ◌≤◌}
use native.Mathlib.Omega.{arith}
use lib.Dec.{eqb}
use lib.ListN.{length}
use borrow.Author.Tests.{eqb-true, eq-eqb, ne_eqb}
use Rattle.base.specs.Numbers.{byte}
use Rattle.base.proofs.Bools.{or_no, not_both}
use Rattle.base.proofs.Cases.{◌▸◌}
use Rattle.base.proofs.Counting.{count_le}
use Rattle.words.specs.Words.{byte_at}
use Rattle.server_log.specs.declared.Entry.{Entry}
use Rattle.server_log.specs.Ranges.{FitsEntry}
use Rattle.mail.specs.declared.Note.{Note}
use Rattle.mail.specs.Mails.{note_slots, note_at}
use Rattle.mail.specs.Order.{is_unused}
use Rattle.mail.specs.Ranges.{FitsNote}
use Rattle.cluster.specs.declared.Server.{Server}
use Rattle.cluster.specs.Ranges.{FitsServer}
use Rattle.saved.specs.declared.Sort.{Sort}
use Rattle.saved.specs.declared.Sort.TheVariants as S
use Rattle.saved.specs.Layout.{Width, one, Widths, size_by, size_of, said_at, first_frame, server_numbers, entry_numbers, told_numbers}
use Rattle.saved.specs.Editions.{Edition, widths_by, widths1, widths3, editions, newest, is_known, edition_numbered}
use Rattle.saved.specs.Written.{most_bytes, Small}
use Rattle.saved.proofs.Fields.{Room}

-- every place of a list holds a byte
abbrev pub BytesAt : List ℕ → Type 0
BytesAt bs = (i : ℕ) → byte_at bs i < byte

-- a frame of a note or of a report
pub record ToldLawful (w : Widths) (k : Sort) : Type 0 where
  pub long : length (w k) ≡ 4
  pub room : (who : ℕ) (n : Note) → who < byte → FitsNote n → Room (w k) (told_numbers who n)
  pub who : (bs : List ℕ) → BytesAt bs → said_at w k bs 0 < byte

-- a first frame: the edition stands first, the count has a field, and no field is without a number
pub record FirstLawful (w : Widths) : Type 0 where
  pub counts : 1 < length (w S.First)
  pub long : length (w S.First) ≤ 3
  pub room : (edition size followers : ℕ) → edition < byte → size < byte → followers < byte → Room (w S.First) (edition ∷ size ∷ followers ∷ [])
  pub named : (edition size followers : ℕ) → byte_at (first_frame w edition size followers) 1 ≡ edition
  pub followers : (bs : List ℕ) → BytesAt bs → said_at w S.First bs 2 < byte

pub record Lawful (w : Widths) : Type 0 where
  pub small : (k : Sort) → size_of w k ≤ most_bytes
  pub first : FirstLawful w
  pub server_long : length (w S.Server) ≡ 10
  pub server : (s : Server) → FitsServer s → Small s → Room (w S.Server) (server_numbers s)
  pub entry_long : length (w S.Entry) ≡ 5
  pub entry : (e : Entry) → FitsEntry e → Room (w S.Entry) (entry_numbers e)
  pub key : (bs : List ℕ) → BytesAt bs → said_at w S.Entry bs 1 < byte
  pub note : ToldLawful w S.Note
  pub report : ToldLawful w S.Report

-- ---- the fields of the editions

role_byte : (b : Bool) → cond b 1 0 < byte
role_byte true = omega arith
role_byte false = omega arith

server_room : (s : Server) → FitsServer s → Small s → Room (widths1 S.Server) (server_numbers s)
server_room s f k =
    let notes = count_le (λ i. not (is_unused (note_at s.mail i))) note_slots in
    let h = f.head in
    omega (arith, k.entries) ▸ omega (arith, notes) ▸ omega (arith, k.reports) ▸ omega (arith, k.source) ▸ role_byte s.head.primary
    ▸ h.term ▸ omega (arith, k.commit) ▸ h.wall ▸ h.time.p ▸ h.time.l ▸ tt

lawful_by : (first : List Width) → size_by first < most_bytes → FirstLawful (widths_by first) → Lawful (widths_by first)
lawful_by first short f =
    record {
      small = small;
      first = f;
      server_long = refl;
      server = server_room;
      entry_long = refl;
      entry = λ e f. f.term ▸ f.key ▸ f.value ▸ f.time.p ▸ f.time.l ▸ tt;
      key = λ bs b. b 3;
      note = told;
      report = record { long = refl; room = told.room; who = told.who };
    }
  where
    small : (k : Sort) → size_of (widths_by first) k ≤ most_bytes
    small S.First = omega arith
    small S.Server = omega arith
    small S.Entry = omega arith
    small S.Note = omega arith
    small S.Report = omega arith

    told : ToldLawful (widths_by first) S.Note
    told = record { long = refl; room = λ who n h f. h ▸ f.term ▸ f.last ▸ f.len ▸ tt; who = λ bs b. b 1 }

pub lawful1 : Lawful widths1
lawful1 =
    lawful_by (one ∷ one ∷ []) (omega arith)
    (record { counts = omega arith; long = omega arith; room = λ e s f h k l. h ▸ k ▸ tt; named = λ e s f. refl; followers = λ bs b. omega arith })

pub lawful3 : Lawful widths3
lawful3 =
    lawful_by (one ∷ one ∷ one ∷ []) (omega arith)
    (record { counts = omega arith; long = omega arith; room = λ e s f h k l. h ▸ k ▸ l ▸ tt; named = λ e s f. refl; followers = λ bs b. b 3 })

-- ---- editions by their numbers

-- what holds of every edition that is known, and of the newest
abbrev pub Each : (Edition → Type 0) → List Edition → Type 0
Each P [] = P newest
Each P (e ∷ es) = P e × Each P es

pub numbered : (P : Edition → Type 0) (knows : List Edition) → Each P knows → (n : ℕ) → P (edition_numbered knows n)
numbered P [] h n = h
numbered P (e ∷ es) h n = go (eqb n e.number) (numbered P es h.1 n)
  where
    go : (b : Bool) → P (edition_numbered es n) → P (cond b e (edition_numbered es n))
    go true rest = h.0
    go false rest = rest

pub numbered_is : (knows : List Edition) (n : ℕ) → is_known knows n ≡ true → (edition_numbered knows n).number ≡ n
numbered_is [] n h = not_both false h refl
numbered_is (e ∷ es) n h = go (eqb n e.number) refl h (numbered_is es n)
  where
    go : (b : Bool) → eqb n e.number ≡ b → (b || is_known es n) ≡ true → (is_known es n ≡ true → (edition_numbered es n).number ≡ n) → (cond b e (edition_numbered es n)).number ≡ n
    go true p h rest = sym (eqb-true n e.number p)
    go false p h rest = rest h

-- ---- for the code

pub known_1 : (n : ℕ) → n ≡ 1 → true ≡ is_known editions n
known_1 n e = rw (eq-eqb n 1 e)

pub known_2 : (n : ℕ) → n ≢ 1 → n ≡ 2 → true ≡ is_known editions n
known_2 n x e = rw (ne_eqb n 1 x, eq-eqb n 2 e)

pub known_3 : (n : ℕ) → n ≢ 1 → n ≢ 2 → eqb n 3 ≡ is_known editions n
known_3 n x y = rw (ne_eqb n 1 x, ne_eqb n 2 y) (sym (or_no (eqb n 3) false refl))
