-- Numbers that are written in fields are read back, and what is read depends on the bytes alone. Assumes nothing.
use mathlib.Core.Path.{◌≡◌, refl, sym, ap, ◌∙◌}
use mathlib.Core.List.{List, [], ◌∷◌, ◌++◌, append_assoc}
use Prim.Native.Nat.{ℕ, zero, suc, ◌+◌, ◌<◌, ◌≤◌}
use native.Mathlib.Omega.{arith}
use lib.ListN.{length, take, length-append}
use lib.Seq.{get_or-append_seam, get_or-append-add}
use Rattle.base.specs.Numbers.{byte}
use Rattle.clock.specs.Times.{limit}
use Rattle.hex_text.proofs.Trips.{Bytes}
use Rattle.words.specs.Words.{high_of, low_of, word_of, byte_at, word_at}
use Rattle.words.proofs.Bytes.{high_below, low_below, word_below, word_parts}
use Rattle.saved.specs.Layout.{Width, one, two, field_bytes, said_from, size_by}

pub written_size : (ws : List Width) (ns : List ℕ) → length ns ≡ length ws → length (field_bytes ws ns) ≡ size_by ws
written_size [] ns e = refl
written_size (w ∷ ws) [] e = absurd (omega arith)
written_size (one ∷ ws) (n ∷ ns) e = omega (arith, written_size ws ns (omega arith))
written_size (two ∷ ws) (n ∷ ns) e = omega (arith, written_size ws ns (omega arith))

-- a number past the fields is left out
pub fields_taken : (ws : List Width) (ns : List ℕ) → field_bytes ws ns ≡ field_bytes ws (take (length ws) ns)
fields_taken [] ns = refl
fields_taken (w ∷ ws) [] = refl
fields_taken (one ∷ ws) (n ∷ ns) = cc (fields_taken ws ns)
fields_taken (two ∷ ws) (n ∷ ns) = cc (fields_taken ws ns)

-- ---- bytes

-- each number has room in its field
abbrev pub Room : List Width → List ℕ → Type 0
Room [] ns = Unit {0}
Room (w ∷ ws) [] = Unit {0}
Room (one ∷ ws) (n ∷ ns) = (n < byte) × Room ws ns
Room (two ∷ ws) (n ∷ ns) = (n ≤ limit) × Room ws ns

pub room_bytes : (ws : List Width) (ns : List ℕ) → Room ws ns → Bytes (field_bytes ws ns)
room_bytes [] ns r = tt
room_bytes (w ∷ ws) [] r = tt
room_bytes (one ∷ ws) (n ∷ ns) r = (r.0, room_bytes ws ns r.1)
room_bytes (two ∷ ws) (n ∷ ns) r = (high_below n r.0, (low_below n, room_bytes ws ns r.1))

-- ---- written and read

-- after whatever stands before
pub said_written : (ws : List Width) (ns pre : List ℕ) → length ns ≡ length ws → said_from ws (pre ++ field_bytes ws ns) (length pre) ≡ ns
said_written [] [] pre e = refl
said_written [] (n ∷ ns) pre e = absurd (omega arith)
said_written (w ∷ ws) [] pre e = absurd (omega arith)
said_written (one ∷ ws) (n ∷ ns) pre e =
    ap (λ (b : ℕ). b ∷ said_from ws (pre ++ (n ∷ field_bytes ws ns)) (length pre + 1)) (get_or-append_seam pre n (field_bytes ws ns) 0)
    ∙ ap (λ (x : List ℕ). n ∷ x) (past ∙ said_written ws ns (pre ++ (n ∷ [])) (omega arith))
  where
    past : said_from ws (pre ++ (n ∷ field_bytes ws ns)) (length pre + 1) ≡ said_from ws ((pre ++ (n ∷ [])) ++ field_bytes ws ns) (length (pre ++ (n ∷ [])))
    past =
        ap (λ (x : List ℕ). said_from ws x (length pre + 1)) (sym (append_assoc pre (n ∷ []) (field_bytes ws ns)))
        ∙ ap (said_from ws ((pre ++ (n ∷ [])) ++ field_bytes ws ns)) (sym (length-append pre (n ∷ [])))
said_written (two ∷ ws) (n ∷ ns) pre e =
    ap (λ (b : ℕ). b ∷ said_from ws whole (length pre + 2)) here ∙ ap (λ (x : List ℕ). n ∷ x) (past ∙ said_written ws ns (pre ++ parts) (omega arith))
  where
    parts : List ℕ
    parts = high_of n ∷ low_of n ∷ []

    whole : List ℕ
    whole = pre ++ (high_of n ∷ low_of n ∷ field_bytes ws ns)

    here : word_at whole (length pre) ≡ n
    here =
        ap (λ (h : ℕ). word_of h (byte_at whole (length pre + 1))) (get_or-append_seam pre (high_of n) (low_of n ∷ field_bytes ws ns) 0)
        ∙ ap (word_of (high_of n)) (get_or-append-add pre (high_of n ∷ low_of n ∷ field_bytes ws ns) 1 0) ∙ word_parts n

    past : said_from ws whole (length pre + 2) ≡ said_from ws ((pre ++ parts) ++ field_bytes ws ns) (length (pre ++ parts))
    past =
        ap (λ (x : List ℕ). said_from ws x (length pre + 2)) (sym (append_assoc pre parts (field_bytes ws ns)))
        ∙ ap (said_from ws ((pre ++ parts) ++ field_bytes ws ns)) (sym (length-append pre parts))

-- ---- read

module _ (bs cs : List ℕ) (same : (i : ℕ) → byte_at bs i ≡ byte_at cs i) where
  pub said_same : (ws : List Width) (i : ℕ) → said_from ws bs i ≡ said_from ws cs i
  said_same [] i = refl
  said_same (one ∷ ws) i = cc (same i, said_same ws (i + 1))
  said_same (two ∷ ws) i = cc (same i, same (i + 1), said_same ws (i + 2))

-- what is read of bytes has room in two
pub said_below : (ws : List Width) (bs : List ℕ) → ((i : ℕ) → byte_at bs i < byte) → (i j : ℕ) → byte_at (said_from ws bs i) j ≤ limit
said_below [] bs b i j = omega arith
said_below (one ∷ ws) bs b i zero = omega (arith, b i)
said_below (one ∷ ws) bs b i (suc j) = said_below ws bs b (i + 1) j
said_below (two ∷ ws) bs b i zero = word_below (byte_at bs i) (byte_at bs (i + 1)) (b i) (b (i + 1))
said_below (two ∷ ws) bs b i (suc j) = said_below ws bs b (i + 2) j
