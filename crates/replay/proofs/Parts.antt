-- A piece for which there is room: where every byte of it could be a line and its answer would fit, all of it is taken in one go; such pieces one
-- after the other, with a reader that is lent; and the end. Assumes nothing.
use mathlib.Core.Path.{◌≡◌, refl, ap, ◌∙◌}
use mathlib.Core.Bool.{Bool, true, false, cond, true≢false, false≢true}
use mathlib.Core.List.{List, [], ◌∷◌, ◌++◌}
use Prim.Native.Nat.{ℕ, suc, ◌+◌, ◌≤◌, ◌*◌, ◌-◌}
use native.Mathlib.Omega.{arith}
use borrow.Author.Tests.{le-ltb}
use lib.Dec.{ltb}
use lib.ListN.{length, take, drop}
use lib.Seq.{take-length, take_at}
use Rattle.replay.specs.declared.Session.{Session}
use Rattle.replay.specs.declared.Fed.{Fed}
use Rattle.replay.specs.declared.Finished.{Finished}
use Rattle.cluster.specs.declared.Cluster.{Cluster}
use Rattle.replay.specs.Texts.{answers, leaves}
use Rattle.replay.specs.Lent.{FedOn, nothing, piece}
use Rattle.lines.specs.Texts.{together, placed}
use Rattle.lines.specs.Readers.{fresh_reader, is_empty}
use Rattle.replay.specs.Pieces.{answer_line, begun, after, said, runs, says, runs_all, says_all, taking, fed_of, fed_out, ending, ended, finish_of}
use Rattle.replay.proofs.Whole.{said_short, any_pieces, any_pieces_record}

pub all_taken : (s : Session) (text : List ℕ) (room : ℕ) → answer_line * length text ≤ room → taking s text room ≡ length text
all_taken s [] room h = refl
all_taken s (b ∷ bs) room h =
    rw (le-ltb room answer_line (omega arith)) (ap suc (all_taken (after s b) bs (room - length (said s b)) (omega (arith, said_short s b))))

whole_piece : (s : Session) (text : List ℕ) (room : ℕ) → answer_line * length text ≤ room → take (taking s text room) text ≡ text
whole_piece s text room h = ap (λ (k : ℕ). take k text) (all_taken s text room h) ∙ take-length text

-- what is fed then is the session after the whole piece, and what it says
pub record All (s : Session) (text : List ℕ) (r : Fed) : Type 0 where
  pub session : r.session ≡ runs s text
  pub wrote : r.wrote ≡ length (says s text)

pub fed_all : (s : Session) (text : List ℕ) (room : ℕ) (r : Fed) → answer_line * length text ≤ room → r ≡ fed_of s text room → All s text r
unfolding fed_of
fed_all s text room r h e =
    record {
      session = ap (λ (f : Fed). f.session) e ∙ ap (runs s) (whole_piece s text room h);
      wrote = ap (λ (f : Fed). f.wrote) e ∙ ap (λ (t : List ℕ). length (says s t)) (whole_piece s text room h);
    }

pub fed_all_out : (s : Session) (text out : List ℕ) → answer_line * length text ≤ length out → fed_out s text out ≡ placed out 0 (says s text)
unfolding fed_out
fed_all_out s text out h = ap (λ (t : List ℕ). placed out 0 (says s t)) (whole_piece s text (length out) h)

-- ---- one piece after the other

-- what was written of a piece is what it says
written : (s : Session) (x out : List ℕ) → answer_line * length x ≤ length out → take (fed_of s x (length out)).wrote (fed_out s x out) ≡ says s x
written s x out h =
    ap (λ (k : ℕ). take k (fed_out s x out)) (fed_all s x (length out) (fed_of s x (length out)) h refl).wrote
    ∙ ap (take (length (says s x))) (fed_all_out s x out h) ∙ take_at (says s x) (drop (0 + length (says s x)) out) (length (says s x)) refl

pub fed_on : {s d : Session} {xs : List (List ℕ)} {all : List ℕ} → FedOn s xs d all → (d ≡ runs_all s xs) × (all ≡ says_all s xs)
fed_on nothing = (refl, refl)
fed_on (piece {s} {d} {x} {xs} {rest} out h r) =
    let e = (fed_all s x (length out) (fed_of s x (length out)) h refl).session in
    let u = fed_on r in (
      u.0 ∙ ap (λ (q : Session). runs_all q xs) e,
      ap (λ (l : List ℕ). l ++ rest) (written s x out h) ∙ ap (λ (l : List ℕ). says s x ++ l) (u.1 ∙ ap (λ (q : Session). says_all q xs) e),
    )

-- however the text is cut, empty pieces or not
pub lent_say : (c : Cluster) (xs : List (List ℕ)) (d : Session) (all : List ℕ) → FedOn (begun c) xs d all → all ++ ending d ≡ answers c (together xs)
lent_say c xs d all f =
    let u = fed_on f in ap (λ (l : List ℕ). l ++ ending d) u.1 ∙ ap (λ (q : Session). says_all (begun c) xs ++ ending q) u.0 ∙ any_pieces c xs

pub lent_leave : (c : Cluster) (xs : List (List ℕ)) (d : Session) (all : List ℕ) → FedOn (begun c) xs d all → ended d ≡ leaves c (together xs)
lent_leave c xs d all f = ap ended (fed_on f).0 ∙ any_pieces_record c xs

-- ---- the end, by whether nothing is held and whether there is no room

end_by : Session → Bool → Bool → Finished
end_by s x y =
    cond x (record { session = begun s.cluster; wrote = 0; ended = true })
    (cond y (record { session = s; wrote = 0; ended = false }) (record { session = begun (ended s); wrote = answer_line; ended = true }))

fresh_by : (s : Session) (x y : Bool) → (end_by s x y).ended ≡ true → (end_by s x y).session.reader ≡ fresh_reader
unfolding end_by
fresh_by s true y e = refl
fresh_by s false true e = absurd (false≢true e)
fresh_by s false false e = refl

waits_by : (s : Session) (x y : Bool) → (end_by s x y).ended ≡ false → (end_by s x y).session ≡ s
unfolding end_by
waits_by s true y e = absurd (true≢false e)
waits_by s false true e = refl
waits_by s false false e = absurd (true≢false e)

-- it leaves a fresh reader; where there is no room for the answer all stays as it was, and it can be ended again
pub end_fresh : (s : Session) (room : ℕ) → (finish_of s room).ended ≡ true → (finish_of s room).session.reader ≡ fresh_reader
unfolding finish_of end_by
end_fresh s room = fresh_by s (is_empty s.reader) (ltb room answer_line)

pub end_waits : (s : Session) (room : ℕ) → (finish_of s room).ended ≡ false → (finish_of s room).session ≡ s
unfolding finish_of end_by
end_waits s room = waits_by s (is_empty s.reader) (ltb room answer_line)
