-- A session part of the way along a text: what the loop of `feed` keeps. Assumes nothing.
use mathlib.Core.Path.{◌≡◌, refl, sym, ap, ◌∙◌, subst}
use mathlib.Core.Bool.{Bool, cond}
use mathlib.Core.List.{List, [], ◌∷◌, ◌++◌, append-nil}
use Prim.Native.Nat.{ℕ, suc, ◌+◌, ◌-◌, ◌≤◌, ◌<◌}
use native.Mathlib.Numerals.{add-one}
use native.Mathlib.Omega.{arith}
use borrow.Author.Tests.{lt-ltb, le-ltb, ne_eqb}
use lib.ListN.{length, get_or, take, drop, length-append}
use lib.Seq.{take-suc, drop-cons, drop-length}
use Rattle.replay.specs.declared.Session.{Session}
use Rattle.replay.specs.declared.Fed.{Fed}
use Rattle.cluster.specs.declared.Cluster.{Cluster}
use Rattle.steps.specs.declared.Outcome.{Outcome}
use Rattle.lines.specs.Texts.{line_feed, placed}
use Rattle.replay.specs.Texts.{answer_to, line_of}
use Rattle.lines.proofs.Placed.{placed_none, placed_length, placed_more}
use Rattle.replay.proofs.Whole.{runs_append, says_append, line_long}
use Rattle.lines.specs.Readers.{Reader, line_held, reader_after}
use Rattle.lines.specs.Folds.{byte_after}
use Rattle.replay.specs.Pieces.{answer_line, after, said, runs, says, taking, fed_of, fed_out, begun}

pub record Along (s : Session) (text out₀ : List ℕ) (out : List ℕ) (d : Session) (w i : ℕ) : Type 0 where
  pub at : i ≤ length text
  pub ran : runs s (take i text) ≡ d
  pub count : length (says s (take i text)) ≡ w
  pub room : w ≤ length out₀
  pub same : length out ≡ length out₀
  pub buffer : out ≡ placed out₀ 0 (says s (take i text))
  pub left : i + taking d (drop i text) (length out₀ - w) ≡ taking s text (length out₀)

pub start : (s : Session) (text out : List ℕ) → Along s text out out s 0 0
start s text out =
    record { at = omega arith; ran = refl; count = refl; room = omega arith; same = refl; buffer = sym (placed_none out 0); left = let e : length out - 0 ≡ length out = omega arith in omega (arith, ap (λ (k : ℕ). taking s text k) e) }

-- one byte more, which says xs
pub more : {s : Session} {text out₀ out : List ℕ} {d : Session} {w i : ℕ} (e : Session) (xs out' : List ℕ) → Along s text out₀ out d w i
    → i < length text → answer_line ≤ length out₀ - w → after d (get_or text i 0) ≡ e → said d (get_or text i 0) ≡ xs → length xs ≤ answer_line → out' ≡ placed out w xs
    → Along s text out₀ out' e (w + length xs) (i + 1)
more {s} {text} {out₀} {out} {d} {w} {i} e xs out' a h r p q l o =
    record {
      at = omega arith;
      ran = ap (runs s) snoc ∙ runs_append s (take i text) (b ∷ []) ∙ ap (λ (x : Session). after x b) a.ran ∙ p;
      count = counted;
      room = omega arith;
      same = ap length buf ∙ placed_length out₀ 0 (says s (take (i + 1) text)) (omega (arith, counted));
      buffer = buf;
      left = omega (arith, turn, a.left);
    }
  where
    b : ℕ
    b = get_or text i 0

    snoc : take (i + 1) text ≡ take i text ++ (b ∷ [])
    snoc = ap (λ (k : ℕ). take k text) (add-one i) ∙ take-suc text i 0 h

    saying : says s (take (i + 1) text) ≡ says s (take i text) ++ xs
    saying =
        ap (says s) snoc ∙ says_append s (take i text) (b ∷ [])
        ∙ ap (λ (x : List ℕ). says s (take i text) ++ x) (append-nil (said (runs s (take i text)) b) ∙ ap (λ (x : Session). said x b) a.ran ∙ q)

    counted : length (says s (take (i + 1) text)) ≡ w + length xs
    counted = ap length saying ∙ length-append (says s (take i text)) xs ∙ ap (λ (k : ℕ). k + length xs) a.count

    buf : out' ≡ placed out₀ 0 (says s (take (i + 1) text))
    buf =
        let told = says s (take i text) in
        let n : w ≡ 0 + length told = omega (arith, a.count) in
        o ∙ ap (λ (k : ℕ). placed out k xs) n ∙ ap (λ (l : List ℕ). placed l (0 + length told) xs) a.buffer
        ∙ placed_more out₀ 0 told (omega (arith, a.count, a.room)) xs ∙ ap (placed out₀ 0) (sym saying)

    rest : length out₀ - w - length xs ≡ length out₀ - (w + length xs)
    rest = omega arith

    turn : taking d (drop i text) (length out₀ - w) ≡ suc (taking e (drop (i + 1) text) (length out₀ - (w + length xs)))
    turn =
        ap (λ (l : List ℕ). taking d l (length out₀ - w)) (drop-cons text i 0 h)
        ∙ ap (λ (t : Bool). cond t 0 (suc (taking (after d b) (drop (suc i) text) (length out₀ - w - length (said d b))))) (le-ltb _ answer_line r)
        ∙ ap (λ (x : Session). suc (taking x (drop (suc i) text) (length out₀ - w - length (said d b)))) p
        ∙ ap (λ (x : List ℕ). suc (taking e (drop (suc i) text) (length out₀ - w - length x))) q
        ∙ ap (λ (k : ℕ). suc (taking e (drop (suc i) text) k)) rest
        ∙ ap (λ (k : ℕ). suc (taking e (drop k text) (length out₀ - (w + length xs)))) (sym (add-one i))

pub parts : {c c' : Cluster} {l l' : Reader} → c' ≡ c → l' ≡ l → ◌≡◌ {A = Session} (record { cluster = c'; reader = l' }) (record { cluster = c; reader = l })
parts p q = cc

-- a line feed: the line is answered
pub by_line : {s : Session} {text out₀ out : List ℕ} {d : Session} {w i : ℕ} (e : Session) (r : Outcome) (out' : List ℕ) → Along s text out₀ out d w i
    → i < length text → answer_line ≤ length out₀ - w → get_or text i 0 ≡ line_feed → r ≡ answer_to d.cluster (line_held d.reader) → e ≡ begun r.cluster
    → out' ≡ placed out w (line_of r.answer) → Along s text out₀ out' e (w + answer_line) (i + 1)
unfolding after said byte_after reader_after
by_line {s} {text} {out₀} {out} {d} {w} {i} e r out' a h room b p q o =
    subst (λ (k : ℕ). Along s text out₀ out' e (w + k) (i + 1)) (line_long r.answer)
    (more e (line_of r.answer) out' a h room
    (simp b (sym (q ∙ ap (λ (x : Outcome). begun x.cluster) p)))
    (simp b (sym (ap (λ (x : Outcome). line_of x.answer) p)))
    (omega (arith, line_long r.answer)) o)

-- any other byte
pub by_byte : {s : Session} {text out₀ out : List ℕ} {d : Session} {w i : ℕ} (l : Reader) → Along s text out₀ out d w i
    → i < length text → answer_line ≤ length out₀ - w → (get_or text i 0 ≡ line_feed → ⊥) → l ≡ reader_after d.reader (get_or text i 0)
    → Along s text out₀ out (record { cluster = d.cluster; reader = l }) w (i + 1)
unfolding after said byte_after
by_byte {s} {text} {out₀} {out} {d} {w} {i} l a h room b p =
    let z : w + 0 ≡ w = omega arith in
    subst (λ (k : ℕ). Along s text out₀ out (record { cluster = d.cluster; reader = l }) k (i + 1)) z
    (more (record { cluster = d.cluster; reader = l }) [] out a h room
    (simp (ne_eqb _ line_feed b) (ap (λ (x : Reader). record { cluster = d.cluster; reader = x }) (sym p)))
    (simp (ne_eqb _ line_feed b)) (omega arith)
    (sym (placed_none out w)))

-- no room, or no more text
no_room : (s : Session) (text : List ℕ) (room : ℕ) → room < answer_line → taking s text room ≡ 0
no_room s [] room h = refl
no_room s (b ∷ text) room h = ap (λ (t : Bool). cond t 0 (suc (taking (after s b) text (room - length (said s b))))) (lt-ltb room answer_line h)

no_text : (s : Session) (text : List ℕ) (i room : ℕ) → i ≡ length text → taking s (drop i text) room ≡ 0
no_text s text i room h = ap (λ (l : List ℕ). taking s l room) (ap (λ (k : ℕ). drop k text) h ∙ drop-length text)

module _ {s : Session} {text out₀ out : List ℕ} {d : Session} {w i : ℕ} (a : Along s text out₀ out d w i) where
  whole : taking d (drop i text) (length out₀ - w) ≡ 0 → i ≡ taking s text (length out₀)
  whole z = omega (arith, a.left)

  fed : taking d (drop i text) (length out₀ - w) ≡ 0 → ◌≡◌ {A = Fed} (record { session = d; taken = i; wrote = w }) (fed_of s text (length out₀))
  unfolding fed_of
  fed z =
      ap (λ (x : Session). record { session = x; taken = i; wrote = w }) (sym a.ran)
      ∙ ap (λ (k : ℕ). record { session = runs s (take i text); taken = i; wrote = k }) (sym a.count)
      ∙ ap (λ (k : ℕ). record { session = runs s (take k text); taken = k; wrote = length (says s (take k text)) }) (whole z)

  put : taking d (drop i text) (length out₀ - w) ≡ 0 → out ≡ fed_out s text out₀
  unfolding fed_out
  put z = a.buffer ∙ ap (λ (k : ℕ). placed out₀ 0 (says s (take k text))) (whole z)

  pub stopped : length out₀ - w < answer_line → (◌≡◌ {A = Fed} (record { session = d; taken = i; wrote = w }) (fed_of s text (length out₀))) × (out ≡ fed_out s text out₀)
  stopped h = (fed (no_room d (drop i text) _ h), put (no_room d (drop i text) _ h))

  pub ended : i ≡ length text → (◌≡◌ {A = Fed} (record { session = d; taken = i; wrote = w }) (fed_of s text (length out₀))) × (out ≡ fed_out s text out₀)
  ended h = (fed (no_text d text i _ h), put (no_text d text i _ h))
