-- A text decoded line by line: what a loop knows that looks for line feeds. Assumes nothing.
use mathlib.Core.Path.{◌≡◌, refl, sym, ap, ◌∙◌}
use mathlib.Core.List.{List, [], ◌∷◌, ◌++◌, map, append-nil}
use mathlib.Core.Logic.{◌≢◌}
use Prim.Native.Nat.{ℕ, suc, ◌+◌, ◌-◌, ◌<◌, ◌≤◌}
use native.Mathlib.Numerals.{add-one}
use native.Mathlib.Omega.{arith}
use borrow.Author.Tests.{ne_eqb}
use lib.ListN.{length, get_or, take, drop, length-take, length-drop, take-append-drop, drop_of_length-le}
use lib.Seq.{take-suc, drop-cons, drop-drop, get_or-drop}
use Rattle.hex_text.specs.Lines.{bytes_of}
use Rattle.lines.specs.Texts.{line_feed, lines}
use Rattle.lines.proofs.Lines.{Plain, none, more, plain_snoc, line_first, line_last}
use Rattle.saved.specs.Layout.{Widths}
use Rattle.loads.specs.declared.Draft.{Draft}
use Rattle.loads.specs.Decoded.{with_frame, roomy, decoded_by, fresh_draft, drafted_in}

-- the bytes from start up to i
abbrev pub part : List ℕ → ℕ → ℕ → List ℕ
part text start i = take (i - start) (drop start text)

-- the draft of the lines of a text from a place on
abbrev reading : Widths → Draft → List ℕ → Draft
reading w d text = decoded_by w d (map bytes_of (lines text))

-- the lines up to start are decoded, and from there to i there is no line feed
pub record Read (w : Widths) (text : List ℕ) (d : Draft) (start i : ℕ) : Type 0 where
  pub begun : start ≤ i
  pub inside : i ≤ length text
  pub plain : Plain (part text start i)
  pub same : reading w d (drop start text) ≡ reading w fresh_draft text

pub read_none : (w : Widths) (text : List ℕ) → Read w text fresh_draft 0 0
read_none w text = record { begun = omega arith; inside = omega arith; plain = none; same = refl }

module _ {w : Widths} {text : List ℕ} {d : Draft} {start i : ℕ} (r : Read w text d start i) where
  -- what is left to read
  cut : drop start text ≡ part text start i ++ drop i text
  cut =
      let e : start + (i - start) ≡ i = omega (arith, r.begun) in
      sym (take-append-drop (i - start) (drop start text)) ∙ ap (λ (l : List ℕ). part text start i ++ l) (drop-drop (i - start) start text ∙ ap (λ (k : ℕ). drop k text) e)

  module _ (h : i < length text) where
    pub read_character : get_or text i 0 ≢ line_feed → Read w text d start (i + 1)
    read_character n = record { begun = omega (arith, r.begun); inside = omega arith; plain = longer; same = r.same }
      where
        next : get_or (drop start text) (i - start) 0 ≡ get_or text i 0
        next = let e : start + (i - start) ≡ i = omega (arith, r.begun) in get_or-drop start text (i - start) 0 ∙ ap (λ (k : ℕ). get_or text k 0) e

        longer : Plain (part text start (i + 1))
        longer =
            let e : i + 1 - start ≡ suc (i - start) = omega (arith, r.begun) in
            rw (e, take-suc (drop start text) (i - start) 0 (omega (arith, length-drop start text, r.begun)), next) (plain_snoc (get_or text i 0) r.plain (ne_eqb _ _ n))

    pub read_line : {e : Draft} → get_or text i 0 ≡ line_feed → e ≡ with_frame w d (roomy (bytes_of (part text start i))) → Read w text e (i + 1) (i + 1)
    read_line {e} f p = record { begun = omega arith; inside = omega arith; plain = nothing; same = after }
      where
        nothing : Plain (part text (i + 1) (i + 1))
        nothing = let z : i + 1 - (i + 1) ≡ 0 = omega arith in rw z none

        here : drop i text ≡ line_feed ∷ drop (i + 1) text
        here = drop-cons text i 0 h ∙ ap (λ (b : ℕ). b ∷ drop (suc i) text) f ∙ ap (λ (k : ℕ). line_feed ∷ drop k text) (sym (add-one i))

        line : lines (drop start text) ≡ part text start i ∷ lines (drop (i + 1) text)
        line = ap lines (cut ∙ ap (λ (l : List ℕ). part text start i ++ l) here) ∙ line_first (drop (i + 1) text) r.plain

        after : reading w e (drop (i + 1) text) ≡ reading w fresh_draft text
        after = ap (λ (x : Draft). reading w x (drop (i + 1) text)) p ∙ sym (ap (λ (ls : List (List ℕ)). decoded_by w d (map bytes_of ls)) line) ∙ r.same

  -- ---- at the end

  module _ (h : length text ≤ i) where
    rest : drop start text ≡ part text start i
    rest = cut ∙ ap (λ (l : List ℕ). part text start i ++ l) (drop_of_length-le text {i = i} h) ∙ append-nil (part text start i)

    -- a last line without a line feed counts
    pub read_last : {e : Draft} → start < i → e ≡ with_frame w d (roomy (bytes_of (part text start i))) → e.cluster ≡ drafted_in w text
    unfolding drafted_in
    read_last {e} l p =
        ap (λ (x : Draft). x.cluster) (p ∙ sym (ap (λ (ls : List (List ℕ)). decoded_by w d (map bytes_of ls)) (ap lines rest ∙ one (part text start i) r.plain some)) ∙ r.same)
      where
        some : 0 < length (part text start i)
        some = omega (arith, length-take (i - start) (drop start text), length-drop start text, r.inside)

        one : (p : List ℕ) → Plain p → 0 < length p → lines p ≡ p ∷ []
        one [] q l = absurd (omega arith)
        one (b ∷ p) (more f q) l = line_last b p f q

    pub read_all : i ≤ start → d.cluster ≡ drafted_in w text
    unfolding drafted_in
    read_all l =
        let e : drop start text ≡ [] = drop_of_length-le text {i = start} (omega arith) in
        ap (λ (x : Draft). x.cluster) (sym (ap (reading w d) e) ∙ r.same)
