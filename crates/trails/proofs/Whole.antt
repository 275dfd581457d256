-- Whatever pieces a text arrives in, what is shown on the way is its trace, and the record is the one that it leaves. Assumes nothing.
use mathlib.Core.Path.{◌≡◌, refl, sym, ap, ◌∙◌}
use mathlib.Core.Bool.{Bool, true, false, cond}
use mathlib.Core.List.{List, [], ◌∷◌, ◌++◌, append_assoc, append-nil}
use mathlib.Core.Logic.{⊎_elim}
use Prim.Native.Nat.{ℕ, ◌≤◌, ◌<◌}
use native.Mathlib.Omega.{arith}
use borrow.Author.Tests.{eqb-true, eq-eqb, ne_eqb}
use lib.Dec.{eqb}
use lib.ListN.{length, take, length-take}
use lib.Seq.{take_all}
use Rattle.base.proofs.Facts.{lt_or_le}
use Rattle.words.proofs.Framed.{framed_other}
use Rattle.cluster.specs.declared.Cluster.{Cluster}
use Rattle.steps.specs.declared.Outcome.{Outcome}
use Rattle.std.proofs.Common.{None}
use Rattle.frames.specs.Layout.{step_bytes}
use Rattle.frames.specs.Steps.{step_in, read_step}
use Rattle.lines.specs.Texts.{line_feed, lines, together, one_more}
use Rattle.lines.specs.Turns.{over_pieces}
use Rattle.lines.proofs.Lines.{Plain, none, more, plain_snoc, line_first, line_last}
use Rattle.replay.specs.Texts.{respond, answer_to, record_after, leaves}
use Rattle.replay.specs.Pieces.{line_after}
use Rattle.traces.specs.declared.CutLine.{CutLine}
use Rattle.traces.specs.Shown.{most_shown}
use Rattle.traces.specs.Pairs.{pair_line}
use Rattle.traces.specs.Writing.{nothing_kept, kept_with, kept_after, held_in}
use Rattle.traces.proofs.Each.{each_append}
use Rattle.traces.proofs.Keeping.{Keeps, keeps_none, keeps_with, pair_is}
use Rattle.trails.specs.declared.Wanted.{Wanted}
use Rattle.trails.specs.declared.follow.Trail.{Trail}
use Rattle.trails.specs.Traces.{line_traced, trace_from, trace_of}
use Rattle.trails.specs.Bytes.{wanted_of, shown_by, begun_trail, trail_after, trail_over, shown_at, shown_over, shown_last, ended_trail}

-- a line of which not all is kept is no frame, as what is kept is none
kept_step : (p : List ℕ) → read_step (take most_shown p) ≡ read_step p
kept_step p = ⊎_elim long short (lt_or_le most_shown (length p))
  where
    long : most_shown < length p → read_step (take most_shown p) ≡ read_step p
    long h =
        sym (framed_other step_bytes step_in None (take most_shown p) (λ e. omega (arith, e, length-take most_shown p)))
        ∙ framed_other step_bytes step_in None p (λ e. omega (arith, e))

    short : length p ≤ most_shown → read_step (take most_shown p) ≡ read_step p
    short h = ap read_step (take_all most_shown p h)

module _ (c : Cluster) (k : CutLine) (p : List ℕ) (h : Keeps k p) where
  kept_answer : answer_to c (held_in k) ≡ answer_to c p
  unfolding answer_to
  kept_answer = ap (respond c) (ap read_step h.held ∙ kept_step p)

  kept_after_lem : line_after c (held_in k) ≡ line_after c p
  kept_after_lem = ap (λ (o : Outcome). o.cluster) kept_answer

  -- what is shown of the line that is kept is the line's own
  kept_shown : (w : Wanted) (n : ℕ) → shown_by w n c k ≡ line_traced w n c p
  unfolding wanted_of
  kept_shown w n =
      ap (λ (t : List ℕ). wanted_of w n c (line_after c (held_in k)) t) (pair_is k p (answer_to c (held_in k)).answer h)
      ∙ ap (λ (o : Outcome). wanted_of w n c o.cluster (pair_line p o.answer)) kept_answer

abbrev trail : Cluster → CutLine → ℕ → Trail
trail c k n = record { cluster = c; kept = k; number = n }

module _ (w : Wanted) where
  -- from any point of a line
  abbrev Right : List ℕ → Type 0
  Right text =
      (c : Cluster) (k : CutLine) (n : ℕ) (p : List ℕ) → Plain p → Keeps k p
      → shown_over w (trail c k n) text ++ shown_last w (trail_over (trail c k n) text) ≡ trace_from w n c (lines (p ++ text))

  from : (text : List ℕ) → Right text
  unfolding shown_last trail_after shown_at kept_after
  from [] c k n [] q h = rw (eq-eqb k.fill 0 h.fill)
  from [] c k n (b ∷ p) (more e q) h =
      rw (ne_eqb k.fill 0 (λ z. omega (arith, z, h.fill)))
      (kept_shown c k (b ∷ p) h w n ∙ sym (append-nil (line_traced w n c (b ∷ p)))
      ∙ sym (ap (trace_from w n c) (ap (λ (l : List ℕ). lines (b ∷ l)) (append-nil p) ∙ line_last b p e q)))
  from (b ∷ text) c k n p q h = go (from text) (eqb b line_feed) refl
    where
      next : Bool → Trail
      next x = trail (cond x (line_after c (held_in k)) c) (cond x nothing_kept (kept_with k b)) (cond x (one_more n) n)

      go : Right text → (x : Bool) → eqb b line_feed ≡ x
          → (cond x (shown_by w n c k) [] ++ shown_over w (next x) text) ++ shown_last w (trail_over (next x) text) ≡ trace_from w n c (lines (p ++ (b ∷ text)))
      go right true e =
          append_assoc (shown_by w n c k) (shown_over w (next true) text) (shown_last w (trail_over (next true) text))
          ∙ ap (λ (l : List ℕ). shown_by w n c k ++ l) (right (line_after c (held_in k)) nothing_kept (one_more n) [] none keeps_none)
          ∙ ap (λ (l : List ℕ). l ++ trace_from w (one_more n) (line_after c (held_in k)) (lines text)) (kept_shown c k p h w n)
          ∙ ap (λ (d : Cluster). line_traced w n c p ++ trace_from w (one_more n) d (lines text)) (kept_after_lem c k p h)
          ∙ sym (ap (trace_from w n c) (ap (λ (j : ℕ). lines (p ++ (j ∷ text))) (eqb-true b line_feed e) ∙ line_first text q))
      go right false e =
          right c (kept_with k b) n (p ++ (b ∷ [])) (plain_snoc b q e) (keeps_with k p b h)
          ∙ ap (λ (l : List ℕ). trace_from w n c (lines l)) (append_assoc p (b ∷ []) text)

  -- THE THEOREM: byte by byte, what is shown, with the end, is the trace of the text
  pub whole_trace : (c : Cluster) (text : List ℕ) → shown_over w (begun_trail c) text ++ shown_last w (trail_over (begun_trail c) text) ≡ trace_of w c text
  whole_trace c text = from text c nothing_kept 0 [] none keeps_none

-- the record, likewise
abbrev Left : List ℕ → Type 0
Left text = (c : Cluster) (k : CutLine) (n : ℕ) (p : List ℕ) → Plain p → Keeps k p → ended_trail (trail_over (trail c k n) text) ≡ record_after c (lines (p ++ text))

left : (text : List ℕ) → Left text
unfolding ended_trail trail_after kept_after
left [] c k n [] q h = rw (eq-eqb k.fill 0 h.fill)
left [] c k n (b ∷ p) (more e q) h =
    rw (ne_eqb k.fill 0 (λ z. omega (arith, z, h.fill)))
    (kept_after_lem c k (b ∷ p) h ∙ sym (ap (record_after c) (ap (λ (l : List ℕ). lines (b ∷ l)) (append-nil p) ∙ line_last b p e q)))
left (b ∷ text) c k n p q h = go (left text) (eqb b line_feed) refl
  where
    go : Left text → (x : Bool) → eqb b line_feed ≡ x
        → ended_trail (trail_over (trail (cond x (line_after c (held_in k)) c) (cond x nothing_kept (kept_with k b)) (cond x (one_more n) n)) text)
        ≡ record_after c (lines (p ++ (b ∷ text)))
    go rest true e =
        rest (line_after c (held_in k)) nothing_kept (one_more n) [] none keeps_none ∙ ap (λ (d : Cluster). record_after d (lines text)) (kept_after_lem c k p h)
        ∙ sym (ap (record_after c) (ap (λ (j : ℕ). lines (p ++ (j ∷ text))) (eqb-true b line_feed e) ∙ line_first text q))
    go rest false e =
        rest c (kept_with k b) n (p ++ (b ∷ [])) (plain_snoc b q e) (keeps_with k p b h)
        ∙ ap (λ (l : List ℕ). record_after c (lines l)) (append_assoc p (b ∷ []) text)

pub whole_leaves : (c : Cluster) (text : List ℕ) → ended_trail (trail_over (begun_trail c) text) ≡ leaves c text
whole_leaves c text = left text c nothing_kept 0 [] none keeps_none

-- pieces, all in turn
pub trail_pieces : (t : Trail) (xs : List (List ℕ)) → over_pieces trail_over t xs ≡ trail_over t (together xs)
trail_pieces t [] = refl
trail_pieces t (x ∷ xs) = trail_pieces (trail_over t x) xs ∙ sym (each_append trail_after t x (together xs))
