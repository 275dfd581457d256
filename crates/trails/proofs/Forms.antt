-- A record's form in a buffer: its first frame, or its saved form at the head, which is as long as the longest. Assumes nothing.
use Rattle.std.proofs.Common.{Result, Ok, Err}
use mathlib.Core.Path.{◌≡◌, refl, sym, ap, ◌∙◌, subst}
use mathlib.Core.Bool.{Bool, true, false, cond}
use mathlib.Core.List.{List, [], ◌∷◌, ◌++◌, append_assoc}
use Prim.Native.Nat.{ℕ, ◌+◌, ◌≤◌}
use native.Mathlib.Omega.{arith}
use lib.ListN.{length, take, drop, replicate, length-append, take-append-drop}
use lib.Seq.{drop-append-le, length-take-le}
use borrow.Author.Tests.{ne_eqb, le-ltb}
use Rattle.base.proofs.Bools.{not_both}
use Rattle.hex_text.specs.Lines.{hex_of, over}
use Rattle.cluster.specs.declared.Cluster.{Cluster}
use Rattle.cluster.specs.Servers.{server_count}
use Rattle.cluster.specs.WellFormed.{well_formed}
use Rattle.lines.specs.Texts.{line_feed, placed}
use Rattle.steps.specs.declared.Refusal.TheVariants.{IllFormed}
use Rattle.saved.specs.declared.NotSaved.{NotSaved}
use Rattle.saved.specs.declared.NotSaved.TheVariants.{Refused}
use Rattle.saved.specs.Saved.{save_of}
use Rattle.saved.specs.Written.{longest, saved_of, saved_out}
use Rattle.trails.specs.Traces.{first_frame_of, form_by}
use Rattle.trails.specs.Bytes.{first_line, Put}
use Rattle.trails.proofs.Putting.{put_none, put_wider}

-- ---- its first frame

pub first_none : (c : Cluster) → server_count c ≡ 0 → [] ≡ first_frame_of c
unfolding first_frame_of
first_none c e = rw e

module _ (c : Cluster) (n : ℕ) (line : List ℕ) (m : n ≡ server_count c) (some : n ≡ 0 → ⊥)
    (e : line ≡ over (hex_of (0 ∷ 3 ∷ n ∷ c.followers ∷ [])) (replicate first_line line_feed)) where
  first_some : line ≡ first_frame_of c
  unfolding first_frame_of
  first_some = rw (← m, ne_eqb n 0 some) e

  pub first_put : {out after : List ℕ} {r : ℕ} → Put (length line) out after r line → Put first_line out after r (first_frame_of c)
  first_put {out = out} {after = after} {r = r} p =
      let long : length line ≡ 9 = ap length e in
      subst (λ (t : List ℕ). Put first_line out after r t) first_some (put_wider p first_line (omega arith))

-- ---- its saved form

abbrev pub is_text : Result ℕ NotSaved → Bool
is_text (Ok n) = true
is_text (Err e) = false

module _ (c : Cluster) (out : List ℕ) (room : longest ≤ length out) where
  abbrev head : List ℕ
  head = take longest out

  head_length : length head ≡ longest
  head_length = length-take-le longest out room

  -- what is left of the head, and what stands after it
  head_rest : (n : ℕ) → n ≤ longest → drop n head ++ drop longest out ≡ drop n out
  head_rest n h = sym (drop-append-le n head (drop longest out) (omega (arith, head_length))) ∙ ap (drop n) (take-append-drop longest out)

  module _ (part : List ℕ) (same : length part ≡ length head) (o : part ≡ saved_out c head) where
    with_form : well_formed c ≡ true → part ≡ placed head 0 (save_of c)
    unfolding saved_out
    with_form w = o ∙ rw (w, le-ltb (length head) longest (omega (arith, head_length)))

    pub saved_put : (n : ℕ) → Ok n ≡ saved_of c (length head) → Put longest out (part ++ drop longest out) n (form_by false c)
    unfolding saved_of form_by
    saved_put n e = go (well_formed c) refl
      where
        form : List ℕ
        form = save_of c

        go : (b : Bool) → well_formed c ≡ b → Put longest out (part ++ drop longest out) n (cond b form [])
        go false w = let q : Ok n ≡ Err (Refused IllFormed) = e ∙ rw w in not_both (is_text (Err (Refused IllFormed))) (sym (ap is_text q)) refl
        go true w =
            let q : Ok n ≡ Ok (length form) = e ∙ rw (w, le-ltb (length head) longest (omega (arith, head_length))) in
            let m : n ≡ length form = cc in
            let p = with_form w in
            let short : length form ≤ longest = omega (arith, ap length p, same, head_length, length-append form (drop (0 + length form) head)) in
            record {
              buffer =
                  ap (λ (l : List ℕ). l ++ drop longest out) p ∙ append_assoc form (drop (0 + length form) head) (drop longest out)
                  ∙ ap (λ (l : List ℕ). form ++ l) (head_rest (0 + length form) (omega (arith, short)));
              count = m;
              short = short;
            }

    pub saved_none : (s : Result ℕ NotSaved) → is_text s ≡ false → s ≡ saved_of c (length head) → Put longest out (part ++ drop longest out) 0 (form_by false c)
    unfolding saved_of form_by saved_out
    saved_none s t e = go (well_formed c) refl
      where
        go : (b : Bool) → well_formed c ≡ b → Put longest out (part ++ drop longest out) 0 (cond b (save_of c) [])
        go true w =
            let q : s ≡ Ok (length (save_of c)) = e ∙ rw (w, le-ltb (length head) longest (omega (arith, head_length))) in
            not_both (is_text s) (ap is_text q) t
        go false w =
            let q : part ≡ head = o ∙ rw w in
            let same_out : part ++ drop longest out ≡ out = ap (λ (l : List ℕ). l ++ drop longest out) q ∙ take-append-drop longest out in
            rw same_out (put_none longest out)
