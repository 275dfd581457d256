-- Texts that are put into a buffer one after the other. Assumes nothing.
use mathlib.Core.Path.{◌≡◌, refl, sym, ap, ◌∙◌}
use mathlib.Core.Bool.{Bool, true, false}
use mathlib.Core.List.{List, [], ◌++◌, append_assoc, append-nil}
use Prim.Native.Nat.{ℕ, ◌+◌, ◌-◌, ◌≤◌}
use native.Mathlib.Omega.{arith}
use lib.ListN.{length, take, drop, length-append, length-drop}
use lib.Seq.{take_at, take_all, drop-drop, drop-length}
use borrow.Rule.Slice.PartMut.{mid_of, post_of, put_mid, Post-is}
use Rattle.lines.specs.Texts.{placed}
use Rattle.lines.proofs.Placed.{placed_none, placed_more, placed_length}
use Rattle.loads.specs.Loads.{same_text}
use Rattle.saved.specs.Written.{longest}
use Rattle.trails.specs.Bytes.{form_room, Put}

-- the longest form has no more room than the longest saved one
pub room_most : (brief : Bool) → form_room brief ≤ longest
room_most true = omega arith
room_most false = omega arith

pub put_none : (most : ℕ) (out : List ℕ) → Put most out out 0 []
put_none most out = record { buffer = sym (placed_none out 0); count = refl; short = omega arith }

-- what is put at the head of the rest of a buffer stands at a place of it
part_on : (out : List ℕ) (n : ℕ) (ys part : List ℕ) → n ≤ length out → part ≡ placed (mid_of n (length out - n) out) 0 ys
    → put_mid n (length out - n) out part ≡ placed out n ys
part_on out n ys part h e =
    let rest = drop n out in
    let whole : mid_of n (length out - n) out ≡ rest = take_all (length out - n) rest (omega (arith, length-drop n out)) in
    let after : post_of n (length out - n) out ≡ [] = Post-is n (length out) out h ∙ drop-length out in
    ap (put_mid n (length out - n) out) (e ∙ ap (λ (l : List ℕ). placed l 0 ys) whole)
    ∙ ap (λ (l : List ℕ). take n out ++ ((ys ++ drop (0 + length ys) rest) ++ l)) after
    ∙ ap (λ (l : List ℕ). take n out ++ l) (append-nil (ys ++ drop (0 + length ys) rest))
    ∙ ap (λ (l : List ℕ). take n out ++ (ys ++ l)) (drop-drop (0 + length ys) n out)
    ∙ ap (λ (k : ℕ). take n out ++ (ys ++ drop k out)) (omega arith) ∙ sym (append_assoc (take n out) ys (drop (n + length ys) out))

module _ {m : ℕ} {out out₁ : List ℕ} {n : ℕ} {xs : List ℕ} (p : Put m out out₁ n xs) where
  pub put_wider : (k : ℕ) → m ≤ k → Put k out out₁ n xs
  put_wider k h = record { buffer = p.buffer; count = p.count; short = omega (arith, p.short) }

  -- what was put stands first
  pub put_text : take n out₁ ≡ xs
  put_text = ap (take n) p.buffer ∙ take_at xs (drop (0 + length xs) out) n (omega (arith, p.count))

  module _ (h : m ≤ length out) where
    -- the buffer is as long as before
    pub put_length : length out₁ ≡ length out
    put_length = ap length p.buffer ∙ placed_length out 0 xs (omega (arith, p.short))

    pub put_within : n ≤ length out₁
    put_within = omega (arith, p.count, p.short, put_length)

  -- another text after it
  pub put_on : {k : ℕ} {part : List ℕ} {r : ℕ} {ys : List ℕ} → m + k ≤ length out → Put k (mid_of n (length out₁ - n) out₁) part r ys
      → Put (m + k) out (put_mid n (length out₁ - n) out₁ part) (n + r) (xs ++ ys)
  put_on {part = part} {ys = ys} h q =
      let start : n ≡ 0 + length xs = omega (arith, p.count) in
      record {
        buffer =
            part_on out₁ n ys part (put_within (omega arith)) q.buffer ∙ ap (λ (l : List ℕ). placed l n ys) p.buffer
            ∙ ap (λ (k : ℕ). placed (placed out 0 xs) k ys) start ∙ placed_more out 0 xs (omega (arith, p.short)) ys;
        count = omega (arith, p.count, q.count, length-append xs ys);
        short = omega (arith, p.short, q.short, length-append xs ys);
      }

-- two texts that were put first, compared
pub put_same : {m : ℕ} {a a₁ b b₁ : List ℕ} {n k : ℕ} {xs ys : List ℕ} {r : Bool} → Put m a a₁ n xs → Put m b b₁ k ys
    → r ≡ same_text (take n a₁) (take k b₁) → r ≡ same_text xs ys
put_same {b₁ = b₁} {k = k} {xs = xs} p q e = e ∙ ap (λ (t : List ℕ). same_text t (take k b₁)) (put_text p) ∙ ap (same_text xs) (put_text q)

-- three texts, for which there is room
module _ {m k : ℕ} {out out₁ : List ℕ} {n : ℕ} {xs : List ℕ} (h : m + (k + m) ≤ length out) (p : Put m out out₁ n xs) where
  pub put_three : {part : List ℕ} {r : ℕ} {ys : List ℕ} → Put k (mid_of n (length out₁ - n) out₁) part r ys
      → {part₂ : List ℕ} {r₂ : ℕ} {zs : List ℕ} → let out₂ = put_mid n (length out₁ - n) out₁ part in Put m (mid_of (n + r) (length out₂ - (n + r)) out₂) part₂ r₂ zs
      → Put (m + (k + m)) out (put_mid (n + r) (length out₂ - (n + r)) out₂ part₂) (n + r + r₂) (xs ++ (ys ++ zs))
  put_three {ys = ys} q {zs = zs} z =
      let s = put_on (put_on p (omega arith) q) (omega arith) z in
      let e = append_assoc xs ys zs in
      record { buffer = s.buffer ∙ ap (placed out 0) e; count = s.count ∙ ap length e; short = omega (arith, s.short, ap length e) }
