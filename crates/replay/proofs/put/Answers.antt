-- `replay::put` meets its contract. Assumes nothing.
use mathlib.Core.Path.{◌≡◌, sym, ap, ◌∙◌}
use mathlib.Core.List.{List, [], ◌∷◌, ◌++◌}
use Prim.Native.Nat.{ℕ, ◌+◌, ◌-◌, ◌*◌, ◌≤◌}
use native.Mathlib.Omega.{arith}
use lib.ListN.{length, set}
use borrow.Rule.Slice.PartMut.{put_mid}
use Rattle.steps.specs.declared.Answer.{Answer}
use Rattle.answers.specs.Answers.{answer_bytes, write_answer}
use Rattle.answers.proofs.Lengths.{answer_line_length}
use Rattle.steps.specs.Answers.{telling_of}
use Rattle.hex_text.specs.Lines.{chars}
use Rattle.lines.specs.Texts.{placed, line_feed}
use Rattle.replay.specs.Pieces.{answer_line}
use Rattle.replay.specs.Texts.{line_of}
use Rattle.lines.proofs.Placed.{placed_set}
use Rattle.replay.proofs.Laying.{part_placed}
use Rattle.replay.proofs.put.Goals as goal

laid : (out x f : List ℕ) (at : ℕ) (a : Answer) → x ≡ f → f ≡ write_answer a → at + answer_line ≤ length out
    → set (put_mid at (at + chars * answer_bytes - at) out x) (at + chars * answer_bytes) line_feed ≡ placed out at (line_of a)
unfolding line_of
laid out x f at a e g h =
    let n : chars * answer_bytes ≡ length f = sym (ap length g ∙ answer_line_length (telling_of a)) in
    ap (λ (l : List ℕ). set (put_mid at (at + chars * answer_bytes - at) out l) (at + chars * answer_bytes) line_feed) e
    ∙ ap (λ (l : List ℕ). set l (at + chars * answer_bytes) line_feed) (part_placed out f at (chars * answer_bytes) n)
    ∙ ap (λ (k : ℕ). set (placed out at f) (at + k) line_feed) n
    ∙ placed_set out at f line_feed (omega arith) ∙ ap (λ (l : List ℕ). placed out at (l ++ (line_feed ∷ []))) g

pub returns : goal.returns
returns c = laid c.args.out.now _ _ c.args.at _ c.copy_from_slice.ensures.after c.write_answer.ensures c.requires
