-- `frames::masks::byte_ok` meets its contract. Assumes nothing.
use Rattle.words.specs.Words.{high_of, low_of}
use Rattle.frames.specs.Layout.{bytes_of_frame}
use Rattle.frames.specs.Kinds.{step_of_frame, is_table}
use Rattle.base.specs.Numbers.{every}
use mathlib.Core.Path.{refl}
use borrow.Author.Rules.{rules}
use Rattle.frames.proofs.masks.byte_ok.Goals as goal

-- the table keeps its rule: one test over all kinds and bytes, which antt computes
pub must_be_zero-requires : goal.must_be_zero-requires
unfolding is_table every step_of_frame bytes_of_frame high_of low_of
must_be_zero-requires c = (refl, search rules, search rules)
