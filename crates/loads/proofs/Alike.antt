-- In every edition the count stands in the third byte, and the frames after the first are read alike. Assumes nothing.
use mathlib.Core.Path.{◌≡◌, refl}
use mathlib.Core.Bool.{cond}
use mathlib.Core.List.{List}
use Prim.Native.Nat.{ℕ}
use lib.Dec.{eqb}
use Rattle.base.proofs.Cases.{◌▸◌}
use Rattle.words.specs.Words.{byte_at}
use Rattle.loads.specs.declared.Draft.{Draft}
use Rattle.saved.specs.declared.Sort.TheVariants as S
use Rattle.saved.specs.Layout.{numbers_in, said_at}
use Rattle.saved.specs.Editions.{widths1, editions, edition_numbered}
use Rattle.saved.proofs.Lawful.{numbered}
use Rattle.loads.specs.Decoded.{server_said, told_by, counting, beginning, telling, with_frame}

-- a frame, as editions 1 and 2 read it, with the followers that are told
abbrev pub with_frame_1 : Draft → List ℕ → ℕ → Draft
with_frame_1 d bs f =
    cond (eqb (byte_at bs 0) 0) (counting d (byte_at bs 2) f)
    (cond (eqb (byte_at bs 0) 1) (beginning d (server_said (numbers_in widths1 S.Server bs))) (telling widths1 d bs))

pub alike : (n : ℕ) (d : Draft) (bs : List ℕ) → with_frame_1 d bs (said_at (edition_numbered editions n).widths S.First bs 2) ≡ with_frame (edition_numbered editions n).widths d bs
unfolding with_frame telling told_by
alike n d bs = numbered (λ e. with_frame_1 d bs (said_at e.widths S.First bs 2) ≡ with_frame e.widths d bs) editions (refl ▸ refl ▸ refl ▸ refl) n
