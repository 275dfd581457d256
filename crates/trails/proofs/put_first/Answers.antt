-- `trails::put_first` meets its contract. Assumes nothing.
use mathlib.Core.Path.{sym, ◌∙◌, subst}
use mathlib.Core.List.{List}
use Prim.Native.Nat.{ℕ}
use Rattle.trails.specs.Bytes.{first_line, Put}
use Rattle.trails.proofs.Putting.{put_none}
use Rattle.trails.proofs.Forms.{first_none, first_put}
use Rattle.trails.proofs.put_first.Goals as goal

pub returns-then-n-eq0 : goal.returns-then-n-eq0
returns-then-n-eq0 c =
    subst (λ (t : List ℕ). Put first_line c.args.out.now c.args.out.now 0 t) (first_none c.args.c (sym c.server_count-n.ensures ∙ c.if-n-eq0.true)) (put_none first_line c.args.out.now)

pub returns : goal.returns
returns c = first_put c.args.c _ _ c.server_count-n.ensures c.if-n-eq0.false (rw c.sort_number.ensures at c.enhex.ensures) c.put_text.ensures
