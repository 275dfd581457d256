-- `loads::with_frame` meets its contract. Assumes nothing.
use Rattle.std.proofs.lemmas.Grind.{common_steps}
use mathlib.Core.Path.{◌≡◌, ap, ◌∙◌}
use native.Mathlib.Omega.{arith}
use Rattle.saved.specs.declared.Sort.TheVariants as S
use Rattle.saved.specs.Layout.{said_at}
use Rattle.saved.specs.Editions.{editions, edition_numbered}
use Rattle.loads.proofs.Alike.{with_frame_1, alike}
use Rattle.loads.proofs.with_frame.Goals as goal

pub returns-in-Ok-First : goal.returns-in-Ok-First
returns-in-Ok-First c =
    let g : c.counting.result ≡ with_frame_1 c.args.d c.args.b c.followers_in.result = grind (arith, common_steps) in
    g ∙ ap (with_frame_1 c.args.d c.args.b) c.followers_in.ensures ∙ alike c.args.edition c.args.d c.args.b

pub returns-in-Ok-Server : goal.returns-in-Ok-Server
returns-in-Ok-Server c =
    let g : c.beginning.result ≡ with_frame_1 c.args.d c.args.b (said_at (edition_numbered editions c.args.edition).widths S.First c.args.b 2) = grind (arith, common_steps) in
    g ∙ alike c.args.edition c.args.d c.args.b

pub returns-in_default : goal.returns-in_default
returns-in_default c =
    let g : c.telling.result ≡ with_frame_1 c.args.d c.args.b (said_at (edition_numbered editions c.args.edition).widths S.First c.args.b 2) = grind (arith, common_steps) in
    g ∙ alike c.args.edition c.args.d c.args.b
