-- `shapes::size_of` meets its contract. Assumes nothing.
use mathlib.Core.Path.{◌≡◌, refl, sym, ap, ◌∙◌}
use mathlib.Core.Logic.{⊎_elim}
use Prim.Native.Nat.{ℕ}
use Rattle.base.proofs.Cases.{◌▸◌}
use Rattle.saved.specs.declared.Sort.{Sort}
use Rattle.saved.specs.declared.Sort.TheVariants as S
use Rattle.saved.specs.Layout.{size_of}
use Rattle.saved.specs.Editions.{widths1, widths3, editions, edition_numbered}
use Rattle.saved.proofs.Lawful.{numbered}
use Rattle.shapes.proofs.size_of.Goals as goal

later : (n : ℕ) {k : Sort} (s : Sort) → k ≡ s → size_of widths1 s ≡ size_of widths3 s → size_of widths1 s ≡ size_of (edition_numbered editions n).widths k
later n s e p =
    numbered (λ x. size_of widths1 s ≡ size_of x.widths s) editions (refl ▸ refl ▸ p ▸ p) n ∙ sym (ap (size_of (edition_numbered editions n).widths) e)

pub returns-in-First : goal.returns-in-First
returns-in-First c = c.first_bytes.ensures ∙ sym (ap (size_of (edition_numbered editions c.args.edition).widths) c.in-First.is)

pub returns-in-Server : goal.returns-in-Server
returns-in-Server c = later c.args.edition S.Server c.in-Server.is refl

pub returns-in-Entry : goal.returns-in-Entry
returns-in-Entry c = later c.args.edition S.Entry c.in-Entry.is refl

pub returns-in-Note : goal.returns-in-Note
returns-in-Note c = ⊎_elim (λ e. later c.args.edition S.Note e refl) (λ e. later c.args.edition S.Report e refl) c.in-Note.is
