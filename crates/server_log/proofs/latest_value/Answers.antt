-- `server_log::latest_value` meets its contract. Assumes nothing.
use Rattle.server_log.specs.declared.Entry.{Entry}
use Rattle.server_log.proofs.Rowed.{found_back}
use Rattle.std.proofs.lemmas.Iterator.Adapters.{YieldsList-from_rev_slice}
use Rattle.std.proofs.lemmas.Iterator.Search.{find_from_yields_List}
use Rattle.std.specs.Option.{option_map}
use Rattle.std.specs.List.{find}
use Rattle.std.specs.declared.option.Option.TheVariants.{Some, None}
use denote.Bor.{Bor}
use mathlib.Core.List.{reverse}
use mathlib.Core.Path.{◌≡◌, ap, sym, ◌∙◌}
use lib.ListN.{take}
use lib.Dec.{eqb}
use borrow.Author.Rules.{rules}
use borrow.Author.Tests.{tests}
use Rattle.server_log.proofs.latest_value.Goals as goal
use Rattle.server_log.proofs.latest_value.Goals.{After-find}

-- what the search from the end found
found : (c : After-find) → option_map (λ (e : Bor Entry). e.now) c.find.result ≡ find (λ e. eqb e.key c.args.key) (reverse (take c.last_of.result c.args.g.entries))
found c =
    find_from_yields_List (λ (e : Entry). eqb e.key c.args.key) _ _ c.find.result c.find.ensures.ran
    (YieldsList-from_rev_slice (take c.last_of.result c.args.g.entries) (cc (c.iter.ensures.rest, c.rev.ensures.source))) (λ x b q k. search (rules, tests))

pub returns-in-Some : goal.returns-in-Some
returns-in-Some c =
    found_back c.args.g c.args.key c.args.n c.last_of.result (Some c.in-Some.e.now) c.last_of.ensures
    (ap (option_map (λ (e : Bor Entry). e.now)) (sym c.in-Some.is) ∙ found c.before)

pub returns-in-None : goal.returns-in-None
returns-in-None c =
    found_back c.args.g c.args.key c.args.n c.last_of.result None c.last_of.ensures
    (ap (option_map (λ (e : Bor Entry). e.now)) (sym c.in-None.is) ∙ found c.before)
