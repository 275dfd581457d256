-- `histories::kept::check_first` meets its contract. Assumes nothing.
use Rattle.std.proofs.Common.{◌≡◌, length, rules}
use Rattle.std.proofs.lemmas.List.{take_min}
use Rattle.base.proofs.Facts.{mapped_long}
use Rattle.histories.proofs.kept.check_first.Goals as goal

pub returns : goal.returns
returns c =
    let long : length c.args.records ≡ 257 = search (rules, mapped_long) in
    rw (c.check.ensures, c.min-m.ensures, ← long, take_min)
