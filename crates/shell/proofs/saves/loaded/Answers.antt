-- `shell::saves::loaded` meets its contract. Assumes nothing.
use Rattle.shell.proofs.Saving.{long_led, loaded_led, refused_led}
use Rattle.shell.proofs.saves.loaded.Goals.{then-text-le-LONGEST+in_default, else-text-le-LONGEST}
use Rattle.shell.proofs.saves.loaded.Goals as goal

pub returns-in-Done : goal.returns-in-Done
returns-in-Done c = loaded_led _ _ c.load-o.result c.if-text-le-LONGEST.true c.zero_cluster.ensures c.load-o.ensures c.in-Done.is

pub returns : goal.returns
returns c =
    elim c.if-text-le-LONGEST.branch [
      | then-text-le-LONGEST+in_default w ↦ refused_led _ _ w.load-o.result w.if-text-le-LONGEST.true w.zero_cluster.ensures w.load-o.ensures w.in_default.not-Done
      | else-text-le-LONGEST w ↦ long_led _ w.if-text-le-LONGEST.false
    ]
