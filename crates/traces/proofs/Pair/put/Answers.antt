-- `traces::Pair::put` meets its contract. Assumes nothing.
use borrow.Author.Rules.{rules}
use borrow.Author.Tests.{lt-ltb, le-ltb}
use Rattle.traces.specs.Writing.{pair_room, put_of}
use Rattle.traces.proofs.Pair.put.Goals as goal

pub returns-then-self-lt-ROOM : goal.returns-then-self-lt-ROOM
unfolding put_of
returns-then-self-lt-ROOM c = rw (lt-ltb c.args.self.now.fill pair_room (search rules))

pub returns-else-self-lt-ROOM : goal.returns-else-self-lt-ROOM
unfolding put_of
returns-else-self-lt-ROOM c = rw (le-ltb c.args.self.now.fill pair_room (search rules))
