-- A run as ordered, a law for each way that it can go. Assumes nothing.
use mathlib.Core.Path.{◌≡◌, refl, ap}
use mathlib.Core.Bool.{true, false}
use Rattle.std.specs.Prelude.{Option, Some, None}
use Rattle.base.proofs.Bools.{not_both}
use Rattle.cluster.specs.declared.Cluster.{Cluster}
use Rattle.cluster.specs.Servers.{zero_cluster}
use Rattle.orders.specs.declared.Orders.{Orders}
use Rattle.shell.specs.Loop.{Answered, TracedAll}
use Rattle.shell.specs.Saving.{Loads}
use Rattle.shell.specs.AsOrdered.{BeginsBy, RunsBy}

pub begins_loaded : (o : Orders) (r : Option Cluster) → o.load ≡ true → Loads r → BeginsBy o r
begins_loaded o r e l = record { loads = λ _. l; zero = λ n. not_both o.load e n }

pub begins_zero : (o : Orders) (c : Cluster) → o.load ≡ false → c ≡ zero_cluster → BeginsBy o (Some c)
begins_zero o c e z = record { loads = λ y. not_both o.load y e; zero = λ _. ap Some z }

pub runs_none : (o : Orders) (f : Option Cluster) → BeginsBy o f → f ≡ None → RunsBy o None
runs_none o f b e = record { first = f; begins = b; unread = λ _. refl; answers = λ c y t. cc; traces = λ c y t. cc }

module _ (o : Orders) (f r : Option Cluster) (c : Cluster) (b : BeginsBy o f) (e : f ≡ Some c) where
  pub runs_all_lem : o.trace ≡ false → Answered c r → RunsBy o r
  runs_all_lem t a =
      record { first = f; begins = b; unread = λ n. cc; answers = λ d p _. rw (same d p) a; traces = λ d p y. not_both o.trace y t }
    where
      same : (d : Cluster) → f ≡ Some d → d ≡ c
      same d p = cc

  pub runs_traced : o.trace ≡ true → TracedAll c r → RunsBy o r
  runs_traced t a =
      record { first = f; begins = b; unread = λ n. cc; answers = λ d p n. not_both o.trace t n; traces = λ d p _. rw (same d p) a }
    where
      same : (d : Cluster) → f ≡ Some d → d ≡ c
      same d p = cc
