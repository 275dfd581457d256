-- A write that is answered is stamped after the client's time and after the cluster time. Assumes nothing.
use mathlib.Core.Path.{◌≡◌, refl, ap, ◌∙◌}
use Prim.Native.Nat.{ℕ}
use native.Mathlib.Omega.{arith}
use borrow.Author.Tests.{ltb-true}
use Rattle.clock.specs.declared.Time.{Time}
use Rattle.clock.proofs.Order.{later_left, later_right}
use Rattle.cluster.specs.declared.Server.{Server}
use Rattle.cluster.specs.declared.Cluster.{Cluster}
use Rattle.cluster.specs.Ranges.{Fits}
use Rattle.cluster.specs.Servers.{server_count, server_at}
use Rattle.cluster.proofs.Changed.{replaced_here}
use Rattle.cluster.proofs.Good.{good}
use Rattle.steps.specs.declared.Answer.TheVariants.{Entry}
use Rattle.steps.specs.declared.Outcome.{Outcome}
use Rattle.steps.specs.declared.Step.TheVariants.{Writes}
use Rattle.singles.specs.Appends.{new_entry, stamped_of}
use Rattle.singles.specs.Writes.{write_from}
use Rattle.rules.specs.Rules.{delivered, row_of, step_of}
use Rattle.rules.specs.Stamped.{Stamped}
use Rattle.rules.proofs.Appends.{stamp_from, stamp_after, applied_more}
use Rattle.rules.proofs.Outcomes.{answered_done}

pub written : (c : Cluster) → Fits c → (a key value : ℕ) (client : Time) (n term : ℕ) (t : Time) → (step_of c (Writes a key value client)).answer ≡ Entry n term t
    → Stamped c (step_of c (Writes a key value client)).cluster a client t
unfolding row_of delivered stamped_of
written c f a key value client n term t told =
    let d = answered_done c (Writes a key value client) told refl in
    let k = d.clear.1.1.1.1 in
    let s = server_at c a in
    let from = write_from s client in
    let u = stamp_from s from in
    let is : u ≡ t = cc d.answers in
    let below = ltb-true a (server_count c) d.clear.0 in
    let here = ap (λ (o : Outcome). server_at o.cluster a) d.is ∙ replaced_here c a (stamped_of s key value u) (omega (arith, f.slots)) in
    record {
      after_client = rw (← is) (stamp_after s from k client (later_right s.head.time client));
      after_cluster = rw (← is) (stamp_after s from k s.head.time (later_left s.head.time client));
      cluster_time = ap (λ (x : Server). x.head.time) here ∙ is;
      last_entry = rw here (applied_more s from k ((good c f d.seen).counted a (omega arith)).log.tidy (new_entry s key value u) ∙ is);
      wall_clock = ap (λ (x : Server). x.head.wall) here;
    }
