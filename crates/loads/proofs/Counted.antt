-- The counted servers of a well-formed record that fits, as a list. Assumes nothing.
use mathlib.Core.Path.{◌≡◌, ◌∙◌}
use mathlib.Core.List.{List}
use Prim.Native.Nat.{ℕ, ◌<◌}
use native.Mathlib.Omega.{arith}
use lib.ListN.{length, get_or, take, length-take}
use lib.Seq.{get_or-take}
use Rattle.cluster.specs.declared.Server.{Server}
use Rattle.cluster.specs.declared.Cluster.{Cluster}
use Rattle.cluster.specs.Servers.{past_server}
use Rattle.cluster.proofs.Sound.{ServerSound, Sound, counted_sound}

abbrev pub counted : Cluster → List Server
counted c = take c.count c.servers

-- a server that is counted in some record
abbrev pub Counts : Server → Type 0
Counts s = (n : ℕ) × (i : ℕ) × ServerSound n i s

abbrev pub AllCount : List Server → Type 0
AllCount ss = (k : ℕ) → k < length ss → Counts (get_or ss k past_server)

module _ {c : Cluster} (h : Sound c) where
  pub counted_long : length (counted c) ≡ c.count
  counted_long = length-take c.count c.servers ∙ omega (arith, h.fits.slots, h.good.at_most_seven)

  pub all_count : AllCount (counted c)
  all_count k l =
      let b : k < c.count = omega (arith, counted_long) in
      rw (get_or-take c.count c.servers k past_server b) (c.count, k, counted_sound h k b)
