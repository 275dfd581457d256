-- Where the form of a record stands in a trace, and what of a record the brief one is. Assumes nothing.
use mathlib.Core.Path.{◌≡◌, refl, sym, ap}
use mathlib.Core.Bool.{Bool, true, false, cond}
use mathlib.Core.List.{List, [], ◌++◌}
use Prim.Native.Nat.{ℕ, ◌≤◌}
use native.Mathlib.Omega.{arith}
use borrow.Author.Tests.{ne_eqb, leb-true}
use lib.Dec.{leb}
use lib.ListN.{take}
use Rattle.base.proofs.Bools.{and_left, and_right}
use Rattle.cluster.specs.declared.Cluster.{Cluster}
use Rattle.cluster.specs.Servers.{fewest_servers, most_servers, server_count}
use Rattle.cluster.specs.WellFormed.{size_ok, well_formed}
use Rattle.steps.specs.declared.Refusal.{Refusal}
use Rattle.steps.specs.declared.Answer.TheVariants.{Refused}
use Rattle.loads.specs.Loads.{same_text}
use Rattle.loads.proofs.Texts.{same_text_lem, text_same}
use Rattle.replay.specs.Texts.{answer_to}
use Rattle.replay.proofs.Refused.{refused_line}
use Rattle.saved.specs.Editions.{newest}
use Rattle.saved.specs.Saved.{all_frames, text_of, save_of}
use Rattle.trails.specs.Traces.{first_frame_of, form_by, change_of}

module _ (brief : Bool) (c d : Cluster) where
  -- no form where it is as it was, and else the new one
  pub change_none : form_by brief c ≡ form_by brief d → change_of brief c d ≡ []
  unfolding change_of
  change_none e = rw (e, text_same (form_by brief d))

  pub change_some : (form_by brief c ≡ form_by brief d → ⊥) → change_of brief c d ≡ form_by brief d
  unfolding change_of
  change_some n = go (same_text (form_by brief c) (form_by brief d)) refl
    where
      go : (x : Bool) → same_text (form_by brief c) (form_by brief d) ≡ x → cond x [] (form_by brief d) ≡ form_by brief d
      go true e = absurd (n (same_text_lem (form_by brief c) (form_by brief d) e))
      go false e = refl

-- so none after a refusal
pub refused_none : (brief : Bool) (c : Cluster) (line : List ℕ) (r : Refusal) → (answer_to c line).answer ≡ Refused r → change_of brief c (answer_to c line).cluster ≡ []
refused_none brief c line r e = change_none brief c (answer_to c line).cluster (ap (form_by brief) (sym (refused_line c line r e)))

-- the brief form of a well-formed record is what its saved form begins with
pub brief_begins : (c : Cluster) → well_formed c ≡ true → save_of c ≡ form_by true c ++ text_of (all_frames newest.widths (take c.count c.servers))
unfolding well_formed size_ok form_by first_frame_of save_of
brief_begins c w =
    let size = and_left (size_ok c.count c.followers) _ w in
    let least : fewest_servers ≤ c.count = leb-true fewest_servers c.count (and_left _ _ size) in
    let most : c.count ≤ most_servers = leb-true c.count most_servers (and_left _ _ (and_right (leb fewest_servers c.count) _ size)) in
    let same : server_count c ≡ c.count = omega arith in
    rw (same, ne_eqb c.count 0 (λ e. omega (arith, e)))
