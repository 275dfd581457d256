-- Runs as the safety theory sees them: what is known of every record of a run from a fresh cluster, and that a saving changes nothing.
-- Assumes nothing.
use mathlib.Core.Path.{◌≡◌, refl, sym, ap, ◌∙◌, subst}
use mathlib.Core.List.{List, [], ◌∷◌, ◌++◌}
use Rattle.cluster.specs.declared.Cluster.{Cluster}
use Rattle.steps.specs.declared.Outcome.{Outcome}
use Rattle.saved.specs.Saved.{save_of}
use Rattle.loads.specs.Loads.{loaded, load_of}
use Rattle.loads.proofs.Loads.{gives_back}
use Rattle.wholes.specs.Starts.{Opening}
use Rattle.safety.specs.Steps.{Walk, stop, go}
use Rattle.safety.specs.View.{seen_cluster}
use Rattle.safety.proofs.Joins.{walk_on}
use Rattle.safety.proofs.Stepped.{quorums, Now, step_next, now_next, begun}
use Rattle.promises.specs.Runs.{Event, comes, overnight, happens, run_to, GoesOn, Onward, LeadsTo, FromFresh}

-- ---- one record after another

-- y is reached, and x was on the way to it
pub record InTurn (z : Opening) (x y : Cluster) : Type 0 where
  pub earlier : Now z x
  pub later : Now z y
  pub walk : Walk (quorums z) (seen_cluster x) (seen_cluster y)

module _ {z : Opening} where
  pub itself : {c : Cluster} → Now z c → InTurn z c c
  itself N = record { earlier = N; later = N; walk = stop }

  pub then : {c d e : Cluster} → InTurn z c d → InTurn z d e → InTurn z c e
  then a b = record { earlier = a.earlier; later = b.later; walk = walk_on a.walk b.walk }

  -- what is loaded is what was saved
  pub given_back : {c : Cluster} → Now z c → (d : Cluster) → happens c (overnight d) ≡ c
  given_back {c} N d = ap (λ (o : Outcome). o.cluster) (gives_back d c N.fits N.formed)

  -- one event on
  pub next : {c : Cluster} → Now z c → (e : Event) → GoesOn c e → InTurn z c (happens c e)
  next N (comes s) g = record { earlier = N; later = now_next N s g.0 g.1; walk = go stop (step_next N s g.0 g.1).step }
  next {c} N (overnight d) g = subst (InTurn z c) (sym (given_back N d)) (itself N)

  along : {c : Cluster} → Now z c → (es : List Event) → Onward c es → InTurn z c (run_to c es)
  along N [] h = itself N
  along {c = c} N (e ∷ es) h = let t = next N e h.0 in then t (along {c = happens c e} t.later es h.1)

  pub led : {c d : Cluster} → Now z c → LeadsTo c d → InTurn z c d
  led {c} N l = subst (InTurn z c) l.ends (along N l.events l.onward)

-- ---- from a fresh cluster

pub reached : {c : Cluster} (f : FromFresh c) → Now f.opening c
reached f = (led (begun f.opening) f.leads).later

-- what is saved of such a record loads, and gives it back
pub saved_and_loaded : (c d : Cluster) → FromFresh c → load_of d (save_of c) ≡ loaded c
saved_and_loaded c d f = gives_back d c (reached f).fits (reached f).formed

-- ---- runs that are joined

run_then : (c : Cluster) (es fs : List Event) → run_to c (es ++ fs) ≡ run_to (run_to c es) fs
run_then c [] fs = refl
run_then c (e ∷ es) fs = run_then (happens c e) es fs

onward_then : (c : Cluster) (es fs : List Event) → Onward c es → Onward (run_to c es) fs → Onward c (es ++ fs)
onward_then c [] fs h k = k
onward_then c (e ∷ es) fs h k = (h.0, onward_then (happens c e) es fs h.1 k)

pub leads_on : {c d e : Cluster} → LeadsTo c d → LeadsTo d e → LeadsTo c e
leads_on {c} k l =
    record {
      events = k.events ++ l.events;
      onward = onward_then c k.events l.events k.onward (subst (λ (x : Cluster). Onward x l.events) (sym k.ends) l.onward);
      ends = run_then c k.events l.events ∙ ap (λ (x : Cluster). run_to x l.events) k.ends ∙ l.ends;
    }

pub leads_next : {c : Cluster} (e : Event) → GoesOn c e → LeadsTo c (happens c e)
leads_next e g = record { events = e ∷ []; onward = (g, tt); ends = refl }

pub fresh_on : {c d : Cluster} → FromFresh c → LeadsTo c d → FromFresh d
fresh_on f l = record { opening = f.opening; leads = leads_on f.leads l }
