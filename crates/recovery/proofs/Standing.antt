-- A reached record, and what a step that is done leaves of its servers. Assumes nothing.
use mathlib.Core.Path.{◌≡◌, refl, ap, sym, ◌∙◌, subst}
use mathlib.Core.Bool.{Bool, true, false, not, ◌||◌}
use mathlib.Core.Logic.{◌≢◌, by_cases}
use native.Mathlib.Decide.{ℕ_discrete}
use Prim.Native.Nat.{ℕ, ◌≤◌, ◌<◌}
use native.Mathlib.Omega.{arith}
use lib.Dec.{ltb}
use lib.ListN.{length, length-set}
use borrow.Author.Tests.{lt-ltb}
use Rattle.base.proofs.Bools.{or_right, not_both}
use Rattle.mail.specs.declared.Report.{Report}
use Rattle.mail.specs.Mails.{received}
use Rattle.cluster.specs.declared.Server.{Server}
use Rattle.cluster.specs.declared.Cluster.{Cluster}
use Rattle.cluster.specs.Ranges.{Fits}
use Rattle.cluster.specs.Servers.{most_servers, server_count, server_at, with_mail, with_server}
use Rattle.cluster.specs.Sets.{votes, voters}
use Rattle.cluster.specs.WellFormed.{well_formed}
use Rattle.cluster.proofs.Changed.{replaced_here, replaced_others}
use Rattle.cluster.proofs.Good.{Good, size_good, well_formed_lem}
use Rattle.steps.specs.Answers.{is_refused, report_to}
use Rattle.steps.specs.declared.Outcome.{Outcome}
use Rattle.steps.specs.declared.Step.{Step}
use Rattle.steps.specs.Ranges.{FitsStep}
use Rattle.steps.specs.Reasons.{Clear}
use Rattle.rules.specs.Rules.{delivered, rules_of, done_of, is_start, step_of}
use Rattle.rules.proofs.Others.{size_unchanged}
use Rattle.rules.proofs.Keeps.{step_fits, step_good}
use Rattle.rules.proofs.Outcomes.{step_done, done_not_refused}
use Rattle.recovery.proofs.Getting.{Steps}

-- ---- what every record on the way is

-- well formed, of n servers, of which f are the followers
pub record Stands (n f : ℕ) (c : Cluster) : Type 0 where
  pub fits : Fits c
  pub good : Good c
  pub counted : c.count ≡ n
  pub follows : c.followers ≡ f
  pub few : n ≤ most_servers

module _ {n f : ℕ} {c : Cluster} (h : Stands n f c) where
  stands_step : (s : Step) → FitsStep s → is_start s ≡ false → Stands n f (step_of c s).cluster
  stands_step s fit ns =
      let same = size_unchanged c s ns in
      record { fits = step_fits c s h.fits fit; good = step_good c s h.fits fit h.good; counted = same.0 ∙ h.counted; follows = same.1 ∙ h.follows; few = h.few }

  -- at least two vote
  pub some_vote : 1 ≤ voters n f
  some_vote = omega (arith, (size_good (rw (h.counted, h.follows) at h.good.size)).two_vote)

  -- a follower is no primary
  pub no_primary : (i : ℕ) → i < n → votes f i ≡ false → (server_at c i).head.primary ≡ false
  no_primary i l v = go (server_at c i).head.primary refl
    where
      go : (b : Bool) → (server_at c i).head.primary ≡ b → b ≡ false
      go true e = not_both (votes f i) (ap not (rw h.follows at (h.good.primaries_vote i (omega (arith, h.counted)) e))) v
      go false e = refl

  pub counts_n : server_count c ≡ n
  counts_n = omega (arith, h.counted, h.few)

  pub in_count : (i : ℕ) → i < n → ltb i (server_count c) ≡ true
  in_count i l = rw counts_n (lt-ltb i n l)

  pub is_seen : (s : Step) → (is_start s || well_formed c) ≡ true
  is_seen s = or_right (is_start s) _ (well_formed_lem c h.good)

  pub place : (i : ℕ) → i < n → i < length c.servers
  place i l = omega (arith, h.fits.slots, h.few)

  -- a step that is clear is done, and leads to what holds of what it leaves
  pub steps_clear : {P : Cluster → Type 0} (s : Step) → FitsStep s → is_start s ≡ false → Clear (rules_of c s)
      → (Stands n f (done_of c s).cluster → P (done_of c s).cluster) → Steps P c s
  steps_clear {P} s fit ns k p =
      let e = step_done c s (is_seen s) k in
      record {
        done = ap (λ (o : Outcome). is_refused o.answer) e ∙ done_not_refused c s;
        then = subst (λ (o : Outcome). P o.cluster) (sym e) (p (subst (λ (o : Outcome). Stands n f o.cluster) e (stands_step s fit ns)));
      }

-- ---- servers afterwards

-- what holds of the server that is put there, and of the others as they were, holds of each
pub put_each : (c : Cluster) (a : ℕ) (s : Server) → a < length c.servers → (P : ℕ → Server → Type 0) → P a s → ((i : ℕ) → i ≢ a → P i (server_at c i))
    → (i : ℕ) → P i (server_at (with_server c a s) i)
put_each c a s l P x y i =
    by_cases (ℕ_discrete i a) (λ e. subst (λ (k : ℕ). P k (server_at (with_server c a s) k)) (sym e) (subst (P a) (sym (replaced_here c a s l)) x))
    (λ ne. subst (P i) (sym (replaced_others c a s i ne)) (y i ne))

-- server a replaced, and a report sent to another server b
module _ (c : Cluster) (a b : ℕ) (s : Server) (r : Report) (ne : a ≢ b) (pa : a < length c.servers) (pb : b < length c.servers) where
  abbrev sent : Cluster
  sent = delivered (with_server c a s) (report_to b r)

  pub sent_here : server_at sent a ≡ s
  unfolding delivered
  sent_here = replaced_others (with_server c a s) b _ a ne ∙ replaced_here c a s pa

  pub sent_to : server_at sent b ≡ with_mail (server_at c b) (received (server_at c b).mail r)
  unfolding delivered
  sent_to =
      replaced_here (with_server c a s) b _ (omega (arith, length-set c.servers a s))
      ∙ ap (λ (t : Server). with_mail t (received t.mail r)) (replaced_others c a s b (λ e. ne (sym e)))

  pub sent_rest : (i : ℕ) → i ≢ a → i ≢ b → server_at sent i ≡ server_at c i
  unfolding delivered
  sent_rest i na nb = replaced_others (with_server c a s) b _ i nb ∙ replaced_others c a s i na

  -- what holds of both, and of the others as they were, holds of each
  pub sent_each : (P : ℕ → Server → Type 0) → P a s → P b (with_mail (server_at c b) (received (server_at c b).mail r))
      → ((i : ℕ) → i ≢ a → i ≢ b → P i (server_at c i)) → (i : ℕ) → P i (server_at sent i)
  sent_each P x y z i =
      by_cases (ℕ_discrete i a) (λ e. subst (λ (k : ℕ). P k (server_at sent k)) (sym e) (subst (P a) (sym sent_here) x))
      (λ na. by_cases (ℕ_discrete i b) (λ e. subst (λ (k : ℕ). P k (server_at sent k)) (sym e) (subst (P b) (sym sent_to) y))
      (λ nb. subst (P i) (sym (sent_rest i na nb)) (z i na nb)))
