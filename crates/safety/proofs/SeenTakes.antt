-- Kinds 4 and 5 as the view shows them: a takes b's log, and refusal 9 is never given.
-- Assumes nothing.
use mathlib.Core.Path.{◌≡◌, ap, sym, ◌∙◌}
use mathlib.Core.Bool.{true, false, ◌||◌}
use mathlib.Core.Logic.{◌⊎◌, inl, inr}
use Prim.Native.Nat.{ℕ, ◌≤◌}
use native.Mathlib.Omega.{arith}
use lib.Dec.{eqb, ltb}
use lib.ListN.{length}
use borrow.Author.Tests.{ltb-true, leb-false, eqb-true, not-true}
use Rattle.base.proofs.Bools.{or_cases}
use Rattle.base.proofs.Joined.{length_joined}
use Rattle.server_log.specs.declared.Log.{Log}
use Rattle.server_log.specs.declared.rows.Latest.{Latest}
use Rattle.server_log.specs.Entries.{entry_at, last_term, equal_at}
use Rattle.server_log.specs.Logs.{live, length_of, joined}
use Rattle.server_log.proofs.Common.{rolled_is}
use Rattle.server_log.proofs.Equal.{equal_at_lem}
use Rattle.server_log.proofs.Live.{entry_at_zero}
use Rattle.server_log.proofs.Positions.{entry_at_joined_low, entry_at_joined_high}
use Rattle.server_log.proofs.Tidy.{Tidy, live_joined}
use Rattle.cluster.specs.declared.Server.{Server}
use Rattle.cluster.specs.declared.Cluster.{Cluster}
use Rattle.cluster.specs.Ranges.{Fits}
use Rattle.cluster.specs.Servers.{server_count, server_at}
use Rattle.cluster.proofs.Good.{Good}
use Rattle.steps.specs.declared.Step.TheVariants.{Pulls, RollsBack}
use Rattle.steps.specs.declared.Refusal.TheVariants.{BelowCommitPoint}
use Rattle.steps.specs.Reasons.{Broken, later, here as broken-here}
use Rattle.pairs.specs.Reports.{sent_of}
use Rattle.pairs.specs.Pulls.{took_of}
use Rattle.pairs.specs.RollsBack.{common, roll_rules}
use Rattle.rules.specs.Rules.{both_in_range, put_back, row_of}
use Rattle.safety.specs.Quorum.{Quorums}
use Rattle.safety.specs.Cluster.{Agree, ServerSeen}
use Rattle.safety.specs.Told.{ClusterSeen}
use Rattle.safety.specs.Steps.{Copies, pulls, rolls_back, Goes, takes, Fresh, Walk}
use Rattle.safety.specs.View.{seen_entry, seen_server, view, told_in, seen_cluster}
use Rattle.safety.proofs.Joins.{pulled, no_refusal_9}
use Rattle.safety.proofs.Views.{in_range_lem, here, others, holds_common}
use Rattle.safety.proofs.SeenQuiet.{Sees}

tidy_at : (c : Cluster) → Good c → (a : ℕ) → ltb a (server_count c) ≡ true → Tidy (server_at c a).log
tidy_at c g a l = (g.counted a (omega (arith, ltb-true a (server_count c) l))).log.tidy

-- a takes a log that looks like b's, whatever its row
took : {𝓠 : Quorums} (c : Cluster) → Fits c → (a b : ℕ) → ltb a (server_count c) ≡ true → (server_at c a).head.primary ≡ false → (g : Log) (v : Latest)
    → Copies (view c a) (view c b) → length_of g ≡ (view c b).len → Agree (view c b).len (λ n. seen_entry (entry_at (live g) n)) (view c b).log
    → Goes 𝓠 (told_in c) (view c) (view (put_back c a (sent_of a b (took_of (server_at c a) (server_at c b) g v))).cluster)
unfolding took_of
took c f a b l secondary g v may len log =
    let o = sent_of a b (took_of (server_at c a) (server_at c b) g v) in
    let h = here c f a l o in
    takes a b
    (record {
      may = may;
      secondary = secondary;
      len = ap (λ (x : ServerSeen). x.len) h ∙ len;
      log = λ n m. ap (λ (x : ServerSeen). x.log n) h ∙ log n m;
      term = ap (λ (x : ServerSeen). x.term) h;
      role = ap (λ (x : ServerSeen). x.primary) h;
      commit = ap (λ (x : ServerSeen). x.commit) h;
      mark = inl (ap (λ (x : ServerSeen). x.mark) h);
      others = others c f a l o;
    })

-- an empty log's last entry is the root, as is everybody's entry at 0
last_equal : (s t : Server) → (eqb (length_of s.log) 0 || equal_at (live s.log) (live t.log) (length_of s.log)) ≡ true
    → (seen_server s).log (length_of s.log) ≡ (seen_server t).log (length_of s.log)
last_equal s t e = ap seen_entry (go (or_cases (eqb (length_of s.log) 0) _ e))
  where
    go : (eqb (length_of s.log) 0 ≡ true) ⊎ (equal_at (live s.log) (live t.log) (length_of s.log) ≡ true)
        → entry_at (live s.log) (length_of s.log) ≡ entry_at (live t.log) (length_of s.log)
    go (inl h) =
        let z = eqb-true (length_of s.log) 0 h in
        sym (entry_at_zero (live s.log) _ z) ∙ entry_at_zero (live t.log) _ z
    go (inr h) = (equal_at_lem (live s.log) (live t.log) (length_of s.log) h).same

pub sees_roll : {𝓠 : Quorums} (c : Cluster) → Fits c → (a b : ℕ) → Sees 𝓠 c (RollsBack a b)
unfolding row_of
sees_roll c f a b h =
    let s = server_at c a in
    let t = server_at c b in
    let r = h.1.1.1 in
    let e = rolled_is s.log t.log in
    took c f a b h.0 (not-true s.head.primary r.0) (joined s.log t.log (common s t)) _
    (rolls_back (ltb-true _ _ r.1.1.0)) (ap (λ (g : Log). length_of g) e)
    (λ n l. ap (λ (g : Log). seen_entry (entry_at (live g) n)) e)

module _ {𝓠 : Quorums} {u : ClusterSeen} (c : Cluster) (f : Fits c) (g : Good c) (start : Fresh u) (w : Walk 𝓠 u (seen_cluster c)) where
  pub sees_pull : (a b : ℕ) → Sees 𝓠 c (Pulls a b)
  unfolding row_of
  sees_pull a b h =
      let s = server_at c a in
      let t = server_at c b in
      let k = length_of s.log in
      let r = h.1.1.1 in
      let last = last_equal s t r.1.1.0 in
      let short = ltb-true k (length_of t.log) r.1.0 in
      let x = tidy_at c g a h.0 in
      let y = tidy_at c g b h.1.0 in
      let e = live_joined x y k (omega arith) (omega arith) in
      let may : Copies (view c a) (view c b) = pulls (omega arith) last in
      took c f a b h.0 (not-true s.head.primary r.0) (joined s.log t.log k) _ may
      (ap length e ∙ length_joined k (live s.log) (live t.log) (omega arith) (omega arith))
      (pulled start w a b (omega arith) last
      (λ n l. ap seen_entry (rw e (entry_at_joined_low k (live s.log) (live t.log) (omega arith) n l)))
      (λ n l m. ap seen_entry (rw e (entry_at_joined_high k (live s.log) (live t.log) (omega arith) n l))))

  -- the common beginning covers a's commit point, wherever the rules before the last one are kept
  common_covers : (a b : ℕ) → ltb a (server_count c) ≡ true → ltb b (server_count c) ≡ true
      → ltb (last_term (live (server_at c a).log)) (last_term (live (server_at c b).log)) ≡ true
      → (server_at c a).head.commit ≤ common (server_at c a) (server_at c b)
  common_covers a b la lb h =
      let s = server_at c a in
      let t = server_at c b in
      holds_common s t (f.each a (in_range_lem c a la)).log (f.each b (in_range_lem c b lb)).log
      (g.counted a (omega (arith, ltb-true a (server_count c) la))).commit_point
      (no_refusal_9 start w a b (rolls_back (ltb-true _ _ h)))

  pub roll_not_9 : (a b : ℕ) → Broken (both_in_range c a b (roll_rules (server_at c a) (server_at c b))) BelowCommitPoint → ⊥
  roll_not_9 a b (later la (later lb (later ab (later secondary (later some (later low (later other (broken-here e)))))))) =
      omega (arith, common_covers a b la lb low, leb-false (server_at c a).head.commit (common (server_at c a) (server_at c b)) e)
  roll_not_9 a b (later la (later lb (later ab (later secondary (later some (later low (later other (later _ k)))))))) = elim k [ ]
