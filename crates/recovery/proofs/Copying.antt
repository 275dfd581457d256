-- Each other server pulls or rolls back: then it holds what the chosen one holds, and has told it so. Assumes nothing.
use mathlib.Core.Path.{◌≡◌, refl, ap, sym, ◌∙◌, subst}
use mathlib.Core.Bool.{Bool, true, false, cond}
use mathlib.Core.List.{List}
use mathlib.Core.Logic.{◌≢◌, ◌⊎◌, inl, inr, by_cases}
use Prim.Native.Nat.{ℕ, suc, ◌≤◌, ◌<◌}
use native.Mathlib.Decide.{ℕ_discrete}
use native.Mathlib.Numerals.{add-one}
use native.Mathlib.Omega.{arith}
use lib.ListN.{length}
use lib.Seq.{get_or-set_same, get_or-set_other}
use borrow.Author.Tests.{ltb-true}
use Rattle.base.proofs.Bools.{not_both}
use Rattle.base.proofs.Joined.{length_joined}
use Rattle.server_log.specs.declared.Entry.{Entry}
use Rattle.server_log.specs.declared.Log.{Log}
use Rattle.server_log.specs.declared.rows.Latest.{Latest}
use Rattle.server_log.specs.Entries.{last_term}
use Rattle.server_log.specs.Logs.{live, length_of, joined}
use Rattle.server_log.proofs.Common.{rolled_is}
use Rattle.server_log.proofs.Positions.{last_joined}
use Rattle.server_log.proofs.Tidy.{tidy_length, live_joined}
use Rattle.mail.specs.declared.Report.{Report}
use Rattle.mail.specs.declared.Queue.{Queue}
use Rattle.mail.specs.Reports.{zero_note, zero_report}
use Rattle.mail.specs.Queues.{queue_limit, report_at, queued}
use Rattle.mail.specs.Mails.{note_at, received}
use Rattle.mail.proofs.Held.{queued_room}
use Rattle.cluster.specs.declared.Server.{Server}
use Rattle.cluster.specs.declared.Cluster.{Cluster}
use Rattle.cluster.specs.Servers.{server_at, with_mail}
use Rattle.steps.specs.declared.Outcome.{Outcome}
use Rattle.steps.specs.Answers.{is_refused}
use Rattle.steps.specs.declared.Step.TheVariants.{Pulls, RollsBack}
use Rattle.steps.specs.Reasons.{Clear, Broken}
use Rattle.steps.specs.declared.Refusal.TheVariants.{BelowCommitPoint}
use Rattle.steps.proofs.Positions.{number_kept}
use Rattle.pairs.specs.Reports.{report_of, sent_of}
use Rattle.pairs.specs.Pulls.{took_of}
use Rattle.pairs.specs.RollsBack.{common}
use Rattle.rules.specs.Rules.{put_back, row_of, rules_of, step_of}
use Rattle.rules.proofs.Outcomes.{answered_done, step_refused}
use Rattle.plans.specs.Moves.{other}
use Rattle.plans.specs.Plan.{copies}
use Rattle.recovery.specs.Promise.{held_by}
use Rattle.recovery.proofs.Getting.{Steps, StepsOr9, other_not, other_below, other_apart}
use Rattle.recovery.proofs.Standing.{Stands, is_seen, steps_clear, place, sent_here, sent_to, sent_rest, sent_each}
use Rattle.recovery.proofs.PullOrRoll.{pull_or_roll}
use Rattle.recovery.proofs.Leading.{Task, Leads, Level, report_from}

-- ---- a report that finds room

module _ (q : Queue) (r : Report) (room : q.len < queue_limit) (slots : length q.reports ≡ queue_limit) where
  queued_len : (queued q r).len ≡ suc q.len
  queued_len = ap (λ (p : Queue). p.len) (queued_room q r room) ∙ add-one q.len

  queued_old : (k : ℕ) → k ≢ q.len → report_at (queued q r) k ≡ report_at q k
  queued_old k ne = ap (λ (p : Queue). report_at p k) (queued_room q r room) ∙ get_or-set_other q.reports q.len k r zero_report ne

  queued_new : report_at (queued q r) q.len ≡ r
  queued_new = ap (λ (p : Queue). report_at p q.len) (queued_room q r room) ∙ get_or-set_same q.reports q.len r zero_report (omega arith)

-- ---- after j of them

pub record Copying (m f : ℕ) (a t : ℕ) (es : List Entry) (j : ℕ) (c : Cluster) : Type 0 where
  pub leads : Leads m f a t es c
  pub commit : (server_at c a).head.commit < length es
  pub served : (k : ℕ) → k < j → Level t es (held_by c (other a k))
  pub waiting : (k : ℕ) → j ≤ k → k < m → last_term (held_by c (other a k)) < t
  pub len : (server_at c a).mail.queue.len ≡ j
  pub reports : (k : ℕ) → k < j → report_at (server_at c a).mail.queue k ≡ report_from (other a k) t es
  pub notes : (i : ℕ) → note_at (server_at c a).mail i ≡ zero_note

module _ {m f : ℕ} {a t : ℕ} {es : List Entry} (task : Task m a t es) {j : ℕ} (l : j < m) {c : Cluster} (h : Copying m f a t es j c) where
  abbrev i : ℕ
  i = other a j

  li : i < suc m
  li = other_below a j m l

  abbrev s : Server
  s = server_at c i

  abbrev b : Server
  b = server_at c a

  -- i with a log as long and of the same last term
  module _ (g : Log) (v : Latest) (e : Level t es (live g)) where
    abbrev d : Cluster
    d = (put_back c i (sent_of i a (took_of s b g v))).cluster

    abbrev report : Report
    report = report_of i (took_of s b g v)

    report_is : report ≡ report_from i t es
    unfolding took_of
    report_is =
        let ti = h.leads.terms i li in
        let ta = h.leads.own in
        let x : (took_of s b g v).head.term ≡ t = omega arith in
        let w = number_kept (length_of g) (omega (arith, e.len, task.few)) in
        λ k. record { who = i; term = x k; last = e.last k; len = (w ∙ e.len) k }

    to_i : i ≢ a
    to_i = other_not a j

    pi : i < length c.servers
    pi = place h.leads.stands i li

    pa : a < length c.servers
    pa = place h.leads.stands a task.below

    at_i : server_at d i ≡ (sent_of i a (took_of s b g v)).server
    at_i = sent_here c i a _ report to_i pi pa

    at_a : server_at d a ≡ with_mail b (received b.mail report)
    at_a = sent_to c i a _ report to_i pi pa

    rest : (k : ℕ) → k ≢ j → held_by d (other a k) ≡ held_by c (other a k)
    rest k ne = ap (λ (x : Server). live x.log) (sent_rest c i a _ report to_i pi pa (other a k) (other_apart a k j ne) (other_not a k))

    room : b.mail.queue.len < queue_limit
    room = omega (arith, h.len, h.leads.stands.few)

    slots : length b.mail.queue.reports ≡ queue_limit
    slots = (h.leads.stands.fits.each a (omega (arith, h.leads.stands.few, task.below))).mail.queue.slots

    told : (k : ℕ) → k < suc j → report_at (queued b.mail.queue report) k ≡ report_from (other a k) t es
    told k lk =
        by_cases (ℕ_discrete k j)
        (λ q. let z : k ≡ b.mail.queue.len = q ∙ sym h.len in
        ap (report_at (queued b.mail.queue report)) z ∙ queued_new b.mail.queue report room slots ∙ report_is ∙ ap (λ (x : ℕ). report_from (other a x) t es) (sym q))
        (λ ne. queued_old b.mail.queue report room slots k (λ q. ne (q ∙ h.len)) ∙ h.reports k (omega arith))

    pub copied : Stands (suc m) f d → Copying m f a t es (suc j) d
    unfolding took_of
    copied stands =
        record {
          leads = record {
            stands = stands;
            primary = ap (λ (x : Server). x.head.primary) at_a ∙ h.leads.primary;
            held = ap (λ (x : Server). live x.log) at_a ∙ h.leads.held;
            own = ap (λ (x : Server). x.head.term) at_a ∙ h.leads.own;
            terms = sent_each c i a _ report to_i pi pa (λ k x. k < suc m → x.head.term ≤ t)
                (λ lk. omega (arith, h.leads.terms i li, h.leads.own)) (h.leads.terms a) (λ k x y. h.leads.terms k);
            secondary = sent_each c i a _ report to_i pi pa (λ k x. k < suc m → k ≢ a → x.head.primary ≡ false)
                (h.leads.secondary i) (h.leads.secondary a) (λ k x y. h.leads.secondary k);
          };
          commit = omega (arith, ap (λ (x : Server). x.head.commit) at_a, h.commit);
          served = λ k lk. by_cases (ℕ_discrete k j)
              (λ q. rw (q, at_i) e) (λ ne. rw (rest k ne) (h.served k (omega arith)));
          waiting = λ k lj lk. rw (rest k (omega arith)) (h.waiting k (omega arith) lk);
          len = ap (λ (x : Server). x.mail.queue.len) at_a ∙ queued_len b.mail.queue report room slots ∙ ap suc h.len;
          reports = λ k lk. ap (λ (x : Server). report_at x.mail.queue k) at_a ∙ told k lk;
          notes = λ k. ap (λ (x : Server). note_at x.mail k) at_a ∙ h.notes k;
        }

  -- ---- either way

  low : last_term (held_by c i) < last_term (held_by c a)
  low = rw (ap (λ (xs : List Entry). last_term xs) h.leads.held ∙ task.last) (h.waiting j (omega arith) l)

  -- either log is as long as a's and ends with its last entry
  abbrev as_held : Log → Type 0
  as_held g = Level t es (live g)

  pull_level : Clear (rules_of c (Pulls i a)) → as_held (joined s.log b.log (length_of s.log))
  unfolding row_of
  pull_level k =
      let n = h.leads.stands in
      let short = ltb-true (length_of s.log) (length_of b.log) k.1.1.1.1.0 in
      let x = (n.good.counted i (omega (arith, n.counted, li))).log.tidy in
      let y = (n.good.counted a (omega (arith, n.counted, task.below))).log.tidy in
      let e = live_joined x y (length_of s.log) (omega (arith, tidy_length x)) (omega (arith, tidy_length y)) in
      record {
        len = ap length e ∙ length_joined (length_of s.log) (live s.log) (live b.log) (omega arith) (omega arith) ∙ ap length h.leads.held;
        last = ap (λ (xs : List Entry). last_term xs) e ∙ ap (λ (x : Entry). x.term) (last_joined (length_of s.log) (live s.log) (live b.log) (omega arith) short)
            ∙ ap (λ (xs : List Entry). last_term xs) h.leads.held ∙ task.last;
      }

  roll_level : as_held (joined s.log b.log (common s b))
  roll_level =
      subst (Level t es) (sym (ap (λ (g : Log). live g) (rolled_is s.log b.log) ∙ h.leads.held)) (record { len = refl; last = task.last })

  pulls_steps : Clear (rules_of c (Pulls i a)) → Steps (Copying m f a t es (suc j)) c (Pulls i a)
  unfolding row_of
  pulls_steps k = steps_clear h.leads.stands (Pulls i a) (omega (arith, h.leads.stands.few, li, task.below)) refl k (copied _ _ (pull_level k))

  rolls_steps : Clear (rules_of c (RollsBack i a)) → Steps (Copying m f a t es (suc j)) c (RollsBack i a)
  unfolding row_of
  rolls_steps k = steps_clear h.leads.stands (RollsBack i a) (omega (arith, h.leads.stands.few, li, task.below)) refl k (copied _ _ roll_level)

  -- the copy that the plan chooses
  pub copies_steps : StepsOr9 (Copying m f a t es (suc j)) c (copies i a c)
  copies_steps =
      go (is_refused (step_of c (Pulls i a)).answer) refl (pull_or_roll h.leads.stands i a li task.below (other_not a j) (h.leads.secondary i li (other_not a j)) low)
    where
      go : (x : Bool) → is_refused (step_of c (Pulls i a)).answer ≡ x
          → Clear (rules_of c (Pulls i a)) ⊎ (Clear (rules_of c (RollsBack i a)) ⊎ Broken (rules_of c (RollsBack i a)) BelowCommitPoint)
          → StepsOr9 (Copying m f a t es (suc j)) c (cond x (RollsBack i a) (Pulls i a))
      go false e k = inl (pulls_steps (answered_done c (Pulls i a) refl (e)).clear)
      go true e (inl k) = not_both _ e (pulls_steps k).done
      go true e (inr (inl k)) = inl (rolls_steps k)
      go true e (inr (inr k)) = inr (ap (λ (o : Outcome). o.answer) (step_refused c (RollsBack i a) BelowCommitPoint (is_seen h.leads.stands (RollsBack i a)) k))
