-- The chosen server takes the reports, in the order in which they were sent, and notes each. Assumes nothing.
use Rattle.std.proofs.Common.{None}
use mathlib.Core.Path.{◌≡◌, refl, ap, sym, ◌∙◌, subst}
use mathlib.Core.Bool.{true, false}
use mathlib.Core.List.{List}
use mathlib.Core.Logic.{◌≢◌, by_cases}
use Prim.Native.Nat.{ℕ, suc, ◌+◌, ◌-◌, ◌≤◌, ◌<◌}
use native.Mathlib.Decide.{ℕ_discrete}
use native.Mathlib.Omega.{arith}
use lib.ListN.{length}
use lib.Seq.{get_or-set_same, get_or-set_other}
use borrow.Author.Tests.{lt-ltb, le-leb}
use Rattle.base.proofs.Bools.{or_left}
use Rattle.server_log.specs.declared.Entry.{Entry}
use Rattle.server_log.specs.Logs.{live}
use Rattle.mail.specs.declared.Report.{Report}
use Rattle.mail.specs.declared.Mail.{Mail}
use Rattle.mail.specs.declared.Queue.{Queue}
use Rattle.mail.specs.Reports.{zero_note, note_of, gives_way}
use Rattle.mail.specs.Queues.{report_at, oldest_taken}
use Rattle.mail.specs.Mails.{note_at, noted, taken, note_slots}
use Rattle.mail.proofs.Held.{noted_new, noted_queue, taken_len, taken_held}
use Rattle.cluster.specs.declared.Server.{Server}
use Rattle.cluster.specs.declared.Cluster.{Cluster}
use Rattle.cluster.specs.Servers.{server_at, with_mail, with_server}
use Rattle.cluster.proofs.Changed.{replaced_here}
use Rattle.steps.specs.declared.Step.TheVariants.{TakesReport}
use Rattle.steps.specs.Reasons.{Clear}
use Rattle.singles.specs.TakesReport.{oldest_of, forwards}
use Rattle.rules.specs.Rules.{delivered, row_of, rules_of, done_of}
use Rattle.plans.specs.Moves.{other}
use Rattle.recovery.specs.Promise.{held_by}
use Rattle.recovery.proofs.Getting.{Steps, other_below, other_apart, other_every}
use Rattle.recovery.proofs.Standing.{Stands, steps_clear, in_count, place, put_each}
use Rattle.recovery.proofs.Leading.{Task, Leads, Level, report_from, note_from}
use Rattle.recovery.proofs.Copying.{Copying}

-- ---- after j of them

pub record Taking (m f : ℕ) (a t : ℕ) (es : List Entry) (j : ℕ) (c : Cluster) : Type 0 where
  pub leads : Leads m f a t es c
  pub commit : (server_at c a).head.commit < length es
  pub level : (i : ℕ) → i < suc m → Level t es (held_by c i)
  pub len : (server_at c a).mail.queue.len ≡ m - j
  pub reports : (k : ℕ) → j + k < m → report_at (server_at c a).mail.queue k ≡ report_from (other a (j + k)) t es
  pub noted : (k : ℕ) → k < j → note_at (server_at c a).mail (other a k) ≡ note_from t es
  pub unnoted : (k : ℕ) → j ≤ k → k < m → note_at (server_at c a).mail (other a k) ≡ zero_note

module _ {m f : ℕ} {a t : ℕ} {es : List Entry} (task : Task m a t es) where
  -- all others have copied, so all hold the same
  pub taking : {c : Cluster} → Copying m f a t es m c → Taking m f a t es 0 c
  taking {c} h =
      record {
        leads = h.leads;
        commit = h.commit;
        level = λ i l. by_cases (ℕ_discrete i a) (λ e. rw (e, h.leads.held) (record { len = refl; last = task.last }))
            (λ ne. let o = other_every a m i (omega (arith, task.below)) l ne in rw (← o.is) (h.served o.number o.below));
        len = omega (arith, h.len);
        reports = λ k l. h.reports k (omega arith) ∙ ap (λ (x : ℕ). report_from (other a x) t es) (omega arith);
        noted = λ k l. absurd (omega arith);
        unnoted = λ k l x. h.notes (other a k);
      }

  module _ {j : ℕ} (l : j < m) {c : Cluster} (h : Taking m f a t es j c) where
    abbrev s : Server
    s = server_at c a

    abbrev who : ℕ
    who = other a j

    abbrev report : Report
    report = report_from who t es

    oldest : oldest_of s ≡ report
    oldest = h.reports 0 (omega arith) ∙ ap (λ (x : ℕ). report_from (other a x) t es) (omega arith)

    gives_way_lem : gives_way (note_at s.mail who) (note_of report) ≡ true
    unfolding gives_way
    gives_way_lem = rw (h.unnoted j (omega arith) l) (or_left _ _ (lt-ltb 0 t task.from_one))

    slots : length s.mail.notes ≡ note_slots
    slots = (h.leads.stands.fits.each a (omega (arith, h.leads.stands.few, task.below))).mail.slots

    abbrev new : Mail
    new = taken (noted s.mail (oldest_of s))

    noted_is : (k : ℕ) → note_at new k ≡ note_at (noted s.mail report) k
    noted_is k = ap (λ (r : Report). note_at (noted s.mail r) k) oldest

    note_new : note_at new who ≡ note_from t es
    note_new =
        noted_is who ∙ ap (λ (x : Mail). note_at x who) (noted_new s.mail report gives_way_lem)
        ∙ get_or-set_same s.mail.notes who (note_of report) zero_note (omega (arith, slots, other_below a j m l, h.leads.stands.few))

    note_old : (k : ℕ) → k ≢ who → note_at new k ≡ note_at s.mail k
    note_old k ne =
        noted_is k ∙ ap (λ (x : Mail). note_at x k) (noted_new s.mail report gives_way_lem)
        ∙ get_or-set_other s.mail.notes who k (note_of report) zero_note ne

    queue_is : new.queue ≡ oldest_taken s.mail.queue
    queue_is = ap oldest_taken (noted_queue s.mail (oldest_of s))

    clear : Clear (rules_of c (TakesReport a))
    unfolding row_of
    clear = (in_count h.leads.stands a task.below, (le-leb 1 s.mail.queue.len (omega (arith, h.len)), tt))

    -- a primary keeps it
    kept : forwards s ≡ None
    unfolding forwards
    kept = rw h.leads.primary

    pa : a < length c.servers
    pa = place h.leads.stands a task.below

    abbrev d : Cluster
    d = with_server c a (with_mail s new)

    at_a : server_at d a ≡ with_mail s new
    at_a = replaced_here c a _ pa

    done_is : (done_of c (TakesReport a)).cluster ≡ d
    unfolding row_of delivered
    done_is = ap (delivered d) kept

    taken_one_lem : Stands (suc m) f d → Taking m f a t es (suc j) d
    taken_one_lem stands =
        record {
          leads = record {
            stands = stands;
            primary = ap (λ (x : Server). x.head.primary) at_a ∙ h.leads.primary;
            held = ap (λ (x : Server). live x.log) at_a ∙ h.leads.held;
            own = ap (λ (x : Server). x.head.term) at_a ∙ h.leads.own;
            terms = put_each c a _ pa (λ k x. k < suc m → x.head.term ≤ t) (h.leads.terms a) (λ k ne. h.leads.terms k);
            secondary = put_each c a _ pa (λ k x. k < suc m → k ≢ a → x.head.primary ≡ false) (h.leads.secondary a) (λ k ne. h.leads.secondary k);
          };
          commit = omega (arith, ap (λ (x : Server). x.head.commit) at_a, h.commit);
          level = put_each c a _ pa (λ k x. k < suc m → Level t es (live x.log)) (h.level a) (λ k ne. h.level k);
          len = ap (λ (x : Server). x.mail.queue.len) at_a ∙ ap (λ (q : Queue). q.len) queue_is ∙ taken_len s.mail.queue ∙ omega (arith, h.len);
          reports = λ k lk. ap (λ (x : Server). report_at x.mail.queue k) at_a ∙ ap (λ (q : Queue). report_at q k) queue_is ∙ taken_held s.mail.queue k
              ∙ h.reports (suc k) (omega arith) ∙ ap (λ (x : ℕ). report_from (other a x) t es) (omega arith);
          noted = λ k lk. ap (λ (x : Server). note_at x.mail (other a k)) at_a ∙ by_cases (ℕ_discrete k j) (λ e. rw e note_new)
              (λ ne. note_old (other a k) (other_apart a k j ne) ∙ h.noted k (omega arith));
          unnoted = λ k lj lk. ap (λ (x : Server). note_at x.mail (other a k)) at_a ∙ note_old (other a k) (other_apart a k j (omega arith)) ∙ h.unnoted k (omega arith) lk;
        }

    pub takes_steps : Steps (Taking m f a t es (suc j)) c (TakesReport a)
    takes_steps =
        steps_clear h.leads.stands (TakesReport a) (omega (arith, h.leads.stands.few, task.below)) refl clear
        (λ x. subst (Taking m f a t es (suc j)) (sym done_is) (taken_one_lem (subst (Stands (suc m) f) done_is x)))
