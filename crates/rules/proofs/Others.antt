-- Only the servers that a step names change, and in what they change; the server count and the followers stay. Assumes nothing.
use Rattle.std.proofs.Common.{Option, None, Some}
use Rattle.std.specs.Option.{option_and_then}
use mathlib.Core.Path.{◌≡◌, refl, ap, sym, ◌∙◌, subst}
use mathlib.Core.Bool.{Bool, true, false, cond, ◌||◌}
use mathlib.Core.List.{List}
use mathlib.Core.Logic.{◌≢◌, ⊎_elim, by_cases}
use Prim.Native.Nat.{ℕ, ◌<◌, ◌≤◌}
use native.Mathlib.Decide.{ℕ_discrete}
use native.Mathlib.Omega.{arith}
use lib.Dec.{eqb, ltb}
use lib.ListN.{length, get_or, get_or-eq_default}
use lib.Seq.{set-get_or, set_out}
use borrow.Author.Tests.{eqb-false}
use Rattle.base.specs.Lists.{each}
use Rattle.base.proofs.Bools.{not_both}
use Rattle.base.proofs.Each.{length_each_from}
use Rattle.base.proofs.Facts.{lt_or_le}
use Rattle.mail.specs.declared.Report.{Report}
use Rattle.mail.specs.Mails.{with_notes, with_queue, emptied}
use Rattle.cluster.specs.declared.Server.{Server}
use Rattle.cluster.specs.declared.Cluster.{Cluster}
use Rattle.cluster.specs.Servers.{with_term, with_primary, with_wall, with_head, with_mail, past_server, server_at, with_server, voted_of, clocked_of}
use Rattle.cluster.specs.Sets.{member}
use Rattle.cluster.proofs.Changed.{replaced_here, replaced_others, changed_at}
use Rattle.steps.specs.declared.Step.{Step}
use Rattle.steps.specs.declared.Step.TheVariants.{Start, Elect, StepDown, Hears, Pulls, RollsBack, Writes, Advances, WallClock, Restarts, LocalRead, MajorityRead, Acknowledged, ClocksAgree, WritesNothing, NewestRead, TakesReport}
use Rattle.steps.specs.declared.Sent.{Sent}
use Rattle.steps.specs.Answers.{report_to}
use Rattle.wholes.specs.Elects.{new_term}
use Rattle.wholes.specs.ClocksAgree.{greatest_clock}
use Rattle.singles.specs.TakesReport.{oldest_of, forwards}
use Rattle.rules.specs.Rules.{delivered, row_of, done_of, is_start, step_of}
use Rattle.rules.proofs.Outcomes.{step_cases}
use Rattle.rules.specs.Statements.{is_source, touches}

-- ---- servers before and after

-- a server in another office: another term and role; a winner has no notes and no reports
abbrev pub office_of : Server → ℕ → Bool → Server
office_of s t p = with_mail (with_head s (with_primary (with_term s.head t) p)) (cond p (emptied s.mail) s.mail)

-- a server with another wall clock
abbrev pub wall_of : Server → ℕ → Server
wall_of s w = with_head s (with_wall s.head w)

module _ (a m t i : ℕ) (s : Server) where
  pub voted_inside : member m i ≡ true → voted_of a m t i s ≡ office_of s t (eqb i a)
  unfolding voted_of
  voted_inside e = rw e

  pub voted_outside : member m i ≡ false → voted_of a m t i s ≡ s
  unfolding voted_of
  voted_outside e = rw e

module _ (n w i : ℕ) (s : Server) where
  pub clocked_counted : ltb i n ≡ true → clocked_of n w i s ≡ wall_of s w
  unfolding clocked_of
  clocked_counted e = rw e

  pub clocked_past : ltb i n ≡ false → clocked_of n w i s ≡ s
  unfolding clocked_of
  clocked_past e = rw e

-- a server put back as it is
pub put_same : (c : Cluster) (a : ℕ) → with_server c a (server_at c a) ≡ c
put_same c a = λ i. record { count = c.count; followers = c.followers; servers = set-get_or c.servers a past_server i }

-- what holds of the server that is put there and of those that were there holds of all; where there is no such place nothing changes
pub put_either : (P : Server → Type 0) (c : Cluster) (a : ℕ) (s : Server) (i : ℕ) → (i ≡ a → P s) → P (server_at c i) → P (server_at (with_server c a s) i)
put_either P c a s i new old = by_cases (ℕ_discrete i a) (λ e. ⊎_elim (inside e) outside (lt_or_le a (length c.servers))) other
  where
    inside : i ≡ a → a < length c.servers → P (server_at (with_server c a s) i)
    inside e h = subst (λ (k : ℕ). P (server_at (with_server c a s) k)) (sym e) (subst P (sym (replaced_here c a s h)) (new e))

    outside : length c.servers ≤ a → P (server_at (with_server c a s) i)
    outside h = subst (λ (ss : List Server). P (get_or ss i past_server)) (sym (set_out c.servers a s h)) old

    other : i ≢ a → P (server_at (with_server c a s) i)
    other ne = subst P (sym (replaced_others c a s i ne)) old

-- every server changed by its number
abbrev pub changed_by : (ℕ → Server → Server) → Cluster → Cluster
changed_by f c = record { count = c.count; followers = c.followers; servers = each f c.servers }

-- what holds of what the change makes of a server, and of the server, holds afterwards: past the servers nothing changes
pub changed_either : (P : Server → Type 0) (f : ℕ → Server → Server) (c : Cluster) (i : ℕ) → P (f i (server_at c i)) → P (server_at c i)
    → P (server_at (changed_by f c) i)
changed_either P f c i new old = ⊎_elim (λ l. subst P (sym (changed_at f c i l)) new) (λ l. subst P (sym (past l)) old) (lt_or_le i (length c.servers))
  where
    past : length c.servers ≤ i → server_at (changed_by f c) i ≡ server_at c i
    past l =
        get_or-eq_default (each f c.servers) past_server (omega (arith, length_each_from f 0 c.servers))
        ∙ sym (get_or-eq_default c.servers past_server l)

-- a relation that holds of every server and itself
module _ (R : Server → Server → Type 0) (itself : (s : Server) → R s s) where
  -- holds where every server is changed
  changed_by_lem : (f : ℕ → Server → Server) (c : Cluster) (i : ℕ) → R (server_at c i) (f i (server_at c i))
      → R (server_at c i) (server_at (changed_by f c) i)
  changed_by_lem f c i h = changed_either (R (server_at c i)) f c i h (itself (server_at c i))

  -- and over a step, if it does over what is done
  stepped_by : (c : Cluster) (s : Step) (i : ℕ) → R (server_at c i) (server_at (done_of c s).cluster i) → R (server_at c i) (server_at (step_of c s).cluster i)
  stepped_by c s i h = ⊎_elim (λ d. rw d.is h) (λ d. rw d.is (itself (server_at c i))) (step_cases c s)

-- ---- the others are unchanged

-- a delivery changes only the server that it goes to
pub delivered_others : (c : Cluster) (b : ℕ) (r : Report) (i : ℕ) → i ≢ b → server_at (delivered c (report_to b r)) i ≡ server_at c i
unfolding delivered
delivered_others c b r i ne = replaced_others c b _ i ne

-- as many servers, and the same followers
abbrev pub SameSize : Cluster → Cluster → Type 0
SameSize c d = (d.count ≡ c.count) × (d.followers ≡ c.followers)

pub delivered_size : (c : Cluster) (x : Option Sent) → SameSize c (delivered c x)
unfolding delivered
delivered_size c None = (refl, refl)
delivered_size c (Some t) = (refl, refl)

-- t is what s was
abbrev Same : Server → Server → Type 0
Same s t = t ≡ s

pub or_neither : (x y : Bool) → (x || y) ≡ false → (x ≡ false) × (y ≡ false)
or_neither true y e = not_both true refl e
or_neither false y e = (refl, e)

-- neither the server that takes a step nor the one that it sends a report to
sent_others : (c : Cluster) (a b : ℕ) (s : Server) (r : Report) (i : ℕ) → (eqb i a || eqb i b) ≡ false → server_at (delivered (with_server c a s) (report_to b r)) i ≡ server_at c i
sent_others c a b s r i e =
    let n = or_neither (eqb i a) (eqb i b) e in
    delivered_others (with_server c a s) b r i (eqb-false i b n.1) ∙ replaced_others c a s i (eqb-false i a n.0)

forwarded_others : (c : Cluster) (a : ℕ) (s : Server) (i : ℕ) → (eqb i a || is_source (server_at c a).mail.source i) ≡ false
    → server_at (delivered (with_server c a s) (forwards (server_at c a))) i ≡ server_at c i
unfolding forwards delivered
forwarded_others c a s i e = go (server_at c a).head.primary (server_at c a).mail.source n.1
  where
    n : (eqb i a ≡ false) × (is_source (server_at c a).mail.source i ≡ false)
    n = or_neither (eqb i a) (is_source (server_at c a).mail.source i) e

    kept : server_at (with_server c a s) i ≡ server_at c i
    kept = replaced_others c a s i (eqb-false i a n.0)

    go : (p : Bool) (source : Option ℕ) → is_source source i ≡ false
        → server_at (delivered (with_server c a s) (cond p None (option_and_then (λ b. report_to b (oldest_of (server_at c a))) source))) i ≡ server_at c i
    go true source k = kept
    go false None k = kept
    go false (Some b) k = replaced_others (with_server c a s) b _ i (eqb-false i b k) ∙ kept

done_others : (c : Cluster) (s : Step) (i : ℕ) → touches c s i ≡ false → server_at (done_of c s).cluster i ≡ server_at c i
unfolding row_of delivered
done_others c (Start n f) i e = not_both true refl e
done_others c (Elect a m) i e = changed_by_lem Same (λ s. refl) (voted_of a m (new_term c a)) c i (voted_outside a m (new_term c a) i (server_at c i) e)
done_others c (StepDown a) i e = replaced_others c a _ i (eqb-false i a e)
done_others c (Hears a b) i e = replaced_others c a _ i (eqb-false i a e)
done_others c (Pulls a b) i e = sent_others c a b _ _ i e
done_others c (RollsBack a b) i e = sent_others c a b _ _ i e
done_others c (Writes a key value client) i e = replaced_others c a _ i (eqb-false i a e)
done_others c (Advances a) i e = replaced_others c a _ i (eqb-false i a e)
done_others c (WallClock a) i e = replaced_others c a _ i (eqb-false i a e)
done_others c (Restarts a) i e = replaced_others c a _ i (eqb-false i a e)
done_others c (LocalRead a key asked) i e = ap (λ (d : Cluster). server_at d i) (put_same c a)
done_others c (MajorityRead a key asked) i e = ap (λ (d : Cluster). server_at d i) (put_same c a)
done_others c (Acknowledged a k n term) i e = ap (λ (d : Cluster). server_at d i) (put_same c a)
done_others c (WritesNothing a) i e = replaced_others c a _ i (eqb-false i a e)
done_others c (NewestRead a key n term) i e = ap (λ (d : Cluster). server_at d i) (put_same c a)
done_others c (TakesReport a) i e = forwarded_others c a _ i e
done_others c ClocksAgree i e =
    changed_by_lem Same (λ s. refl) (clocked_of c.count (greatest_clock c)) c i (clocked_past c.count (greatest_clock c) i (server_at c i) e)

pub others_unchanged : (c : Cluster) (s : Step) (i : ℕ) → touches c s i ≡ false → server_at (step_of c s).cluster i ≡ server_at c i
others_unchanged c s i e = stepped_by Same (λ x. refl) c s i (done_others c s i e)

done_size : (c : Cluster) (s : Step) → is_start s ≡ false → SameSize c (done_of c s).cluster
unfolding row_of delivered
done_size c (Start n f) e = not_both true refl e
done_size c (Elect a m) e = (refl, refl)
done_size c (StepDown a) e = (refl, refl)
done_size c (Hears a b) e = (refl, refl)
done_size c (Pulls a b) e = (refl, refl)
done_size c (RollsBack a b) e = (refl, refl)
done_size c (Writes a key value client) e = (refl, refl)
done_size c (Advances a) e = (refl, refl)
done_size c (WallClock a) e = (refl, refl)
done_size c (Restarts a) e = (refl, refl)
done_size c (LocalRead a key asked) e = (refl, refl)
done_size c (MajorityRead a key asked) e = (refl, refl)
done_size c (Acknowledged a k n term) e = (refl, refl)
done_size c ClocksAgree e = (refl, refl)
done_size c (WritesNothing a) e = (refl, refl)
done_size c (NewestRead a key n term) e = (refl, refl)
done_size c (TakesReport a) e = delivered_size (with_server c a _) (forwards (server_at c a))

pub size_unchanged : (c : Cluster) (s : Step) → is_start s ≡ false → SameSize c (step_of c s).cluster
size_unchanged c s e = ⊎_elim (λ d. rw d.is (done_size c s e)) (λ d. rw d.is (refl, refl)) (step_cases c s)

-- ---- what changes where several servers do

-- an election changes only terms and roles, and of the winner the notes and the queue
abbrev pub SameButOffice : Bool → Server → Server → Type 0
SameButOffice won s t =
    t ≡ with_mail (with_head s (with_primary (with_term s.head t.head.term) t.head.primary))
    (cond won (with_notes (with_queue s.mail t.mail.queue) t.mail.notes) s.mail)

same_office : (won : Bool) (s : Server) → SameButOffice won s s
same_office true s = refl
same_office false s = refl

other_office : (won : Bool) (s : Server) (t : ℕ) → SameButOffice won s (office_of s t won)
other_office true s t = refl
other_office false s t = refl

pub elect_changes : (c : Cluster) (a m i : ℕ) → SameButOffice (eqb i a) (server_at c i) (server_at (step_of c (Elect a m)).cluster i)
unfolding row_of
elect_changes c a m i =
    stepped_by R itself c (Elect a m) i (changed_by_lem R itself (voted_of a m (new_term c a)) c i (go (member m i) refl))
  where
    R : Server → Server → Type 0
    R = SameButOffice (eqb i a)

    itself : (s : Server) → R s s
    itself = same_office (eqb i a)

    go : (b : Bool) → member m i ≡ b → R (server_at c i) (voted_of a m (new_term c a) i (server_at c i))
    go true e = subst (R (server_at c i)) (sym (voted_inside a m (new_term c a) i (server_at c i) e)) (other_office (eqb i a) (server_at c i) (new_term c a))
    go false e = subst (R (server_at c i)) (sym (voted_outside a m (new_term c a) i (server_at c i) e)) (itself (server_at c i))

-- what a server sends changes only a queue
abbrev pub SameButQueue : Server → Server → Type 0
SameButQueue s t = t ≡ with_mail s (with_queue s.mail t.mail.queue)

pub delivered_queue : (c : Cluster) (x : Option Sent) (i : ℕ) → SameButQueue (server_at c i) (server_at (delivered c x) i)
unfolding delivered
delivered_queue c None i = refl
delivered_queue c (Some t) i = put_either (SameButQueue (server_at c i)) c t.to _ i (λ e. rw e) refl

-- so do pulls, rollbacks and reports that are taken, of all servers but the one that takes the step
told_others : (c : Cluster) (a : ℕ) (s : Server) (x : Option Sent) (i : ℕ) → i ≢ a → SameButQueue (server_at c i) (server_at (delivered (with_server c a s) x) i)
told_others c a s x i ne =
    subst (λ (t : Server). SameButQueue t (server_at (delivered (with_server c a s) x) i)) (replaced_others c a s i ne) (delivered_queue (with_server c a s) x i)

pub pull_changes : (c : Cluster) (a b i : ℕ) → i ≢ a → SameButQueue (server_at c i) (server_at (step_of c (Pulls a b)).cluster i)
unfolding row_of
pull_changes c a b i ne = stepped_by SameButQueue (λ s. refl) c (Pulls a b) i (told_others c a _ _ i ne)

pub roll_changes : (c : Cluster) (a b i : ℕ) → i ≢ a → SameButQueue (server_at c i) (server_at (step_of c (RollsBack a b)).cluster i)
unfolding row_of
roll_changes c a b i ne = stepped_by SameButQueue (λ s. refl) c (RollsBack a b) i (told_others c a _ _ i ne)

pub take_changes : (c : Cluster) (a i : ℕ) → i ≢ a → SameButQueue (server_at c i) (server_at (step_of c (TakesReport a)).cluster i)
unfolding row_of
take_changes c a i ne = stepped_by SameButQueue (λ s. refl) c (TakesReport a) i (told_others c a _ _ i ne)

-- clocks that agree change only wall clocks
abbrev pub SameButClock : Server → Server → Type 0
SameButClock s t = t ≡ wall_of s t.head.wall

pub agree_changes : (c : Cluster) (i : ℕ) → SameButClock (server_at c i) (server_at (step_of c ClocksAgree).cluster i)
unfolding row_of
agree_changes c i =
    stepped_by SameButClock (λ s. refl) c ClocksAgree i
    (changed_by_lem SameButClock (λ s. refl) (clocked_of c.count (greatest_clock c)) c i (go (ltb i c.count) refl))
  where
    go : (b : Bool) → ltb i c.count ≡ b → SameButClock (server_at c i) (clocked_of c.count (greatest_clock c) i (server_at c i))
    go true e = rw (clocked_counted c.count (greatest_clock c) i (server_at c i) e)
    go false e = rw (clocked_past c.count (greatest_clock c) i (server_at c i) e)
