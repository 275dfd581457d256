-- What servers show beside what they hold: of the entries below its mark a server shows nothing. A step that leaves the logs, or appends to one, is
-- the same step of what is held. Nothing stands on this yet: it is for records with dropped beginnings ([13]), whose marks are not all 0.
-- Assumes nothing.
use mathlib.Core.Path.{◌≡◌, sym, ◌∙◌}
use mathlib.Core.Logic.{◌≢◌}
use mathlib.Core.Bool.{Bool}
use Prim.Native.Nat.{ℕ, suc, ◌≤◌}
use native.Mathlib.Omega.{arith}
use Rattle.safety.specs.Quorum.{Quorums}
use Rattle.safety.specs.Cluster.{EntrySeen, LogSeen, Agree, ServerSeen, Seen, last_term_seen}
use Rattle.safety.specs.Told.{ReportSeen, Told, Tells, before, unused, own}
use Rattle.safety.specs.Steps.{Elects, Writes, Settles, stays, restarts, hears, Marks, unmoved, drops, Quiet, Counts, itself, reported, Passes}
use Rattle.safety.proofs.Leads.{term_of}

-- the whole logs of servers, by their numbers
abbrev pub Logs : Type 0
Logs = ℕ → LogSeen

-- a server that shows s and holds L
abbrev pub whole : ServerSeen → LogSeen → ServerSeen
whole s L = record { len = s.len; log = L; term = s.term; primary = s.primary; commit = s.commit; mark = s.mark }

abbrev pub wholes : Seen → Logs → Seen
wholes v L i = whole (v i) (L i)

-- what a server shows from its mark on is what it holds
abbrev pub Cut : ServerSeen → LogSeen → Type 0
Cut s L = (n : ℕ) → s.mark ≤ n → n ≤ s.len → L n ≡ s.log n

-- what is known in a view: logs are cut at their marks, which commit points cover, and these stand within the logs
pub record Cuts (v : Seen) (L : Logs) : Type 0 where
  pub cut : (i : ℕ) → Cut (v i) (L i)
  pub covered : (i : ℕ) → (v i).mark ≤ (v i).commit
  pub within : (i : ℕ) → (v i).commit ≤ (v i).len

-- who shows the same and holds the same is the same
whole_same : {s r : ServerSeen} {M N : LogSeen} → s ≡ r → M ≡ N → whole s M ≡ whole r N
whole_same e f = λ j. whole (e j) (f j)

module _ {v : Seen} {L : Logs} (c : Cuts v L) where
  -- the last entry is shown
  last_shown : (i : ℕ) → L i (v i).len ≡ (v i).log (v i).len
  last_shown i = c.cut i (v i).len (omega (arith, c.covered i, c.within i)) (omega arith)

  last_term_lem : (i : ℕ) → last_term_seen (wholes v L i) ≡ last_term_seen (v i)
  last_term_lem i = term_of (last_shown i)

  cut_settles : (i k : ℕ) → Settles v i k → Settles (wholes v L) i k
  cut_settles i k (stays e) = stays e
  cut_settles i k (restarts e) = restarts e
  cut_settles i k (hears b e u l q) =
      hears b e u l
      (c.cut i k (omega (arith, c.covered i)) l ∙ q ∙ sym (c.cut b k (omega (arith, c.covered b)) (omega (arith, c.within b))))

  cut_marks : (i k : ℕ) → Marks v i k → Marks (wholes v L) i k
  cut_marks i k (unmoved e) = unmoved e
  cut_marks i k (drops u h q) =
      let w = c.within i in
      let last = c.cut i k u (omega arith) in
      let top = c.cut i (v i).commit (c.covered i) w in
      drops u h cc

  cut_counts : {m : Told} {a n : ℕ} (i : ℕ) → Counts m v a n i → Counts m (wholes v L) a n i
  cut_counts i (itself e) = itself e
  cut_counts i (reported s) = reported s

  -- a step that leaves the logs
  module _ {v' : Seen} {L' : Logs} (same : (i : ℕ) → L' i ≡ L i) where
    pub cut_elects : {𝓠 : Quorums} {a : ℕ} {members : ℕ → Bool} → Elects 𝓠 v v' a members → Elects 𝓠 (wholes v L) (wholes v' L') a members
    cut_elects {a = a} {members} h =
        record {
          quorum = h.quorum;
          low = h.low;
          ahead = λ i m. rw (last_term_lem i, last_term_lem a) (h.ahead i m);
          voted =
              λ i m.
              record {
                keeps = record { len = (h.voted i m).keeps.len; log = same i };
                commit = (h.voted i m).commit;
                mark = (h.voted i m).mark;
                term = (h.voted i m).term;
              };
          winner = h.winner;
          others = λ i m. whole_same (h.others i m) (same i);
        }

    pub cut_quiet : ((i : ℕ) → Quiet v i (v' i)) → (i : ℕ) → Quiet (wholes v L) i (wholes v' L' i)
    cut_quiet h i =
        record {
          rests =
              record {
                keeps = record { len = (h i).rests.keeps.len; log = same i };
                raised = (h i).rests.raised;
                role = (h i).rests.role;
                unraised = (h i).rests.unraised;
              };
          settles = cut_settles i (v' i).commit (h i).settles;
          marks = cut_marks i (v' i).mark (h i).marks;
        }

    pub cut_passes : {𝓠 : Quorums} {m : Told} {a n : ℕ} → Passes 𝓠 m v v' a n → Passes 𝓠 m (wholes v L) (wholes v' L') a n
    cut_passes {𝓠} {a = a} {n} h =
        record {
          within = h.within;
          above = h.above;
          current = term_of (c.cut a n (omega (arith, c.covered a, h.above)) h.within) ∙ h.current;
          quorum = 𝓠.more _ _ cut_counts h.quorum;
          keeps = record { len = h.keeps.len; log = same a };
          term = h.term;
          role = h.role;
          commit = h.commit;
          mark = h.mark;
          others = λ i ne. whole_same (h.others i ne) (same i);
        }

  -- a appends e to what it holds too
  pub cut_writes : {v' : Seen} {L' : Logs} {a : ℕ} {e : EntrySeen} → ((i : ℕ) → i ≢ a → L' i ≡ L i) → Agree (v a).len (L' a) (L a)
      → L' a (suc (v a).len) ≡ e → Writes v v' a e → Writes (wholes v L) (wholes v' L') a e
  cut_writes {a = a} same kept entry h =
      record {
        primary = h.primary;
        current = h.current;
        later = rw (last_shown a) h.later;
        len = h.len;
        kept = kept;
        entry = entry;
        term = h.term;
        role = h.role;
        commit = h.commit;
        mark = h.mark;
        others = λ i ne. whole_same (h.others i ne) (same i ne);
      }

  -- a report says of what a server shows what it says of what it holds
  pub cut_tells : {m : Told} {r : ReportSeen} → Tells m v r → Tells m (wholes v L) r
  cut_tells (before p e) = before p e
  cut_tells (unused e) = unused e
  cut_tells {r = r} (own o) = own (record { term = o.term; last = o.last ∙ sym (last_term_lem r.who); len = o.len })
