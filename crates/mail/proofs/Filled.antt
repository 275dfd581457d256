-- A queue is its reports, sent to the empty queue in order; and a used note is greater than none. Assumes nothing.
use mathlib.Core.Path.{◌≡◌, sym, ap, ◌∙◌}
use mathlib.Core.Bool.{true, false, ◌&&◌, ◌||◌, true≢false}
use mathlib.Core.List.{List, [], ◌∷◌}
use Prim.Native.Nat.{ℕ, zero, suc, ◌+◌, ◌≤◌}
use native.Mathlib.Nat.{add-zero}
use native.Mathlib.Numerals.{add-one}
use native.Mathlib.Omega.{arith}
use lib.Dec.{eqb, ltb}
use lib.ListN.{length, set, take, length-take}
use lib.Seq.{sets}
use borrow.Author.Tests.{lt-ltb}
use Rattle.base.proofs.Joined.{refilled}
use Rattle.mail.specs.declared.Report.{Report}
use Rattle.mail.specs.declared.Note.{Note}
use Rattle.mail.specs.declared.Queue.{Queue}
use Rattle.mail.specs.Reports.{zero_report, zero_note, gives_way}
use Rattle.mail.specs.Queues.{queue_limit, empty_queue, queued}
use Rattle.mail.specs.Order.{is_unused}
use Rattle.mail.proofs.Held.{queued_room}
use Rattle.mail.proofs.Good.{QueueGood}

-- ---- reports one after the other

abbrev pub queued_all : Queue → List Report → Queue
queued_all q [] = q
queued_all q (r ∷ rs) = queued_all (queued q r) rs

-- a queue with reports after its last
abbrev filled : Queue → List Report → Queue
filled q rs = record { reports = sets q.reports q.len rs; len = q.len + length rs }

all_queued : (q : Queue) (rs : List Report) → q.len + length rs ≤ queue_limit → queued_all q rs ≡ filled q rs
all_queued q [] h = ap (λ (n : ℕ). record { reports = q.reports; len = n }) (sym (add-zero q.len))
all_queued q (r ∷ rs) h =
    let one : Queue = record { reports = set q.reports q.len r; len = q.len + 1 } in
    let a = add-one q.len in
    let n : q.len + 1 + length rs ≡ q.len + suc (length rs) = omega arith in
    ap (λ (p : Queue). queued_all p rs) (queued_room q r (omega arith)) ∙ all_queued one rs (omega arith)
    ∙ (λ i. record { reports = sets (set q.reports q.len r) (a i) rs; len = n i })

pub queued_again : {count : ℕ} {q : Queue} → QueueGood count q → queued_all empty_queue (take q.len q.reports) ≡ q
queued_again {count} {q} g =
    let n : 0 + length (take q.len q.reports) ≡ q.len = omega (arith, length-take q.len q.reports, g.slots, g.short) in
    let s = refilled zero_report zero_report queue_limit q.len q.reports g.slots g.short (λ i l m. g.rest i l) in
    all_queued empty_queue (take q.len q.reports) (omega (arith, n, g.short)) ∙ (λ i. record { reports = s i; len = n i })

-- ---- notes

pub used_greater : (n : Note) → is_unused n ≡ false → gives_way zero_note n ≡ true
unfolding is_unused gives_way
used_greater n = go n.term n.last n.len
  where
    go : (t l k : ℕ) → (eqb t 0 && (eqb l 0 && eqb k 0)) ≡ false → (ltb 0 t || (eqb 0 t && (ltb 0 l || (eqb 0 l && ltb 0 k)))) ≡ true
    go zero zero zero h = absurd (true≢false h)
    go zero zero (suc k) h = lt-ltb 0 (suc k) (omega arith)
    go zero (suc l) k h = rw (lt-ltb 0 (suc l) (omega arith))
    go (suc t) l k h = rw (lt-ltb 0 (suc t) (omega arith))
