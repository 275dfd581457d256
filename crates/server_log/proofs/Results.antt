-- Each public function's contract allows one result, whatever the arguments. Assumes nothing.
use Prim.Native.Nat.{ℕ}
use Rattle.base.proofs.Results.{OneResult, one_result}
use Rattle.server_log.specs.declared.Entry.{Entry}
use Rattle.server_log.specs.declared.Log.{Log}
use Rattle.server_log.specs.Entries.{applied_time, common_beginning, entry_at, equal_at, has_entry, is_beginning, last_term, same_entry, zero_entry}
use Rattle.server_log.specs.Logs.{appended, empty_log, has_room, joined, kept, latest_in, length_of, live, may_ask}
use Rattle.server_log.specs.Order.{entry_ok, in_order, is_empty_log, log_ok, place_ok, rest_zero}
use Rattle.server_log.specs.declared.rows.Latest.{Latest}
use Rattle.server_log.specs.declared.rows.Rows.{Rows}
use Rattle.server_log.specs.Rows.{value_for, latest_after, latest_over, between, rows_of, rows_ok}
use Rattle.server_log.proofs.zero_entry.Reads as zero_entry_reads
use Rattle.server_log.proofs.empty_log.Reads as empty_log_reads
use Rattle.server_log.proofs.same_entry.Reads as same_entry_reads
use Rattle.server_log.proofs.length_of.Reads as length_of_reads
use Rattle.server_log.proofs.entry_at.Reads as entry_at_reads
use Rattle.server_log.proofs.last_term.Reads as last_term_reads
use Rattle.server_log.proofs.time_at.Reads as time_at_reads
use Rattle.server_log.proofs.applied_time.Reads as applied_time_reads
use Rattle.server_log.proofs.equal_at.Reads as equal_at_reads
use Rattle.server_log.proofs.has_entry.Reads as has_entry_reads
use Rattle.server_log.proofs.may_ask.Reads as may_ask_reads
use Rattle.server_log.proofs.common_beginning.Reads as common_beginning_reads
use Rattle.server_log.proofs.is_beginning.Reads as is_beginning_reads
use Rattle.server_log.proofs.has_room.Reads as has_room_reads
use Rattle.server_log.proofs.append.Reads as append_reads
use Rattle.server_log.proofs.join.Reads as join_reads
use Rattle.server_log.proofs.latest_value.Reads as latest_value_reads
use Rattle.server_log.proofs.entry_ok.Reads as entry_ok_reads
use Rattle.server_log.proofs.place_ok.Reads as place_ok_reads
use Rattle.server_log.proofs.in_order.Reads as in_order_reads
use Rattle.server_log.proofs.rest_zero.Reads as rest_zero_reads
use Rattle.server_log.proofs.is_empty_log.Reads as is_empty_log_reads
use Rattle.server_log.proofs.log_ok.Reads as log_ok_reads
use Rattle.server_log.proofs.rows.value_for.Reads as value_for_reads
use Rattle.server_log.proofs.rows.latest_after.Reads as latest_after_reads
use Rattle.server_log.proofs.rows.latest_over.Reads as latest_over_reads
use Rattle.server_log.proofs.rows.rows_of.Reads as rows_of_reads
use Rattle.server_log.proofs.rows.rows_ok.Reads as rows_ok_reads

pub zero_entry_lem : OneResult (λ x. zero_entry_reads.Learnt tt tt x tt)
zero_entry_lem = one_result zero_entry

pub empty_log_lem : OneResult (λ x. empty_log_reads.Learnt tt tt x tt)
empty_log_lem = one_result empty_log

pub same_entry_lem : (d e : Entry) → OneResult (λ x. same_entry_reads.Learnt tt (d, (e, tt)) x (d, (e, tt)))
same_entry_lem d e = one_result (same_entry d e)

pub length_of_lem : (g : Log) → OneResult (λ x. length_of_reads.Learnt tt (g, tt) x (g, tt))
length_of_lem g = one_result (length_of g)

pub entry_at_lem : (g : Log) (n : ℕ) → OneResult (λ x. entry_at_reads.Learnt tt (g, (n, tt)) x (g, (n, tt)))
entry_at_lem g n = one_result (entry_at (live g) n)

pub last_term_lem : (g : Log) → OneResult (λ x. last_term_reads.Learnt tt (g, tt) x (g, tt))
last_term_lem g = one_result (last_term (live g))

pub time_at_lem : (g : Log) (n : ℕ) → OneResult (λ x. time_at_reads.Learnt tt (g, (n, tt)) x (g, (n, tt)))
time_at_lem g n = one_result (entry_at (live g) n).time

pub applied_time_lem : (g : Log) → OneResult (λ x. applied_time_reads.Learnt tt (g, tt) x (g, tt))
applied_time_lem g = one_result (applied_time (live g))

pub equal_at_lem : (a b : Log) (n : ℕ) → OneResult (λ x. equal_at_reads.Learnt tt (a, (b, (n, tt))) x (a, (b, (n, tt))))
equal_at_lem a b n = one_result (equal_at (live a) (live b) n)

pub has_entry_lem : (g : Log) (n term : ℕ) → OneResult (λ x. has_entry_reads.Learnt tt (g, (n, (term, tt))) x (g, (n, (term, tt))))
has_entry_lem g n term = one_result (has_entry (live g) n term)

pub may_ask_lem : (n term : ℕ) → OneResult (λ x. may_ask_reads.Learnt tt (n, (term, tt)) x (n, (term, tt)))
may_ask_lem n term = one_result (may_ask n term)

pub common_beginning_lem : (a b : Log) → OneResult (λ x. common_beginning_reads.Learnt tt (a, (b, tt)) x (a, (b, tt)))
common_beginning_lem a b = one_result (common_beginning (live a) (live b))

pub is_beginning_lem : (a b : Log) → OneResult (λ x. is_beginning_reads.Learnt tt (a, (b, tt)) x (a, (b, tt)))
is_beginning_lem a b = one_result (is_beginning (live a) (live b))

pub has_room_lem : (g : Log) → OneResult (λ x. has_room_reads.Learnt tt (g, tt) x (g, tt))
has_room_lem g = one_result (has_room g)

pub append_lem : (g : Log) (e : Entry) → OneResult (λ x. append_reads.Learnt tt (g, (e, tt)) x (g, (e, tt)))
append_lem g e = one_result (appended g e)

pub join_lem : (a b : Log) (k : ℕ) → OneResult (λ x. join_reads.Learnt tt (a, (b, (k, tt))) x (a, (b, (k, tt))))
join_lem a b k = one_result (joined a b k)

pub latest_value_lem : (g : Log) (key n : ℕ) → OneResult (λ x. latest_value_reads.Learnt tt (g, (key, (n, tt))) x (g, (key, (n, tt))))
latest_value_lem g key n = one_result (latest_in g key n)

pub entry_ok_lem : (term : ℕ) (e : Entry) → OneResult (λ x. entry_ok_reads.Learnt tt (term, (e, tt)) x (term, (e, tt)))
entry_ok_lem term e = one_result (entry_ok term e)

pub place_ok_lem : (term i : ℕ) (d e : Entry) → OneResult (λ x. place_ok_reads.Learnt tt (term, (i, (d, (e, tt)))) x (term, (i, (d, (e, tt)))))
place_ok_lem term i d e = one_result (place_ok term i d e)

pub in_order_lem : (g : Log) (term : ℕ) → OneResult (λ x. in_order_reads.Learnt tt (g, (term, tt)) x (g, (term, tt)))
in_order_lem g term = one_result (in_order term (kept g))

pub rest_zero_lem : (g : Log) (k : ℕ) → OneResult (λ x. rest_zero_reads.Learnt tt (g, (k, tt)) x (g, (k, tt)))
rest_zero_lem g k = one_result (rest_zero g k)

pub is_empty_log_lem : (g : Log) → OneResult (λ x. is_empty_log_reads.Learnt tt (g, tt) x (g, tt))
is_empty_log_lem g = one_result (is_empty_log g)

pub log_ok_lem : (g : Log) (term : ℕ) → OneResult (λ x. log_ok_reads.Learnt tt (g, (term, tt)) x (g, (term, tt)))
log_ok_lem g term = one_result (log_ok term g)

pub value_for_lem : (v : Latest) (key : ℕ) → OneResult (λ x. value_for_reads.Learnt tt (v, (key, tt)) x (v, (key, tt)))
value_for_lem v key = one_result (value_for v key)

pub latest_after_lem : (v : Latest) (e : Entry) → OneResult (λ x. latest_after_reads.Learnt tt (v, (e, tt)) x (v, (e, tt)))
latest_after_lem v e = one_result (latest_after v e)

pub latest_over_lem : (v : Latest) (g : Log) (k n : ℕ) → OneResult (λ x. latest_over_reads.Learnt tt (v, (g, (k, (n, tt)))) x (v, (g, (k, (n, tt)))))
latest_over_lem v g k n = one_result (latest_over v (between g k n))

pub rows_of_lem : (g : Log) (commit : ℕ) → OneResult (λ x. rows_of_reads.Learnt tt (g, (commit, tt)) x (g, (commit, tt)))
rows_of_lem g commit = one_result (rows_of g commit)

pub rows_ok_lem : (r : Rows) (g : Log) (commit : ℕ) → OneResult (λ x. rows_ok_reads.Learnt tt (r, (g, (commit, tt))) x (r, (g, (commit, tt))))
rows_ok_lem r g commit = one_result (rows_ok r g commit)
