-- The public function's contract allows one result, whatever the text. Assumes nothing.
use contract.Lifetimes.{Lfts}
use denote.Ref.{Bor}
use mathlib.Core.List.{List}
use Prim.Native.Nat.{ℕ}
use Rattle.base.proofs.Results.{OneResult, one_result}
use Rattle.orders.specs.Orders.{orders_in}
use Rattle.orders.proofs.orders_in.Reads as orders_in_reads

pub orders_in_lem : (κs : Lfts 1) (text : Bor (List ℕ)) → OneResult (λ x. orders_in_reads.Learnt κs (text, tt) x (text, tt))
orders_in_lem κs text = one_result (orders_in text.now)
