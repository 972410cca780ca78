use Rattle.std.proofs.Common.{◌≡◌, ℕ, ◌≤◌, List, drop}
use Rattle.plain_term.specs.Order.{bytes_order}
use Rattle.term_order.specs.Own.{IsBytes}
use Rattle.term_order.proofs.bytes.order_bytes.Given as goal

abbrev pub invariant-loop-i : goal.invariant-loop-i
invariant-loop-i l = record {
  few : l.i ≤ l.most;
  same : (xs ys : List ℕ) → IsBytes l.mem l.b xs → IsBytes l.mem l.d ys → bytes_order xs ys ≡ bytes_order (drop l.i xs) (drop l.i ys);
}
