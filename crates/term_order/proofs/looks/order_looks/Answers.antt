use Rattle.term_order.proofs.Owning.{conses-same}
use Rattle.term_order.proofs.looks.order_looks.Goals as goal

pub returns-in-Cons-m : goal.returns-in-Cons-m
returns-in-Cons-m c = λ xs ys hx hy. conses-same c.args.mem.now c.args.names.now c.args.l c.args.m _ _ xs ys c.in-Cons.is c.in-Cons-m.is hx hy
