use Rattle.std.proofs.Common.{[], refl}
use Rattle.term_order.proofs.Walks.{compares-first, first-readable, second-readable, orders-differ, orders-same, not-equal}
use Rattle.term_order.proofs.comparing.order_within.Goals as goal

pub returns-then-a-b : goal.returns-then-a-b
returns-then-a-b c = orders-same c.args.mem.now c.args.names.now c.args.a c.args.b c.if-a-b.true

pub order_looks-order-requires-clause-first : goal.order_looks-order-requires-clause-first
order_looks-order-requires-clause-first c =
    first-readable c.args.mem.now c.args.names.now c.args.a c.args.b c.args.a c.args.b [] [] 0 c.requires.named (compares-first c.args.mem.now c.args.names.now c.args.a c.args.b [] [] refl refl)
    c.look_at-l.result c.look_at-l.ensures.tree c.look_at-l.ensures.places

pub order_looks-order-requires-clause-second : goal.order_looks-order-requires-clause-second
order_looks-order-requires-clause-second c =
    second-readable c.args.mem.now c.args.names.now c.args.a c.args.b c.args.a c.args.b [] [] 0 c.requires.named (compares-first c.args.mem.now c.args.names.now c.args.a c.args.b [] [] refl refl)
    c.look_at-m.result c.look_at-m.ensures.tree c.look_at-m.ensures.places

pub returns-then-ne : goal.returns-then-ne
returns-then-ne c =
    orders-differ c.args.mem.now c.args.names.now c.args.a c.args.b c.args.a c.args.b [] [] 0 c.look_at-l.result c.look_at-m.result c.order_looks-order.result
    (compares-first c.args.mem.now c.args.names.now c.args.a c.args.b [] [] refl refl) c.look_at-l.ensures.tree c.look_at-m.ensures.tree c.order_looks-order.ensures
    (not-equal c.order_looks-order.result c.if-ne.ensures)
