use Rattle.std.proofs.Common.{reverse, refl, arith}
use Rattle.std.proofs.lemmas.Grind.{common_steps}
use Rattle.term_order.proofs.Walks.{first-deeper, second-deeper, compares-first, first-term, second-term, first-readable, second-readable, first-go, second-go, steps-few, orders-differ, orders-end, orders-more, compares-on, compares-past, orders-end-past, orders-more-past, first-left, second-left, is-equal, not-equal}
use Rattle.term_order.proofs.comparing.order_on.Goals as goal

pub loop-x-init : goal.loop-x-init
loop-x-init g c = compares-first c.args.mem.now c.args.names.now c.args.a c.args.b (reverse c.new-left.result.items) (reverse c.new-right.result.items) (rw c.new-left.ensures refl)
    (rw c.new-right.ensures refl)

pub look_at-l-requires : goal.look_at-l-requires
look_at-l-requires g c =
    first-term c.args.mem.now c.args.names.now c.args.a c.args.b c.loop-x.x c.loop-x.y (reverse c.loop-x.left.items) (reverse c.loop-x.right.items) c.loop-x.steps c.requires.named c.loop-x.invariant

pub look_at-m-requires : goal.look_at-m-requires
look_at-m-requires g c =
    second-term c.args.mem.now c.args.names.now c.args.a c.args.b c.loop-x.x c.loop-x.y (reverse c.loop-x.left.items) (reverse c.loop-x.right.items) c.loop-x.steps c.requires.named c.loop-x.invariant

pub order_looks-order-requires-clause-first : goal.order_looks-order-requires-clause-first
order_looks-order-requires-clause-first g c =
    first-readable c.args.mem.now c.args.names.now c.args.a c.args.b c.loop-x.x c.loop-x.y (reverse c.loop-x.left.items) (reverse c.loop-x.right.items) c.loop-x.steps c.requires.named
    c.loop-x.invariant c.look_at-l.result c.look_at-l.ensures.tree c.look_at-l.ensures.places

pub order_looks-order-requires-clause-second : goal.order_looks-order-requires-clause-second
order_looks-order-requires-clause-second g c =
    second-readable c.args.mem.now c.args.names.now c.args.a c.args.b c.loop-x.x c.loop-x.y (reverse c.loop-x.left.items) (reverse c.loop-x.right.items) c.loop-x.steps c.requires.named
    c.loop-x.invariant c.look_at-m.result c.look_at-m.ensures.tree c.look_at-m.ensures.places

pub returns-then-ne-clause-orders : goal.returns-then-ne-clause-orders
returns-then-ne-clause-orders g c =
    orders-differ c.args.mem.now c.args.names.now c.args.a c.args.b c.loop-x.x c.loop-x.y (reverse c.loop-x.left.items) (reverse c.loop-x.right.items) c.loop-x.steps
    c.look_at-l.result c.look_at-m.result c.order_looks-order.result c.loop-x.invariant c.look_at-l.ensures.tree c.look_at-m.ensures.tree c.order_looks-order.ensures
    (not-equal c.order_looks-order.result c.if-ne.ensures)

pub next-requires : goal.next-requires
next-requires g c = (
  grind (arith, common_steps, c.requires.most),
  (
    c.requires.most,
    first-go c.args.mem.now c.args.names.now c.args.a c.args.b c.loop-x.x c.loop-x.y (reverse c.loop-x.left.items) (reverse c.loop-x.right.items) c.loop-x.steps c.requires.named c.loop-x.invariant
        c.look_at-l.result c.look_at-l.ensures.tree,
  ),
)

pub next-requires-in-loop-x : goal.next-requires-in-loop-x
next-requires-in-loop-x g c = (
  grind (arith, common_steps, c.requires.most),
  (
    c.requires.most,
    second-go c.args.mem.now c.args.names.now c.args.a c.args.b c.loop-x.x c.loop-x.y (reverse c.loop-x.left.items) (reverse c.loop-x.right.items) c.loop-x.steps c.requires.named c.loop-x.invariant
        c.look_at-m.result c.look_at-m.ensures.tree,
  ),
)

pub returns-in_default-first-clause-orders : goal.returns-in_default-first-clause-orders
returns-in_default-first-clause-orders g c =
    orders-end c.args.mem.now c.args.names.now c.args.a c.args.b c.loop-x.x c.loop-x.y (reverse c.loop-x.left.items) (reverse c.loop-x.right.items) c.loop-x.steps
    c.look_at-l.result c.look_at-m.result c.order_looks-order.result c.loop-x.invariant c.look_at-l.ensures.tree c.look_at-m.ensures.tree c.order_looks-order.ensures
    (is-equal c.order_looks-order.result c.if-ne.ensures) c.requires.within c.in-Some-next.first c.in-Some-next-2.second (reverse c.next.new.levels.items) (reverse c.next-in-loop-x.new.levels.items)
    c.in-Some-next.ensures.steps c.in-Some-next-2.ensures.steps c.ended-in_default-first.result c.in_default-first.is c.ended-in_default-first.ensures

pub returns-in_default-second-clause-orders : goal.returns-in_default-second-clause-orders
returns-in_default-second-clause-orders g c =
    orders-more c.args.mem.now c.args.names.now c.args.a c.args.b c.loop-x.x c.loop-x.y (reverse c.loop-x.left.items) (reverse c.loop-x.right.items) c.loop-x.steps
    c.look_at-l.result c.look_at-m.result c.order_looks-order.result c.loop-x.invariant c.look_at-l.ensures.tree c.look_at-m.ensures.tree c.order_looks-order.ensures
    (is-equal c.order_looks-order.result c.if-ne.ensures) c.requires.within c.in-Some-next.first c.in-Some-next-2.second (reverse c.next.new.levels.items) (reverse c.next-in-loop-x.new.levels.items)
    c.in-Some-next.ensures.steps c.in-Some-next-2.ensures.steps c.in-Some-first.p c.in-Some-first.is c.in_default-second.is

pub overflow_add-steps-in-loop-x : goal.overflow_add-steps-in-loop-x
overflow_add-steps-in-loop-x g c = omega (
  arith,
  steps-few c.args.mem.now c.args.names.now c.args.a c.args.b c.loop-x.x c.loop-x.y (reverse c.loop-x.left.items) (reverse c.loop-x.right.items) c.loop-x.steps
      c.requires.named c.loop-x.invariant c.requires.within,
)

pub loop-x-smaller : goal.loop-x-smaller
loop-x-smaller g c = omega (
  arith,
  steps-few c.args.mem.now c.args.names.now c.args.a c.args.b c.loop-x.x c.loop-x.y (reverse c.loop-x.left.items) (reverse c.loop-x.right.items) c.loop-x.steps
      c.requires.named c.loop-x.invariant c.requires.within,
)

pub loop-x-preserved : goal.loop-x-preserved
loop-x-preserved g c =
    compares-on c.args.mem.now c.args.names.now c.args.a c.args.b c.loop-x.x c.loop-x.y (reverse c.loop-x.left.items) (reverse c.loop-x.right.items) c.loop-x.steps
    c.look_at-l.result c.look_at-m.result c.order_looks-order.result c.loop-x.invariant c.look_at-l.ensures.tree c.look_at-m.ensures.tree c.order_looks-order.ensures
    (is-equal c.order_looks-order.result c.if-ne.ensures) c.requires.within c.in-Some-next.first c.in-Some-next-2.second (reverse c.next.new.levels.items) (reverse c.next-in-loop-x.new.levels.items)
    c.in-Some-next.ensures.steps c.in-Some-next-2.ensures.steps c.in-Some-first.p c.in-Some-second.q c.in-Some-first.is c.in-Some-second.is

pub next_word-p-requires : goal.next_word-p-requires
next_word-p-requires g c = (
  grind (arith, common_steps, c.requires.most),
  first-left c.args.mem.now c.args.names.now c.args.a c.args.b c.loop-x.x c.loop-x.y (reverse c.loop-x.left.items) (reverse c.loop-x.right.items)
      c.loop-x.steps c.requires.named c.loop-x.invariant,
)

pub next_word-q-requires : goal.next_word-q-requires
next_word-q-requires g c = (
  grind (arith, common_steps, c.requires.most),
  second-left c.args.mem.now c.args.names.now c.args.a c.args.b c.loop-x.x c.loop-x.y (reverse c.loop-x.left.items) (reverse c.loop-x.right.items)
      c.loop-x.steps c.requires.named c.loop-x.invariant,
)

pub returns-in_default-clause-orders : goal.returns-in_default-clause-orders
returns-in_default-clause-orders g c =
    orders-end-past c.args.mem.now c.args.names.now c.args.a c.args.b c.loop-x.x c.loop-x.y (reverse c.loop-x.left.items) (reverse c.loop-x.right.items) c.loop-x.steps c.loop-x.invariant c.if-x-y.true
    c.next_word-p.result c.next_word-q.result (reverse c.next_word-p.new.levels.items) (reverse c.next_word-q.new.levels.items) c.next_word-p.ensures c.next_word-q.ensures
    c.ended.result c.in_default.is c.ended.ensures

pub returns-in_default-q-clause-orders : goal.returns-in_default-q-clause-orders
returns-in_default-q-clause-orders g c =
    orders-more-past c.args.mem.now c.args.names.now c.args.a c.args.b c.loop-x.x c.loop-x.y (reverse c.loop-x.left.items) (reverse c.loop-x.right.items) c.loop-x.steps c.loop-x.invariant
    c.if-x-y.true c.next_word-p.result c.next_word-q.result (reverse c.next_word-p.new.levels.items) (reverse c.next_word-q.new.levels.items) c.next_word-p.ensures c.next_word-q.ensures
    c.in-Some.p c.in-Some.is c.in_default-q.is

pub overflow_add-steps : goal.overflow_add-steps
overflow_add-steps g c = omega (
  arith,
  steps-few c.args.mem.now c.args.names.now c.args.a c.args.b c.loop-x.x c.loop-x.y (reverse c.loop-x.left.items) (reverse c.loop-x.right.items) c.loop-x.steps
      c.requires.named c.loop-x.invariant c.requires.within,
)

pub loop-x-smaller-then-x-y : goal.loop-x-smaller-then-x-y
loop-x-smaller-then-x-y g c = omega (
  arith,
  steps-few c.args.mem.now c.args.names.now c.args.a c.args.b c.loop-x.x c.loop-x.y (reverse c.loop-x.left.items) (reverse c.loop-x.right.items)
      c.loop-x.steps c.requires.named c.loop-x.invariant c.requires.within,
)

pub loop-x-preserved-then-x-y : goal.loop-x-preserved-then-x-y
loop-x-preserved-then-x-y g c =
    compares-past c.args.mem.now c.args.names.now c.args.a c.args.b c.loop-x.x c.loop-x.y (reverse c.loop-x.left.items) (reverse c.loop-x.right.items) c.loop-x.steps c.loop-x.invariant c.if-x-y.true
    c.next_word-p.result c.next_word-q.result (reverse c.next_word-p.new.levels.items) (reverse c.next_word-q.new.levels.items) c.next_word-p.ensures c.next_word-q.ensures
    c.in-Some.p c.in-Some-q.q c.in-Some.is c.in-Some-q.is

pub returns-in_default-next-clause-deep : goal.returns-in_default-next-clause-deep
returns-in_default-next-clause-deep g c =
    first-deeper c.args.mem.now c.args.names.now c.args.a c.args.b c.loop-x.x c.loop-x.y (reverse c.loop-x.left.items) (reverse c.loop-x.right.items) c.loop-x.steps c.requires.named c.loop-x.invariant
    g.row.N c.look_at-l.result c.look_at-l.ensures.tree c.requires.within c.in_default-next.ensures.deep

pub returns-in_default-next-2-clause-deep : goal.returns-in_default-next-2-clause-deep
returns-in_default-next-2-clause-deep g c =
    second-deeper c.args.mem.now c.args.names.now c.args.a c.args.b c.loop-x.x c.loop-x.y (reverse c.loop-x.left.items) (reverse c.loop-x.right.items) c.loop-x.steps c.requires.named
    c.loop-x.invariant g.row.N c.look_at-m.result c.look_at-m.ensures.tree c.requires.within c.in_default-next-2.ensures.deep
