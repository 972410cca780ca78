use Rattle.std.proofs.Common.{refl}
use Rattle.std.specs.declared.cmp.Ordering.TheVariants as ordering
use Rattle.term_order.proofs.Passing.{both-named, both-behind, first-term-behind, second-term-behind, named-behind, first-beyond, second-beyond, both-within, within-ordered}
use Rattle.term_order.proofs.Sames.{compares-one}
use Rattle.term_order.proofs.comparing.compare.Goals as goal

pub is_same-requires : goal.is_same-requires
is_same-requires c = both-behind c.args.mem.now c.args.a c.args.b c.pass_same-behind.result.left c.pass_same-behind.result.right c.pass_same-behind.result.cells
    (both-named c.args.mem.now c.args.names.now c.args.a c.args.b c.requires) c.pass_same-behind.ensures.passes

pub returns-then-is_same : goal.returns-then-is_same
returns-then-is_same c = compares-one c.args.mem.now c.args.names.now c.args.a c.args.b c.pass_same-behind.result.left c.pass_same-behind.result.right c.pass_same-behind.result.cells
    c.pass_same-behind.ensures.passes c.if-behind-lt-FEW_CELLS.true (c.if-is_same.ensures refl)

pub is_beyond_behind-requires-clause-term : goal.is_beyond_behind-requires-clause-term
is_beyond_behind-requires-clause-term c = first-term-behind c.args.mem.now c.args.names.now c.args.a c.args.b c.pass_same-behind.result.left c.pass_same-behind.result.right
    c.pass_same-behind.result.cells c.pass_same-behind.ensures.passes c.requires

pub returns-then-is_beyond_behind : goal.returns-then-is_beyond_behind
returns-then-is_beyond_behind c = first-beyond c.args.mem.now c.args.names.now c.args.a c.args.b c.pass_same-behind.result.left c.pass_same-behind.result.right c.pass_same-behind.result.cells
    c.pass_same-behind.ensures.passes c.if-is_beyond_behind.ensures

pub is_other_beyond-requires-clause-term : goal.is_other_beyond-requires-clause-term
is_other_beyond-requires-clause-term c = second-term-behind c.args.mem.now c.args.names.now c.args.a c.args.b c.pass_same-behind.result.left c.pass_same-behind.result.right
    c.pass_same-behind.result.cells c.pass_same-behind.ensures.passes c.requires

pub returns-then-is_other_beyond : goal.returns-then-is_other_beyond
returns-then-is_other_beyond c = second-beyond c.args.mem.now c.args.names.now c.args.a c.args.b c.pass_same-behind.result.left c.pass_same-behind.result.right c.pass_same-behind.result.cells
    c.pass_same-behind.ensures.passes c.if-is_other_beyond.ensures

pub order_within-requires-clause-named : goal.order_within-requires-clause-named
order_within-requires-clause-named c = named-behind c.args.mem.now c.args.names.now c.args.a c.args.b c.pass_same-behind.result.left c.pass_same-behind.result.right c.pass_same-behind.result.cells
    c.requires c.pass_same-behind.ensures.passes

pub order_within-requires-clause-within : goal.order_within-requires-clause-within
order_within-requires-clause-within c =
    both-within c.args.mem.now c.pass_same-behind.result.left c.pass_same-behind.result.right c.pass_same-behind.result.cells c.if-is_beyond_behind.ensures c.if-is_other_beyond.ensures

pub returns-in-Less : goal.returns-in-Less
returns-in-Less c =
    within-ordered c.args.mem.now c.args.names.now c.args.a c.args.b c.pass_same-behind.result.left c.pass_same-behind.result.right c.pass_same-behind.result.cells c.pass_same-behind.ensures.passes
    c.if-is_beyond_behind.ensures c.if-is_other_beyond.ensures c.order_within.result ordering.Less c.order_within.ensures c.in-Less.is

pub returns-in-Equal : goal.returns-in-Equal
returns-in-Equal c =
    within-ordered c.args.mem.now c.args.names.now c.args.a c.args.b c.pass_same-behind.result.left c.pass_same-behind.result.right c.pass_same-behind.result.cells c.pass_same-behind.ensures.passes
    c.if-is_beyond_behind.ensures c.if-is_other_beyond.ensures c.order_within.result ordering.Equal c.order_within.ensures c.in-Equal.is

pub returns-in-Greater : goal.returns-in-Greater
returns-in-Greater c =
    within-ordered c.args.mem.now c.args.names.now c.args.a c.args.b c.pass_same-behind.result.left c.pass_same-behind.result.right c.pass_same-behind.result.cells c.pass_same-behind.ensures.passes
    c.if-is_beyond_behind.ensures c.if-is_other_beyond.ensures c.order_within.result ordering.Greater c.order_within.ensures c.in-Greater.is
