use Rattle.std.proofs.Common.{[], ◌++◌, ◌∙◌, ap, arith}
use Rattle.term_print.proofs.Shortly.{cons-begins, leaf-gathers, row-begins, row-more, row-none}
use Rattle.term_print.proofs.short.+gathering.Goals as goal

pub gather_row-returns-then-len-eq0-clause-gathers : goal.gather_row-returns-then-len-eq0-clause-gathers
gather_row-returns-then-len-eq0-clause-gathers t c = λ some. row-none c.args.mem.now c.args.names.now c.args.first c.args.len c.args.more c.args.most c.args.text.now.items c.if-len-eq0.true

pub gather_row-gather_term-left-requires : goal.gather_row-gather_term-left-requires
gather_row-gather_term-left-requires t c = (omega arith, rw c.get.ensures (row-begins c.args.mem.now c.args.names.now c.args.first c.args.len (omega (arith, c.if-len-eq0.false)) c.requires).0)

pub gather_row-gather_row-requires : goal.gather_row-gather_row-requires
gather_row-gather_row-requires t c = (
  omega (arith, c.gather_term-left.ensures.fewer, c.if-left-eq0.false),
  (row-begins c.args.mem.now c.args.names.now c.args.first c.args.len (omega (arith, c.if-len-eq0.false)) c.requires).1,
)

pub gather_row-returns-clause-gathers : goal.gather_row-returns-clause-gathers
gather_row-returns-clause-gathers t c = λ some.
    row-more c.args.mem.now c.args.names.now c.args.first c.args.len c.args.most c.gather_term-left.result c.gather_row.result c.args.text.now.items c.add.new.text.items
    c.gather_term-left.new.text.items c.gather_row.new.text.items c.args.more (omega (arith, c.if-len-eq0.false))
    (c.add.ensures c.if-not-add.false ∙ ap (λ z. c.args.text.now.items ++ z) c.comma.ensures)
    (rw (← c.get.ensures) (c.gather_term-left.ensures.gathers (omega (arith, c.if-left-eq0.false)))) (c.gather_row.ensures.gathers some)

pub gather_term-gather_term-left-requires : goal.gather_term-gather_term-left-requires
gather_term-gather_term-left-requires t c = (
  omega (arith, c.if-most-eq0.false),
  rw c.get.ensures (cons-begins c.args.mem.now c.args.names.now c.args.w c.in-Cons.place c.look_at.result c.requires c.look_at.ensures.tree c.in-Cons.is).0,
)

pub gather_term-gather_term-requires : goal.gather_term-gather_term-requires
gather_term-gather_term-requires t c = (
  omega (arith, c.gather_term-left.ensures.fewer, c.if-left-eq0.false),
  rw c.get-in-Cons.ensures (cons-begins c.args.mem.now c.args.names.now c.args.w c.in-Cons.place c.look_at.result c.requires c.look_at.ensures.tree c.in-Cons.is).1,
)

pub gather_term-returns-else-not-gather_placed : goal.gather_term-returns-else-not-gather_placed
gather_term-returns-else-not-gather_placed t c = record {
  fewer = omega arith;
  gathers = λ some.
      leaf-gathers c.args.mem.now c.args.names.now c.args.w c.look_at.result c.args.tail c.args.most c.args.text.now.items c.gather_placed.new.text.items c.look_at.ensures.tree
      (c.gather_placed.ensures.leaf c.if-not-gather_placed.false) (omega (arith, some))
      (c.gather_placed.ensures.added c.if-not-gather_placed.false []);
}
