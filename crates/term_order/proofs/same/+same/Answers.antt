use Rattle.std.proofs.Common.{arith, sym, ◌∙◌}
use Rattle.term_words.proofs.ByKind.Inside.{boxed-inside}
use Rattle.term_order.proofs.Passing.{first-of, second-of}
use Rattle.term_order.proofs.Sames.{one-word, one-list, one-boxed, row-none, row-more, rows-list, rows-boxed, rows-on, are-maps, one-map, map-words, rows-keys, rows-values, finds-map}
use Rattle.term_order.proofs.same.+same.Goals as goal

pub same_row-returns-then-n-eq0-clause-same : goal.same_row-returns-then-n-eq0-clause-same
same_row-returns-then-n-eq0-clause-same t c = λ some. row-none c.args.mem.now c.args.p c.args.q c.args.n c.args.most c.if-n-eq0.true

pub same_row-same_term-left-requires : goal.same_row-same_term-left-requires
same_row-same_term-left-requires t c = (omega arith, rw (c.get.ensures, c.get-2.ensures) (rows-on c.args.mem.now c.args.p c.args.q c.args.n (omega (arith, c.if-n-eq0.false)) c.requires).0)

pub same_row-same_row-requires : goal.same_row-same_row-requires
same_row-same_row-requires t c = (
  omega (arith, c.same_term-left.ensures.fewer, c.if-left-eq0.false),
  (rows-on c.args.mem.now c.args.p c.args.q c.args.n (omega (arith, c.if-n-eq0.false)) c.requires).1,
)

pub same_row-returns-clause-same : goal.same_row-returns-clause-same
same_row-returns-clause-same t c = λ some. row-more c.args.mem.now c.args.p c.args.q c.args.n c.args.most c.same_term-left.result c.same_row.result (omega (arith, c.if-n-eq0.false))
    c.same_row.ensures.fewer (rw (← c.get.ensures, ← c.get-2.ensures) (c.same_term-left.ensures.same (omega (arith, c.if-left-eq0.false)))) (c.same_row.ensures.same some)

pub same_term-returns-then-x-y-clause-same : goal.same_term-returns-then-x-y-clause-same
same_term-returns-then-x-y-clause-same t c = λ some. one-word c.args.mem.now c.args.x c.args.y c.args.most (omega (arith, c.if-most-eq0.false)) c.if-x-eq3.true c.if-x-y.true

pub same_term-same_row-requires : goal.same_term-same_row-requires
same_term-same_row-requires t c = (omega (arith, c.if-most-eq0.false), rows-list c.args.mem.now c.args.x c.args.y c.requires c.if-x-eq1.true c.if-y-eq1.true)

pub same_term-returns-then-y-eq1-clause-same : goal.same_term-returns-then-y-eq1-clause-same
same_term-returns-then-y-eq1-clause-same t c = λ some. one-list c.args.mem.now c.args.x c.args.y c.args.most c.same_row.result (omega (arith, c.if-most-eq0.false)) c.if-x-eq1.true c.if-y-eq1.true
    (c.same_row.ensures.same some)

pub same_term-get-head-requires : goal.same_term-get-head-requires
same_term-get-head-requires t c = omega (arith, boxed-inside c.args.mem.now c.args.x (first-of c.args.mem.now c.args.x c.args.y c.requires) c.if-x-ne2.false)

pub same_term-get-requires : goal.same_term-get-requires
same_term-get-requires t c = omega (arith, boxed-inside c.args.mem.now c.args.y (second-of c.args.mem.now c.args.x c.args.y c.requires) c.if-y-ne2.false)

pub same_term-same_row-requires-then-head-eq0 : goal.same_term-same_row-requires-then-head-eq0
same_term-same_row-requires-then-head-eq0 t c = (
  omega (arith, c.if-most-eq0.false),
  rows-boxed c.args.mem.now c.args.x c.args.y c.get-head.result c.requires c.if-x-ne2.false c.if-y-ne2.false c.get-head.ensures c.if-head-eq0.true (omega (arith, c.get.ensures, c.if-get-head.false)),
)

pub same_term-returns-then-head-eq0-clause-same : goal.same_term-returns-then-head-eq0-clause-same
same_term-returns-then-head-eq0-clause-same t c = λ some. one-boxed c.args.mem.now c.args.x c.args.y c.args.most c.same_row-then-head-eq0.result c.get-head.result (omega (arith, c.if-most-eq0.false))
    c.if-x-ne2.false c.if-y-ne2.false c.get-head.ensures c.if-head-eq0.true (omega (arith, c.get.ensures, c.if-get-head.false)) (c.same_row-then-head-eq0.ensures.same some)

pub same_term-same_map-requires : goal.same_term-same_map-requires
same_term-same_map-requires t c = (
  omega (arith, c.if-most-eq0.false),
  are-maps c.args.mem.now c.args.x c.args.y c.get-head.result c.requires c.if-x-ne2.false c.if-y-ne2.false c.get-head.ensures c.if-head-eq60.true (omega (arith, c.get.ensures, c.if-get-head.false)),
)

pub same_term-returns-then-head-eq60-clause-same : goal.same_term-returns-then-head-eq60-clause-same
same_term-returns-then-head-eq60-clause-same t c = λ some. one-map c.args.mem.now c.args.x c.args.y c.args.most c.same_map.result c.get-head.result (omega (arith, c.if-most-eq0.false))
    c.if-x-ne2.false c.if-y-ne2.false c.get-head.ensures c.if-head-eq60.true (omega (arith, c.get.ensures, c.if-get-head.false)) (c.same_map.ensures.same some)

pub same_map-get-len-requires : goal.same_map-get-len-requires
same_map-get-len-requires t c = omega (arith, map-words c.args.mem.now c.args.x c.args.y c.requires)

pub same_map-get-requires : goal.same_map-get-requires
same_map-get-requires t c = omega (arith, map-words c.args.mem.now c.args.x c.args.y c.requires)

pub same_map-get-requires-2 : goal.same_map-get-requires-2
same_map-get-requires-2 t c = omega (arith, map-words c.args.mem.now c.args.x c.args.y c.requires)

pub same_map-get-requires-3 : goal.same_map-get-requires-3
same_map-get-requires-3 t c = omega (arith, map-words c.args.mem.now c.args.x c.args.y c.requires)

pub same_map-same_row-left-requires : goal.same_map-same_row-left-requires
same_map-same_row-left-requires t c = (
  omega arith,
  rw (c.get-2.ensures, c.get-3.ensures) (rows-keys c.args.mem.now c.args.x c.args.y c.get-len.result c.requires (sym c.get-len.ensures) (sym c.get.ensures ∙ c.if-get-len.false)),
)

pub same_map-same_row-requires : goal.same_map-same_row-requires
same_map-same_row-requires t c = (
  omega (arith, c.same_row-left.ensures.fewer),
  rows-values c.args.mem.now c.args.x c.args.y c.get-len.result c.requires (sym c.get-len.ensures) (sym c.get.ensures ∙ c.if-get-len.false),
)

pub same_map-returns-clause-same : goal.same_map-returns-clause-same
same_map-returns-clause-same t c = λ some. finds-map c.args.mem.now c.args.x c.args.y c.get-len.result c.args.most c.same_row-left.result c.same_row.result
    (sym c.get-len.ensures) (sym c.get.ensures ∙ c.if-get-len.false) c.same_row.ensures.fewer
    (rw (← c.get-2.ensures, ← c.get-3.ensures) (c.same_row-left.ensures.same (omega (arith, c.if-left-eq0.false)))) (c.same_row.ensures.same some)
