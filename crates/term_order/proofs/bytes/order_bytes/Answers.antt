use Rattle.std.proofs.Common.{sym, ◌∙◌, arith}
use Rattle.term_order.proofs.Strings.{order-skip, order-ends, min-reached}
use Rattle.term_order.proofs.bytes.order_bytes.Goals as goal

pub loop-i-init : goal.loop-i-init
loop-i-init c = record {
  few = c.equal_words-start.ensures.few;
  same = λ xs ys hx hy. order-skip c.args.mem.now c.args.b c.args.d xs ys c.equal_words-start.result hx hy
      (omega (arith, c.equal_words-start.ensures.few, c.min-most.ensures)) (omega (arith, c.equal_words-start.ensures.few, c.min-most.ensures)) c.equal_words-start.ensures.same;
}

pub returns : goal.returns
returns c = λ xs ys hx hy.
    c.cmp-2.ensures
    ∙ order-ends c.args.mem.now c.args.b c.args.d xs ys c.loop-i.i hx hy (omega (arith, c.loop-i.invariant.few, c.min-most.ensures)) (omega (arith, c.loop-i.invariant.few, c.min-most.ensures))
    (min-reached c.args.b.len c.args.d.len c.loop-i.i (omega (arith, c.loop-i-test.false, c.min-most.ensures)))
    ∙ sym (c.loop-i.invariant.same xs ys hx hy)
