use Rattle.std.proofs.Common.{◌≡◌, ◌+◌, ◌*◌, arith, get_or, sym, ◌∙◌}
use Rattle.word_arena.specs.Blocks.{BlockBegins}
use Rattle.word_arena.proofs.Side.Facts.{apart, free-most, block-within}
use Rattle.word_arena.proofs.Side.Before.{before-next, before-most, before-idle}
use Rattle.word_arena.proofs.Slid.Summed.{first-sum}
use Rattle.word_arena.proofs.shifts.Shifts.before.Goals as goal

pub loop-p-init : goal.loop-p-init
loop-p-init c =
    let i = c.short_of-short.result in
    let mem = c.args.mem.now in
    let r = c.requires.summed in
    let e = r.at i (omega (arith, c.short_of-short.ensures, c.requires.inside, r.room.stretches)) in
    let first = get_or c.args.self.now.firsts.items i 0 in
    let f : c.start-p.result ≡ i * 8 + first = c.start-p.ensures in
    record {
      begins = λ below. rw f (e.first.begins (omega (arith, f, below, c.short_of-short.ensures)));
      passed = λ q begins low high. e.first.used q begins (omega (arith, low, c.short_of-short.ensures)) (omega (arith, f, high));
      sum = c.sum-sum.ensures ∙ e.sum ∙ rw f (first-sum mem i first e.first);
    }

pub overflow_add-sum : goal.overflow_add-sum
overflow_add-sum c =
    let here : BlockBegins c.args.mem.now c.loop-p.p = c.loop-p.invariant.begins c.loop-p-test.true in
    omega (
      arith,
      before-most c.args.mem.now c.loop-p.p c.requires.summed.blocked here,
      free-most c.args.mem.now c.loop-p.p,
      c.loop-p.invariant.sum,
      c.free-sum.ensures,
      c.bounded.ensures,
      (block-within _ _ c.requires.summed.blocked here).to,
    )

pub loop-p-preserved : goal.loop-p-preserved
loop-p-preserved c =
    let mem = c.args.mem.now in
    let here : BlockBegins mem c.loop-p.p = c.loop-p.invariant.begins c.loop-p-test.true in
    record {
      begins = λ below. c.next-p.ensures.stop.begins (omega (arith, below, c.requires.inside));
      passed = λ q begins low high. absurd (omega (arith, apart mem c.loop-p.p q c.requires.summed.blocked here begins (omega (arith, low, c.loop-p-test.true)), high, c.next-p.ensures.value));
      sum = rw c.next-p.ensures.value (omega (arith, before-next mem c.loop-p.p c.requires.summed.blocked here, c.loop-p.invariant.sum, c.free-sum.ensures));
    }

pub returns : goal.returns
returns c = c.loop-p.invariant.sum ∙ sym (before-idle c.args.mem.now c.args.at c.loop-p.p (omega (arith, c.loop-p-test.false)) c.loop-p.invariant.passed)
