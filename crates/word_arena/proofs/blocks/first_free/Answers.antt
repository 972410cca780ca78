use Rattle.std.proofs.Common.{◌<◌, ◌≤◌, arith}
use Rattle.word_arena.specs.Blocks.{kind_at, BlockBegins}
use Rattle.word_arena.proofs.Side.Facts.{walked}
use Rattle.word_arena.proofs.blocks.first_free.Goals as goal

pub loop-at-preserved : goal.loop-at-preserved
loop-at-preserved c =
    let here : BlockBegins c.args.mem.now c.loop-at.at = c.loop-at.invariant.stop.begins (omega arith) in
    record {
      stop = c.next-at.ensures.stop;
      from = omega (arith, c.loop-at.invariant.from, c.next-at.ensures.after);
      passed = λ p begins low high.
          walked (λ z. (z < c.args.end) × (1 ≤ kind_at c.args.mem.now z)) c.args.mem.now c.args.from c.loop-at.at c.requires.blocked here
          c.loop-at.invariant.passed (c.loop-at-test.true, omega arith) p begins low (omega (arith, high, c.next-at.ensures.value));
    }
