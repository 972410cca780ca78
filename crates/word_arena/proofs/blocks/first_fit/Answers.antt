use Rattle.std.proofs.Common.{◌<◌, arith}
use Rattle.word_arena.specs.Blocks.{free_at, BlockBegins}
use Rattle.word_arena.proofs.Side.Facts.{walked}
use Rattle.word_arena.proofs.blocks.first_fit.Goals as goal

pub loop-at-preserved : goal.loop-at-preserved
loop-at-preserved c =
    let here : BlockBegins c.args.mem.now c.loop-at.at = c.loop-at.invariant.stop.begins (omega arith) in
    record {
      stop = c.next-at.ensures.stop;
      from = omega (arith, c.loop-at.invariant.from, c.next-at.ensures.after);
      less = λ p begins low high.
          walked (λ z. free_at c.args.mem.now z < c.args.words) c.args.mem.now c.args.from c.loop-at.at c.requires.blocked here
          c.loop-at.invariant.less (omega arith) p begins low (omega (arith, high, c.next-at.ensures.value));
    }
