use Rattle.std.proofs.Common.{arith}
use Rattle.word_arena.specs.Blocks.{BlockBegins}
use Rattle.word_arena.proofs.Side.Facts.{stop-zero, free-most, block-within}
use Rattle.word_arena.proofs.Side.Summing.{sum-zero, sum-next, sum-all, sum-most}
use Rattle.word_arena.proofs.blocks.free_words.Goals as goal

pub loop-at-init : goal.loop-at-init
loop-at-init c = record { stop = stop-zero _ c.requires; sum = sum-zero _ }

pub overflow_add-all : goal.overflow_add-all
overflow_add-all c =
    let here : BlockBegins c.args.mem.now c.loop-at.at = c.loop-at.invariant.stop.begins (omega arith) in
    omega (
      arith,
      sum-most _ _ _ c.loop-at.invariant.sum,
      free-most c.args.mem.now c.loop-at.at,
      c.free-all.ensures,
      c.len-len.ensures.most,
      (block-within _ _ c.requires here).to,
    )

pub loop-at-preserved : goal.loop-at-preserved
loop-at-preserved c =
    let here : BlockBegins c.args.mem.now c.loop-at.at = c.loop-at.invariant.stop.begins (omega arith) in
    record {
      stop = c.next-at.ensures.stop;
      sum = rw (c.next-at.ensures.value, c.free-all.ensures) (sum-next _ _ _ c.requires here c.loop-at.invariant.sum);
    }

pub returns : goal.returns
returns c = sum-all c.args.mem.now c.loop-at.at c.loop-at.all (omega (arith, c.loop-at.invariant.stop.inside)) c.loop-at.invariant.sum
