use Rattle.std.proofs.Common.{◌≡◌, ◌≢◌, ◌+◌, arith}
use Rattle.word_arena.specs.Blocks.{size_at, kind_at, BlockBegins}
use Rattle.word_arena.proofs.Side.Facts.{walked, free-all, free-most, block-within}
use Rattle.word_arena.proofs.blocks.free_before.Goals as goal

pub loop-p-preserved : goal.loop-p-preserved
loop-p-preserved c =
    let here : BlockBegins c.args.mem.now c.loop-p.p = c.loop-p.invariant.stop.begins (omega arith) in
    record {
      stop = c.next-p.ensures.stop;
      none = λ q begins low high.
          walked (λ z. kind_at c.args.mem.now z ≡ 0 → z + size_at c.args.mem.now z ≢ c.args.at) c.args.mem.now c.args.from c.loop-p.p c.requires.blocked here
          c.loop-p.invariant.none (λ free same. omega (arith, free-all c.args.mem.now c.loop-p.p free, same, c.free.ensures))
          q begins low (omega (arith, high, c.next-p.ensures.value));
    }

pub overflow_add-p : goal.overflow_add-p
overflow_add-p c = omega (arith, free-most c.args.mem.now c.loop-p.p, block-within _ _ c.requires.blocked (c.loop-p.invariant.stop.begins (omega arith)), c.free.ensures, c.bounded.ensures)
