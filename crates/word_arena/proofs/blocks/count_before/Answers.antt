use Rattle.std.proofs.Common.{◌<◌, ◌≤◌, arith, inl, inr}
use Rattle.std.proofs.lemmas.Bool.{cases_lt}
use Rattle.word_arena.specs.Blocks.{BlockBegins}
use Rattle.word_arena.proofs.Side.Facts.{walked, free-most, block-within}
use Rattle.word_arena.proofs.Side.Before.{before-next, before-most}
use Rattle.word_arena.proofs.blocks.count_before.Goals as goal

pub overflow_add-sum : goal.overflow_add-sum
overflow_add-sum c =
    let here : BlockBegins c.args.mem.now c.loop-at.at = c.loop-at.invariant.stop.begins (omega arith) in
    omega (
      arith,
      before-most c.args.mem.now c.loop-at.at c.requires.blocked here,
      free-most c.args.mem.now c.loop-at.at,
      c.loop-at.invariant.sum,
      c.free-sum.ensures,
      c.bounded.ensures,
      (block-within _ _ c.requires.blocked here).to,
    )

pub loop-at-preserved : goal.loop-at-preserved
loop-at-preserved c =
    let here : BlockBegins c.args.mem.now c.loop-at.at = c.loop-at.invariant.stop.begins (omega arith) in
    record {
      stop = c.next-at.ensures.stop;
      from = omega (arith, c.loop-at.invariant.from, c.next-at.ensures.after);
      inner = λ p begins low high.
          walked (λ z. z < c.args.end) c.args.mem.now c.args.from c.loop-at.at c.requires.blocked here
          c.loop-at.invariant.inner c.loop-at-test.true p begins low (omega (arith, high, c.next-at.ensures.value));
      sum = rw c.next-at.ensures.value (omega (arith, before-next c.args.mem.now c.loop-at.at c.requires.blocked here, c.loop-at.invariant.sum, c.free-sum.ensures));
    }

pub returns-clause-next : goal.returns-clause-next
returns-clause-next c = λ p begins from past.
    elim (cases_lt p c.loop-at.at) as (λ _. c.loop-at.at ≤ p) [
      | inl below ↦ absurd (omega (arith, c.loop-at.invariant.inner p begins from below, past))
      | inr above ↦ above
    ]
