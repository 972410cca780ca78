use Rattle.std.proofs.Common.{◌-◌, pos, get_or, arith}
use Rattle.plain_term.specs.declared.item.Item.TheVariants as item
use Rattle.trial_space.proofs.Weights.{item-light, weight-before}
use Rattle.trial_space.proofs.weight.weigh.Goals as goal

pub loop-i-preserved : goal.loop-i-preserved
loop-i-preserved c =
    let kept = c.loop-i.invariant in (
      omega arith,
      omega (arith, kept.1, c.weigh_item-sum.ensures, weight-before c.args.code.now c.loop-i.i (item.Int (pos 0)) c.loop-i-test.true kept.0),
      omega (arith, kept.2, c.weigh_item-sum.ensures, item-light (get_or c.args.code.now (c.loop-i.i - 1) (item.Int (pos 0)))),
    )
