use Rattle.item_build.proofs.Turned.Marks.{wide-small}
use Rattle.item_build.proofs.putting.is_big_key.Goals as goal

pub returns-then-w-eq-WIDE : goal.returns-then-w-eq-WIDE
returns-then-w-eq-WIDE c = λ k shared m is. wide-small k shared c.args.mem.now c.args.w m c.if-w-eq-WIDE.true is
