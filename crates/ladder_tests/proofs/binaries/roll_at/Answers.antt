use Rattle.ladder_tests.proofs.Rolls.{roll-is}
use Rattle.ladder_tests.proofs.binaries.roll_at.Goals as goal

pub returns : goal.returns
returns c = roll-is c.args.rolls.now c.args.id (0, 0) c.if-id-eq0.false c.if-id-rolls.false c.if-len-gt1024.false
